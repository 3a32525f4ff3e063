-- What the radio writes, the host's parsers read back. Assumes nothing.
use Prim.Native.Nat.{ℕ, zero, suc, ◌+◌, ◌-◌, ◌*◌, ◌^◌, ◌≤◌, ◌<◌}
use mathlib.Core.Path.{◌≡◌, refl, sym, ap, ◌∙◌, subst}
use mathlib.Core.Bool.{Bool, true, false, ◌&&◌, and-false}
use mathlib.Core.Logic.{◌⊎◌, inl, inr, ⊎_elim}
use mathlib.Core.List.{List, [], ◌∷◌, ◌++◌, map}
use lib.ListN.{length, get_or, take, drop, length-map, get_or-map}
use lib.Seq.{take_all, take_at, drop_at, length-take-le}
use lib.Dec.{T, leb, eqb}
use lib.IntN.{ℤ, pos, negsuc, nat_abs}
use lib.Ieee.{Float}
use lib.Ieee.Exact.{HasValue}
use lib.Ieee.Bits.{is_true}
use lib.Ieee.Fits.{and_l, and_r}
use native.Mathlib.Nat.{mod-eq_of_lt, zero-add}
use native.Mathlib.Omega.{arith}
use borrow.Author.Tests.{ltb-true, le-leb, lt-leb, eq-eqb, ne_eqb}
use Rattle.base.specs.Each.{Each}
use Rattle.base.specs.Told.{gives}
use Rattle.octets.specs.Number.{be, be_at}
use Rattle.octets.specs.Packet.{Field, packet, outside}
use Rattle.octets.specs.Written.{written}
use Rattle.octets.proofs.Numbers.{length-be, be_at-one, be_at-be, be_at-front, be_at-behind}
use Rattle.octets.proofs.Packets.{length-packet, read-exact, unnamed}
use Rattle.octets.proofs.Writes.{length-written, get_or-written-out}
use Rattle.octets.proofs.Tables.{tab-ext, tab-take}
use Rattle.base.proofs.Picks.{pick-t, pick-f}
use Rattle.iq.specs.Iq.{minus, magnitude, sample_of, samples_of, count_of, header_told}
use Rattle.iq.proofs.Headers.{past}
use Rattle.iq.proofs.Samples.{sample-exact}
use Rattle.wire.specs.Status.{overload_told, overloaded}
use Rattle.discovery.specs.Reply.{status_number, is_status, checked, is_p1, is_p2, reply_told}
use Rattle.discovery.specs.declared.DiscoveryStatus.{DiscoveryStatus}
use Rattle.discovery.specs.declared.DiscoveryStatus.TheVariants.{Available, InUse}
use Rattle.discovery.specs.declared.ReplyAnswer.TheVariants.{Protocol2}
use Rattle.radio_packets.specs.Iq.{is24, bits_of, all24, is_pairs, octets_of, iq_fields, iq_datagram}
use Rattle.radio_packets.specs.Status.{status_octet, status_fields, status_packet}
use Rattle.radio_packets.specs.Reply.{reply_fields, reply_octets}
use Rattle.radio_packets.specs.Back.{is_negative, over23, IqBack, StatusBack, ReplyBack}
use Rattle.radio_packets.proofs.Signed.{bits_small, all-at, pairs-are}
use Rattle.radio_packets.proofs.Datagrams.{length-header, length-datagram}
use Rattle.radio_packets.proofs.Replies.{status-small, length_fields}

-- ---- a number's bits are the sample's

bits-sign : (x : ℤ) → is24 x ≡ true → minus (bits_of x) ≡ is_negative x
bits-sign (pos n) h = let l = ltb-true n 8388608 h in lt-leb 8388608 n l
bits-sign (negsuc n) h = let l = ltb-true n 8388608 h in le-leb 8388608 (16777216 - (n + 1)) (omega arith)

bits-size : (x : ℤ) → is24 x ≡ true → magnitude (bits_of x) ≡ nat_abs x
unfolding magnitude
bits-size (pos n) h = pick-f _ _ _ (bits-sign (pos n) h)
bits-size (negsuc n) h = let l = ltb-true n 8388608 h in pick-t _ _ _ (bits-sign (negsuc n) h) ∙ omega arith

pub sample-over : (x : ℤ) → is24 x ≡ true → sample_of (bits_of x) ≡ over23 x
unfolding sample_of over23
sample-over x h = rw (bits-sign x h, bits-size x h)

over-exact : (x : ℤ) → is24 x ≡ true → HasValue (over23 x) (is_negative x) (nat_abs x) 8388608
over-exact x h =
    subst (λ (s : Bool). HasValue (over23 x) s (nat_abs x) 8388608) (bits-sign x h)
    (subst (λ (n : ℕ). HasValue (over23 x) (minus (bits_of x)) n 8388608) (bits-size x h)
    (subst (λ (v : Float). HasValue v (minus (bits_of x)) (magnitude (bits_of x)) 8388608) (sample-over x h) (sample-exact (bits_of x) (bits_small x h))))

all-exact : (xs : List ℤ) → all24 xs ≡ true → Each (λ x. HasValue (over23 x) (is_negative x) (nat_abs x) 8388608) xs
all-exact [] h = tt
all-exact (x ∷ xs) h =
    let t : T (is24 x && all24 xs) = subst T (sym h) tt in
    (over-exact x (is_true (is24 x) (and_l (is24 x) (all24 xs) t)), all-exact xs (is_true (all24 xs) (and_r (is24 x) (all24 xs) t)))

-- ---- the numbers, read where they stand

octets-at : (xs : List ℤ) (i : ℕ) → all24 xs ≡ true → i < length xs → be_at 3 (octets_of xs) (3 * i) ≡ bits_of (get_or xs i (pos 0))
unfolding octets_of
octets-at [] i h l = absurd (omega arith)
octets-at (x ∷ xs) zero h l =
    let t : T (is24 x && all24 xs) = subst T (sym h) tt in
    be_at-front 3 (be 3 (bits_of x)) (octets_of xs) 0 (omega (arith, length-be 3 (bits_of x)))
    ∙ be_at-be 3 (bits_of x)
    ∙ mod-eq_of_lt (bits_small x (is_true (is24 x) (and_l (is24 x) (all24 xs) t)))
octets-at (x ∷ xs) (suc i) h l =
    let t : T (is24 x && all24 xs) = subst T (sym h) tt in
    let e : 3 * suc i ≡ 3 + 3 * i = omega arith in
    ap (be_at 3 (be 3 (bits_of x) ++ octets_of xs)) e
    ∙ be_at-behind 3 (be 3 (bits_of x)) (octets_of xs) 3 (3 * i) (length-be 3 (bits_of x))
    ∙ octets-at xs i (is_true (all24 xs) (and_r (is24 x) (all24 xs) t)) (omega arith)

module _ (count : ℕ) (xs : List ℤ) (small : count < 2 ^ 32) (h : is_pairs xs ≡ true) where
  abbrev w : List ℕ
  w = iq_datagram count xs

  abbrev header : List ℕ
  header = packet 16 (iq_fields count)

  size : length xs ≡ 476
  size = (pairs-are xs h).0

  -- the header's fields
  fields : Each (λ f. be_at f.width header f.at ≡ f.value) (iq_fields count)
  fields = read-exact 16 (iq_fields count) tt tt (omega arith)

  in-header : (k at : ℕ) → at + k ≤ 16 → be_at k w at ≡ be_at k header at
  unfolding iq_datagram
  in-header k at l = be_at-front k header (octets_of xs) at (omega (arith, length-header count))

  pub header-told : header_told w ≡ gives (count ∷ [])
  unfolding header_told
  header-told =
      past w (count_of w) (length-datagram count xs size) (in-header 2 12 (omega arith) ∙ fields.1.0) (in-header 2 14 (omega arith) ∙ fields.1.1.0)
      ∙ ap (λ (n : ℕ). gives (n ∷ [])) (in-header 4 0 (omega arith) ∙ fields.0)

  -- the i-th number
  pub number_at : (i : ℕ) → i < 476 → be_at 3 w (16 + 3 * i) ≡ bits_of (get_or xs i (pos 0))
  unfolding iq_datagram
  number_at i l = be_at-behind 3 header (octets_of xs) 16 (3 * i) (length-header count) ∙ octets-at xs i (pairs-are xs h).1 (omega (arith, size))

  samples-are : samples_of w ≡ map over23 xs
  unfolding samples_of
  samples-are =
      let l : length (map over23 xs) ≡ 476 = length-map xs over23 ∙ size in
      tab-ext 476 _ (λ (i : ℕ). get_or (map over23 xs) (0 + i) (over23 (pos 0)))
      (λ i b.
      ap sample_of (number_at i b)
      ∙ sample-over (get_or xs i (pos 0)) (all-at xs i (pos 0) (omega (arith, size)) (pairs-are xs h).1)
      ∙ sym (ap (λ (j : ℕ). get_or (map over23 xs) j (over23 (pos 0))) (zero-add i) ∙ get_or-map over23 xs i (pos 0)))
      ∙ tab-take 476 (map over23 xs) 0 (over23 (pos 0)) (omega arith)
      ∙ take_all 476 (map over23 xs) (omega arith)

  pub iq-back : IqBack count xs w
  iq-back = record { told = header-told; samples = samples-are; exact = all-exact xs (pairs-are xs h).1 }

-- ---- a status packet

pub length-status : (overload : Bool) → length (status_packet overload) ≡ 60
unfolding status_packet
length-status overload = length-packet 60 (status_fields overload) tt

pub octet-small : (overload : Bool) → status_octet overload < 256
octet-small true = omega arith
octet-small false = omega arith

pub status-octet : (overload : Bool) → get_or (status_packet overload) 5 0 ≡ status_octet overload
unfolding status_packet
status-octet overload = sym (be_at-one (packet 60 (status_fields overload)) 5) ∙ (read-exact 60 (status_fields overload) tt tt (octet-small overload, tt)).0

pub status-back : (overload : Bool) → StatusBack overload (status_packet overload)
unfolding overload_told overloaded
status-back overload =
    record {
      bits = status_octet overload;
      told = pick-t _ _ _ (eq-eqb (length (status_packet overload)) 60 (length-status overload)) ∙ ap (λ (n : ℕ). gives (n ∷ [])) (status-octet overload);
      bit = bit overload;
    }
  where
    bit : (b : Bool) → overloaded (status_octet b) ≡ b
    bit true = refl
    bit false = refl

-- ---- a discovery reply

module _ (status : DiscoveryStatus) (board firmware receivers : ℕ) (mac : List ℕ) (b : board < 256) (f : firmware < 256) (r : receivers < 256) (n : length mac ≡ 6) where
  abbrev fs : List Field
  fs = reply_fields status board firmware receivers

  abbrev reply60 : List ℕ
  reply60 = reply_octets status board firmware receivers mac

  pub length-reply : length reply60 ≡ 60
  unfolding reply_octets
  length-reply = length-written (packet 60 fs) 5 mac (omega (arith, length_fields status board firmware receivers)) ∙ length_fields status board firmware receivers

  -- a place that the address does not have is the fields'
  pub reply-beside : (i : ℕ) → (i < 5) ⊎ (11 ≤ i) → get_or reply60 i 0 ≡ get_or (packet 60 fs) i 0
  unfolding reply_octets
  reply-beside i o =
      get_or-written-out (packet 60 fs) 5 mac i 0 (omega (arith, length_fields status board firmware receivers)) (⊎_elim (λ l. inl l) (λ l. inr (omega arith)) o)

  fields_read : Each (λ x. be_at x.width (packet 60 fs) x.at ≡ x.value) fs
  fields_read = read-exact 60 fs tt tt (status-small status, (b, (f, (r, tt))))

  at_field : (i v : ℕ) → (i < 5) ⊎ (11 ≤ i) → be_at 1 (packet 60 fs) i ≡ v → get_or reply60 i 0 ≡ v
  at_field i v o e = reply-beside i o ∙ sym (be_at-one (packet 60 fs) i) ∙ e

  pub reply-status : get_or reply60 4 0 ≡ status_number status
  reply-status = at_field 4 _ (inl (omega arith)) fields_read.0

  pub reply-board : get_or reply60 11 0 ≡ board
  reply-board = at_field 11 _ (inr (omega arith)) fields_read.1.0

  pub reply-firmware : get_or reply60 13 0 ≡ firmware
  reply-firmware = at_field 13 _ (inr (omega arith)) fields_read.1.1.0

  pub reply-receivers : get_or reply60 20 0 ≡ receivers
  reply-receivers = at_field 20 _ (inr (omega arith)) fields_read.1.1.1.0

  pub reply-mac : take 6 (drop 5 reply60) ≡ mac
  unfolding reply_octets written
  reply-mac =
      let front = take 5 (packet 60 fs) in
      ap (take 6) (drop_at front (mac ++ drop (5 + length mac) (packet 60 fs)) 5 (length-take-le 5 (packet 60 fs) (omega (arith, length_fields status board firmware receivers))))
      ∙ take_at mac (drop (5 + length mac) (packet 60 fs)) 6 n

  zero-at : (i : ℕ) → i < 4 → T (outside i 1 fs) → get_or reply60 i 0 ≡ 0
  zero-at i l t = reply-beside i (inl (omega arith)) ∙ unnamed 60 fs i tt (omega arith) t

  front-zero : (k : ℕ) → k < 4 → get_or reply60 (0 + k) 0 ≡ 0
  front-zero k l = ap (λ (j : ℕ). get_or reply60 j 0) (zero-add k) ∙ go k l
    where
      go : (k : ℕ) → k < 4 → get_or reply60 k 0 ≡ 0
      go zero l = zero-at 0 (omega arith) tt
      go (suc zero) l = zero-at 1 (omega arith) tt
      go (suc (suc zero)) l = zero-at 2 (omega arith) tt
      go (suc (suc (suc zero))) l = zero-at 3 (omega arith) tt
      go (suc (suc (suc (suc k)))) l = absurd (omega arith)

  not-p1 : is_p1 reply60 ≡ false
  not-p1 = ap (λ (t : Bool). leb 11 (length reply60) && t) (ne_eqb (be_at 2 reply60 0) 0xEFFE (λ e. omega (arith, e, front-zero 0 (omega arith), front-zero 1 (omega arith)))) ∙ and-false (leb 11 (length reply60))

  is-p2 : is_p2 reply60 ≡ true
  is-p2 =
      ap (λ (t : Bool). t && eqb (be_at 4 reply60 0) 0) (le-leb 21 (length reply60) (omega (arith, length-reply)))
      ∙ eq-eqb (be_at 4 reply60 0) 0 (omega (arith, front-zero 0 (omega arith), front-zero 1 (omega arith), front-zero 2 (omega arith), front-zero 3 (omega arith)))

  a-status : (s : DiscoveryStatus) → is_status (status_number s) ≡ true
  a-status Available = refl
  a-status InUse = refl

  pub reply-back : ReplyBack (Protocol2 status board firmware receivers) mac reply60
  unfolding reply_told checked
  reply-back =
      pick-f _ _ _ not-p1
      ∙ pick-t _ _ _ is-p2
      ∙ pick-t _ _ _ (ap is_status reply-status ∙ a-status status)
      ∙ rw (reply-status, reply-board, reply-firmware, reply-receivers, reply-mac)

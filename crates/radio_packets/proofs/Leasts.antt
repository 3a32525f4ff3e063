-- What the radio writes is the least that the host reads so: at every place it has the octet that the reading fixes, or 0. Assumes
-- nothing.
use Prim.Native.Nat.{ℕ, ◌+◌, ◌-◌, ◌*◌, ◌/◌, ◌%◌, ◌^◌, ◌≤◌, ◌<◌}
use mathlib.Core.Path.{◌≡◌, sym, ap, ◌∙◌, subst}
use mathlib.Core.Bool.{Bool, true, false}
use mathlib.Core.Logic.{◌⊎◌, inl, inr}
use mathlib.Core.List.{List, [], ◌∷◌}
use lib.ListN.{length, get_or, take, drop, get_or-append}
use lib.Seq.{get_or-take, get_or-drop}
use lib.Dec.{T}
use lib.IntN.{ℤ}
use lib.Ieee.{Float}
use native.Mathlib.Nat.{le_of_eq}
use native.Mathlib.Omega.{arith}
use borrow.Author.Tests.{eqb-true}
use Rattle.octets.specs.Number.{be, be_at}
use Rattle.octets.specs.Packet.{Field, packet, outside}
use Rattle.octets.specs.Order.{Octets}
use Rattle.octets.proofs.Numbers.{be-octet, be_at-lt}
use Rattle.octets.proofs.Orders.{pointwise}
use Rattle.octets.proofs.Shapes.{below_or, octets-packet, octets-append, same-octets, unnamed-run}
use Rattle.octets.proofs.Tables.{get_or-tab}
use Rattle.iq.specs.Iq.{sample_of, samples_of}
use Rattle.iq.proofs.Headers.{right-header}
use Rattle.iq.proofs.Samples.{sample-once}
use Rattle.wire.specs.Status.{overloaded}
use Rattle.discovery.specs.Reply.{status_number}
use Rattle.discovery.specs.declared.DiscoveryStatus.{DiscoveryStatus}
use Rattle.discovery.proofs.Replies.{Places, places}
use Rattle.radio_packets.specs.Iq.{bits_of, is_pairs, octets_of, iq_fields, iq_datagram}
use Rattle.radio_packets.specs.Status.{status_octet, status_fields, status_packet}
use Rattle.radio_packets.specs.Reply.{reply_fields, reply_octets}
use Rattle.radio_packets.specs.Least.{Least, AlikeIq, AlikeStatus, AlikeReply}
use Rattle.radio_packets.proofs.Signed.{pairs-are}
use Rattle.radio_packets.proofs.Datagrams.{length-header, length-datagram}
use Rattle.radio_packets.proofs.Backs.{header-told, length-status, status-octet, length-reply, reply-beside, reply-status, reply-board, reply-firmware, reply-receivers, reply-mac, reply-back}

-- an octet that is 0
least_zero : (a b : ℕ) → a ≡ 0 → a ≤ b
least_zero a b e = omega arith

-- ---- I/Q

octets-of : (xs : List ℤ) → Octets (octets_of xs)
unfolding octets_of
octets-of [] k = omega arith
octets-of (x ∷ xs) k = octets-append (be 3 (bits_of x)) (octets_of xs) (be-octet 3 (bits_of x)) (octets-of xs) k

octets-datagram : (count : ℕ) (xs : List ℤ) → Octets (iq_datagram count xs)
unfolding iq_datagram
octets-datagram count xs = octets-append (packet 16 (iq_fields count)) (octets_of xs) (octets-packet 16 (iq_fields count) tt) (octets-of xs)

module _ (count : ℕ) (xs : List ℤ) (small : count < 2 ^ 32) (h : is_pairs xs ≡ true) where
  abbrev w : List ℕ
  w = iq_datagram count xs

  size : length w ≡ 1444
  size = length-datagram count xs (pairs-are xs h).0

  -- between the count and the bits
  unnamed-zero : (i : ℕ) → 4 ≤ i → i < 12 → get_or w i 0 ≡ 0
  unfolding iq_datagram
  unnamed-zero i l u =
      get_or-append (packet 16 (iq_fields count)) (octets_of xs) 0 i (omega (arith, length-header count))
      ∙ unnamed-run 16 (iq_fields count) tt tt 4 8 (omega arith) tt i l (omega arith)

  module _ (b : List ℕ) (e : length b ≡ length w) (o : Octets b) (alike : AlikeIq b w) where
    fields : (length b ≡ 1444) × (be_at 2 b 12 ≡ 24) × (be_at 2 b 14 ≡ 238) × (count ≡ be_at 4 b 0)
    fields = right-header b count (sym (alike.told ∙ header-told count xs small h))

    fields-w : (length w ≡ 1444) × (be_at 2 w 12 ≡ 24) × (be_at 2 w 14 ≡ 238) × (count ≡ be_at 4 w 0)
    fields-w = right-header w count (sym (header-told count xs small h))

    -- a number that both have
    alike_at : (k at i : ℕ) → be_at k w at ≡ be_at k b at → at + k ≤ 1444 → at ≤ i → i < at + k → get_or w i 0 ≤ get_or b i 0
    alike_at k at i q n l u = le_of_eq (same-octets k w b at i q (octets-datagram count xs) o (omega (arith, size)) (omega (arith, size)) l u)

    sample-alike : (j : ℕ) → j < 476 → be_at 3 w (16 + 3 * j) ≡ be_at 3 b (16 + 3 * j)
    unfolding samples_of
    sample-alike j l =
        let z = sample_of 0 in
        let s : (d : List ℕ) → get_or (samples_of d) j z ≡ sample_of (be_at 3 d (16 + 3 * j)) = λ d. get_or-tab 476 _ j z l in
        sample-once (be_at 3 w (16 + 3 * j)) (be_at 3 b (16 + 3 * j)) (be_at-lt 3 w (16 + 3 * j) (octets-datagram count xs)) (be_at-lt 3 b (16 + 3 * j) o)
        (sym (s w) ∙ ap (λ (l : List Float). get_or l j z) (sym alike.samples) ∙ s b)

    at-most : (i : ℕ) → i < 1444 → get_or w i 0 ≤ get_or b i 0
    at-most i l =
        below_or i 4 (λ u. alike_at 4 0 i (sym fields-w.3 ∙ fields.3) (omega arith) (omega arith) (omega arith)) λ a.
        below_or i 12 (λ u. least_zero _ _ (unnamed-zero i a u)) λ c.
        below_or i 14 (λ u. alike_at 2 12 i (fields-w.1 ∙ sym fields.1) (omega arith) c (omega arith)) λ d.
        below_or i 16 (λ u. alike_at 2 14 i (fields-w.2 ∙ sym fields.2) (omega arith) d (omega arith)) λ f.
        let j = (i - 16) / 3 in
        alike_at 3 (16 + 3 * j) i (sample-alike j (omega arith)) (omega arith) (omega arith) (omega arith)

  pub iq-least : Least AlikeIq (iq_datagram count xs)
  iq-least b e o alike = pointwise w b (sym e) (λ i l. at-most b e o alike i (omega (arith, size)))

-- ---- status

module _ (overload : Bool) where
  abbrev status60 : List ℕ
  status60 = status_packet overload

  status-zero : (from n i : ℕ) → from ≤ i → i < from + n → from + n ≤ 60 → T (outside from n (status_fields overload)) → get_or status60 i 0 ≡ 0
  unfolding status_packet
  status-zero from n i l u h t = unnamed-run 60 (status_fields overload) tt tt from n h t i l u

  status-bit : (v : ℕ) → overloaded v ≡ overloaded (status_octet overload) → status_octet overload ≤ v
  unfolding overloaded
  status-bit v e = go overload e
    where
      go : (b : Bool) → overloaded v ≡ overloaded (status_octet b) → status_octet b ≤ v
      go true e = let z = eqb-true (v % 2) 1 e in omega arith
      go false e = omega arith

  pub status-least : Least AlikeStatus (status_packet overload)
  status-least b e o alike = pointwise status60 b (sym e) (λ i l. at-most i (omega (arith, length-status overload)))
    where
      at_five : get_or status60 5 0 ≤ get_or b 5 0
      at_five = subst (λ (v : ℕ). v ≤ get_or b 5 0) (sym (status-octet overload)) (status-bit (get_or b 5 0) (alike ∙ ap overloaded (status-octet overload)))

      at-most : (i : ℕ) → i < 60 → get_or status60 i 0 ≤ get_or b i 0
      at-most i l =
          below_or i 5 (λ u. least_zero _ _ (status-zero 0 5 i (omega arith) (omega arith) (omega arith) tt)) λ a.
          below_or i 6 (λ u. let q : i ≡ 5 = omega arith in subst (λ (j : ℕ). get_or status60 j 0 ≤ get_or b j 0) (sym q) at_five) λ c.
          least_zero _ _ (status-zero 6 54 i c (omega arith) (omega arith) tt)

-- ---- a discovery reply

module _ (status : DiscoveryStatus) (board firmware receivers : ℕ) (mac : List ℕ) (x : board < 256) (f : firmware < 256) (r : receivers < 256) (n : length mac ≡ 6) where
  abbrev reply60 : List ℕ
  reply60 = reply_octets status board firmware receivers mac

  abbrev fs : List Field
  fs = reply_fields status board firmware receivers

  -- a run that neither a field nor the address has
  reply-zero : (from k i : ℕ) → T (outside from k fs) → from ≤ i → i < from + k → from + k ≤ 60 → (i < 5) ⊎ (11 ≤ i) → get_or reply60 i 0 ≡ 0
  reply-zero from k i t l u h o =
      reply-beside status board firmware receivers mac x f r n i o ∙ unnamed-run 60 fs tt tt from k h t i l u

  pub reply-least : Least AlikeReply (reply_octets status board firmware receivers mac)
  reply-least b e o alike = pointwise reply60 b (sym e) (λ i l. at-most i (omega (arith, length-reply status board firmware receivers mac x f r n)))
    where
      at : Places b (status_number status) board firmware receivers mac
      at = places b (status_number status) board firmware receivers mac (alike ∙ reply-back status board firmware receivers mac x f r n)

      -- the same octet at a place
      at_place : (i j v : ℕ) → i ≡ j → get_or reply60 j 0 ≡ v → get_or b j 0 ≡ v → get_or reply60 i 0 ≤ get_or b i 0
      at_place i j v q p s = subst (λ (k : ℕ). get_or reply60 k 0 ≤ get_or b k 0) (sym q) (le_of_eq (p ∙ sym s))

      address : (i : ℕ) → 5 ≤ i → i < 11 → get_or reply60 i 0 ≤ get_or b i 0
      address i l u =
          let q : i ≡ 5 + (i - 5) = omega arith in
          let part : (d : List ℕ) → take 6 (drop 5 d) ≡ mac → get_or d i 0 ≡ get_or mac (i - 5) 0 = λ d m. ap (λ (k : ℕ). get_or d k 0) q ∙ sym (get_or-drop 5 d (i - 5) 0) ∙ sym (get_or-take 6 (drop 5 d) (i - 5) 0 (omega arith)) ∙ ap (λ (k : List ℕ). get_or k (i - 5) 0) m in
          le_of_eq (part reply60 (reply-mac status board firmware receivers mac x f r n) ∙ sym (part b at.mac-at))

      at-most : (i : ℕ) → i < 60 → get_or reply60 i 0 ≤ get_or b i 0
      at-most i l =
          below_or i 4 (λ u. least_zero _ _ (reply-zero 0 4 i tt (omega arith) (omega arith) (omega arith) (inl (omega arith)))) λ a.
          below_or i 5 (λ u. at_place i 4 _ (omega arith) (reply-status status board firmware receivers mac x f r n) at.status-at) λ c.
          below_or i 11 (λ u. address i c u) λ d.
          below_or i 12 (λ u. at_place i 11 _ (omega arith) (reply-board status board firmware receivers mac x f r n) at.board-at) λ g.
          below_or i 13 (λ u. least_zero _ _ (reply-zero 12 1 i tt g (omega arith) (omega arith) (inr d))) λ h.
          below_or i 14 (λ u. at_place i 13 _ (omega arith) (reply-firmware status board firmware receivers mac x f r n) at.firmware-at) λ j.
          below_or i 20 (λ u. least_zero _ _ (reply-zero 14 6 i tt j (omega arith) (omega arith) (inr d))) λ k.
          below_or i 21 (λ u. at_place i 20 _ (omega arith) (reply-receivers status board firmware receivers mac x f r n) at.receivers-at) λ m.
          least_zero _ _ (reply-zero 21 39 i tt m (omega arith) (omega arith) (inr d))

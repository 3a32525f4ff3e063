-- The datagrams of a list of calls are the practice radio's: that of an `iq` line is the one that it writes for the line's number, and
-- those of the lines `status .. 0` and `status .. 1` are its status packets. Assumes nothing.
use Prim.Native.Nat.{ℕ, zero, suc, ◌+◌, ◌-◌, ◌*◌, ◌<◌}
use mathlib.Core.Path.{◌≡◌, refl, sym, ap, ◌∙◌}
use mathlib.Core.Bool.{Bool, true, ◌&&◌}
use mathlib.Core.List.{List, [], ◌∷◌, ◌++◌, append_assoc, append-nil}
use native.Mathlib.Omega.{arith}
use lib.Dec.{ltb}
use lib.IntN.{ℤ, pos, negsuc}
use lib.ListN.{length, take, drop, length-append, replicate-append-replicate}
use lib.Seq.{take_at}
use borrow.Author.Tests.{ltb-false, lt-ltb, eq-eqb}
use Rattle.base.specs.Pick.{pick}
use Rattle.base.proofs.Picks.{pick-either}
use Rattle.octets.specs.Number.{be}
use Rattle.octets.specs.Packet.{zeros, packet, stored}
use Rattle.octets.specs.Written.{written}
use Rattle.octets.proofs.Packets.{length-zeros, stored-front}
use Rattle.values.specs.Datagram.{sample_i, pairs, header, iq_octets, status_octets}
use Rattle.values.proofs.Datagrams.{length_pairs}
use Rattle.radio_packets.specs.Iq.{is24, bits_of, all24, is_pairs, octets_of, iq_fields, iq_datagram}
use Rattle.radio_packets.specs.Status.{status_octet, status_packet}
use Rattle.radio_packets.proofs.Signed.{all_append}
use Rattle.radio_packets.proofs.Datagrams.{length-header, octets-append}

-- ---- the numbers that an `iq` line stands for, as signed ones

abbrev pub signed : ℕ → ℤ
signed v = pick (ltb v 8388608) (pos v) (negsuc (16777215 - v))

-- I, then Q of the first k pairs
abbrev pub numbers : ℕ → ℕ → List ℤ
numbers n zero = []
numbers n (suc k) = numbers n k ++ (signed (sample_i n k) ∷ signed (16777215 - sample_i n k) ∷ [])

signed-bits : (v : ℕ) → v < 16777216 → (bits_of (signed v) ≡ v) × (is24 (signed v) ≡ true)
signed-bits v h =
    pick-either (ltb v 8388608) (pos v) (negsuc (16777215 - v)) (λ (x : ℤ). (bits_of x ≡ v) × (is24 x ≡ true))
    (λ e. (refl, e))
    (λ e. let l = ltb-false v 8388608 e in (omega arith, lt-ltb (16777215 - v) 8388608 (omega arith)))

module _ (n : ℕ) where
  small : (k : ℕ) → sample_i n k < 16777216
  small k = omega arith

  other : (v : ℕ) → 16777215 - v < 16777216
  other v = omega arith

  -- their octets are the line's
  octets-are : (k : ℕ) → octets_of (numbers n k) ≡ pairs n k
  unfolding octets_of pairs
  octets-are zero = refl
  octets-are (suc k) =
      octets-append (numbers n k) (signed (sample_i n k) ∷ signed (16777215 - sample_i n k) ∷ [])
      ∙ rw (octets-are k, (signed-bits (sample_i n k) (small k)).0, (signed-bits (16777215 - sample_i n k) (other (sample_i n k))).0) (ap (λ (l : List ℕ). pairs n k ++ (be 3 (sample_i n k) ++ l)) (append-nil (be 3 (16777215 - sample_i n k))))

  all_are : (k : ℕ) → all24 (numbers n k) ≡ true
  all_are zero = refl
  all_are (suc k) =
      all_append (numbers n k) (signed (sample_i n k) ∷ signed (16777215 - sample_i n k) ∷ [])
      ∙ rw (all_are k, (signed-bits (sample_i n k) (small k)).1, (signed-bits (16777215 - sample_i n k) (other (sample_i n k))).1)

  length-numbers : (k : ℕ) → length (numbers n k) ≡ 2 * k
  length-numbers zero = refl
  length-numbers (suc k) = length-append (numbers n k) (signed (sample_i n k) ∷ signed (16777215 - sample_i n k) ∷ []) ∙ omega (arith, length-numbers k)

  pub line-pairs : is_pairs (numbers n 238) ≡ true
  unfolding is_pairs
  line-pairs = ap (λ (t : Bool). t && all24 (numbers n 238)) (eq-eqb (length (numbers n 238)) 476 (length-numbers 238)) ∙ all_are 238

  -- ---- the datagram

  -- the header is the front of the line's packet
  header-front : packet 2048 (header n 24 238) ≡ packet 16 (iq_fields n) ++ zeros 2032
  unfolding packet zeros
  header-front =
      ap (stored (iq_fields n)) (sym (replicate-append-replicate 16 2032 0))
      ∙ stored-front (iq_fields n) 16 (zeros 16) (zeros 2032) (length-zeros 16) tt

  pub iq-line : take 1444 (iq_octets n 24 238) ≡ iq_datagram n (numbers n 238)
  unfolding iq_octets iq_datagram written
  iq-line =
      let h = packet 16 (iq_fields n) in
      let o = pairs n 238 in
      let l : length h ≡ 16 = length-header n in
      let m : length o ≡ 1428 = length_pairs n 238 in
      let rest = drop (16 + length o) (h ++ zeros 2032) in
      ap (λ (d : List ℕ). take 1444 (take 16 d ++ (o ++ drop (16 + length o) d))) header-front
      ∙ ap (λ (d : List ℕ). take 1444 (d ++ (o ++ rest))) (take_at h (zeros 2032) 16 l)
      ∙ ap (take 1444) (sym (append_assoc h o rest))
      ∙ take_at (h ++ o) rest 1444 (length-append h o ∙ omega arith)
      ∙ ap (λ (d : List ℕ). h ++ d) (sym (octets-are 238))

pub status-line : (overload : Bool) → status_octets (status_octet overload) ≡ status_packet overload
unfolding status_octets status_packet
status-line overload = refl

-- Samples in a buffer: how many, and taken in two parts. Assumes nothing.
use Rattle.std.proofs.Common.{◌≡◌, ℕ, zero, suc, ◌+◌, ◌-◌, ◌*◌, ◌≤◌, List, [], ◌∷◌, ◌++◌, length, take, drop, sym, refl, ap, ◌∙◌, append-nil, arith, length-drop, drop_of_length-le, length-take, drop-drop, take_at}
use lib.Ieee.{Float}
use Rattle.octets.specs.Written.{written}
use Rattle.octets.proofs.Writes.{written-front}
use Rattle.octets.proofs.Tables.{length-tab}
use Rattle.iq.specs.Iq as Iq
use Rattle.model.specs.Sample.{Sample, pairs}

twice : ℕ → ℕ
twice zero = zero
twice (suc n) = suc (suc (twice n))

twice-is : (n : ℕ) → twice n ≡ 2 * n
unfolding twice
twice-is zero = refl
twice-is (suc n) = omega (arith, twice-is n)

split_by : (n : ℕ) (l : List Float) → pairs (take (twice n) l) ++ pairs (drop (twice n) l) ≡ pairs l
unfolding pairs twice
split_by zero l = refl
split_by (suc n) [] = refl
split_by (suc n) (i ∷ []) = refl
split_by (suc n) (i ∷ q ∷ l) = ap (λ (r : List Sample). record { i = i; q = q } ∷ r) (split_by n l)

-- n pairs, then the rest
pub pairs-split : (n : ℕ) (l : List Float) → pairs (take (2 * n) l) ++ pairs (drop (2 * n) l) ≡ pairs l
pairs-split n l = rw (← twice-is n) (split_by n l)

count_by : (n : ℕ) (l : List Float) → length l ≡ twice n → length (pairs l) ≡ n
unfolding pairs twice
count_by zero [] h = refl
count_by zero (i ∷ l) h = absurd (omega arith)
count_by (suc n) [] h = absurd (omega arith)
count_by (suc n) (i ∷ []) h = absurd (omega arith)
count_by (suc n) (i ∷ q ∷ l) h = ap suc (count_by n l (omega arith))

pub pairs-count : (n : ℕ) (l : List Float) → length l ≡ 2 * n → length (pairs l) ≡ n
pairs-count n l h = count_by n l (h ∙ sym (twice-is n))

-- a datagram has 476 f32, and so 238 samples
pub datagram-size : (octets : List ℕ) → length (Iq.samples_of octets) ≡ 476
unfolding Iq.samples_of
datagram-size octets = length-tab 476 _

pub datagram-samples : (octets : List ℕ) → length (pairs (Iq.samples_of octets)) ≡ 238
datagram-samples octets = pairs-count 238 (Iq.samples_of octets) (datagram-size octets)

-- past the end there is none
pub none-past : (at : ℕ) (l : List Float) → length l ≡ 476 → 238 - at ≡ 0 → pairs (drop (2 * at) l) ≡ []
unfolding pairs
none-past at l h e = rw (drop_of_length-le l {i = 2 * at} (omega arith)) refl

-- n pairs from a place on, copied to the front of a buffer, and those after them
pub handed_out : (n at : ℕ) (l buffer : List Float) → length l ≡ 476 → n ≤ 238 - at →
    pairs (take (2 * n) (written buffer 0 (take (2 * n) (drop (2 * at) l)))) ++ pairs (drop (2 * (at + n)) l) ≡ pairs (drop (2 * at) l) ++ []
handed_out n at l buffer h k =
    let front = take (2 * n) (drop (2 * at) l) in
    let size : length front ≡ 2 * n = length-take (2 * n) (drop (2 * at) l) ∙ omega (arith, length-drop (2 * at) l) in
    let place : 2 * (at + n) ≡ 2 * at + 2 * n = omega arith in
    rw (written-front buffer front (2 * n) size, take_at front (drop (2 * n) buffer) (2 * n) size, place, ← drop-drop (2 * n) (2 * at) l)
    (pairs-split n (drop (2 * at) l) ∙ sym (append-nil (pairs (drop (2 * at) l))))

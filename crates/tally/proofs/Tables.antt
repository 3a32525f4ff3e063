-- The stretches that an account holds: their number and their places. Assumes nothing.
use Rattle.std.proofs.Common.{◌≡◌, ℕ, zero, suc, ◌-◌, ◌<◌, ◌≤◌, List, [], ◌∷◌, length, get_or, refl, ◌∙◌, arith, length-append}
use lib.ListN.{get_or-append, get_or-eq_default}
use lib.Seq.{get_or_at}
use native.Mathlib.Decide.{ℕ_discrete}
use Rattle.tally.specs.Table.{blank, stretch_at, kept, ending_in}
use Rattle.tally.specs.declared.stretch.Stretch.{Stretch}

-- ---- how many, and which

length-kept : (t : List ℕ) (n : ℕ) → length (kept t n) ≡ n
unfolding kept
length-kept t zero = refl
length-kept t (suc n) = length-append (kept t n) (stretch_at t n ∷ []) ∙ omega (arith, length-kept t n)

kept_at : (t : List ℕ) (n i : ℕ) → i < n → get_or (kept t n) i blank ≡ stretch_at t i
unfolding kept
kept_at t zero i h = absurd (omega arith)
kept_at t (suc n) i h =
    elim (ℕ_discrete i n) [
      | yes e ↦ rw e (get_or_at (kept t n) (stretch_at t n) [] blank n (length-kept t n))
      | no e ↦ get_or-append (kept t n) (stretch_at t n ∷ []) blank i (omega (arith, length-kept t n)) ∙ kept_at t n i (omega arith)
    ]

pub length_stretches : (t : List ℕ) (n : ℕ) (last : Stretch) → length (ending_in t n last) ≡ n
unfolding ending_in
length_stretches t zero last = refl
length_stretches t (suc n) last = length-append (kept t n) (last ∷ []) ∙ omega (arith, length-kept t n)

pub past_them : (t : List ℕ) (n : ℕ) (last : Stretch) (i : ℕ) → n ≤ i → get_or (ending_in t n last) i blank ≡ blank
past_them t n last i h = get_or-eq_default (ending_in t n last) blank (omega (arith, length_stretches t n last))

pub last_at : (t : List ℕ) (n : ℕ) (last : Stretch) (i : ℕ) → i < n → i ≡ n - 1 → get_or (ending_in t n last) i blank ≡ last
unfolding ending_in
last_at t zero last i h e = absurd (omega arith)
last_at t (suc n) last i h e = get_or_at (kept t n) last [] blank i (length-kept t n ∙ omega arith)

pub stored_at : (t : List ℕ) (n : ℕ) (last : Stretch) (i : ℕ) → i < n - 1 → get_or (ending_in t n last) i blank ≡ stretch_at t i
unfolding ending_in
stored_at t zero last i h = absurd (omega arith)
stored_at t (suc n) last i h = get_or-append (kept t n) (last ∷ []) blank i (omega (arith, length-kept t n)) ∙ kept_at t n i (omega arith)

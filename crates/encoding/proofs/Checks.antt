-- The walk that checks a list, one call on. Assumes nothing.
use Rattle.std.specs.Prelude.{⊤, Result, Ok, Err}
use Rattle.encoding.specs.declared.check.ListError.{ListError}
use Rattle.encoding.specs.declared.check.ListError.TheVariants.{Lengths, NoCall, NoRoom}
use Prim.Native.Nat.{ℕ, suc, ◌+◌, ◌-◌, ◌*◌, ◌/◌, ◌%◌, ◌≤◌, ◌<◌}
use mathlib.Core.Path.{◌≡◌, refl, sym, ap, subst, ◌∙◌}
use mathlib.Core.Bool.{Bool, true, false}
use mathlib.Core.List.{List}
use lib.ListN.{length}
use lib.Dec.{eqb}
use native.Mathlib.Omega.{arith}
use borrow.Author.Tests.{eqb-true, eq-eqb, ne_eqb}
use Rattle.base.specs.Pick.{pick}
use Rattle.base.proofs.Picks.{pick-t, pick-f}
use Rattle.encoding.specs.Words.{words_at, is_call, taken_by, nothing, plus, within, Within}
use Rattle.encoding.specs.Lists.{Lent, room, taken_with, check_from, outcome_in, outcome_of}
use Rattle.encoding.specs.declared.words.Words.{Words}
use Rattle.encoding.specs.declared.words.Amounts.{Amounts}

pub fine-next : (calls : List ℕ) (room : Amounts) (k i : ℕ) (taken : Amounts) → check_from calls room (suc k) i taken ≡ Ok tt
    → (is_call (words_at calls (8 * i)) ≡ true) × (within (taken_with calls i taken) room ≡ true) × (check_from calls room k (i + 1) (taken_with calls i taken) ≡ Ok tt)
unfolding check_from pick
fine-next calls room k i taken h = go (is_call (words_at calls (8 * i))) (within (taken_with calls i taken) room) refl refl h
  where
    go : (b w : Bool) → is_call (words_at calls (8 * i)) ≡ b → within (taken_with calls i taken) room ≡ w
        → pick b (pick w (check_from calls room k (i + 1) (taken_with calls i taken)) (Err (NoRoom i))) (Err (NoCall i)) ≡ Ok tt
        → (is_call (words_at calls (8 * i)) ≡ true) × (within (taken_with calls i taken) room ≡ true) × (check_from calls room k (i + 1) (taken_with calls i taken) ≡ Ok tt)
    go true true eb ew h = (eb, ew, h)
    go false w eb ew h = let z : ◌≡◌ {A = ℕ} 0 1 = cc in absurd (omega arith)
    go true false eb ew h = let z : ◌≡◌ {A = ℕ} 0 1 = cc in absurd (omega arith)

module _ (calls : List ℕ) (room : Amounts) (n i : ℕ) (taken : Amounts) (now : i < n) where
  -- what is left of the walk
  abbrev pub after : Result ⊤ ListError
  after = check_from calls room (n - (i + 1)) (i + 1) (taken_with calls i taken)

  -- what the code worked out of this call's numbers
  pub was-call : (w : Words) (b v : Bool) → w ≡ words_at calls (8 * i) → b ≡ is_call w → b ≡ v → is_call (words_at calls (8 * i)) ≡ v
  was-call w b v e h k = sym (ap is_call e) ∙ sym h ∙ k

  pub now-taken : (w : Words) (need t : Amounts) → w ≡ words_at calls (8 * i) → need ≡ taken_by w → t ≡ plus taken need → t ≡ taken_with calls i taken
  now-taken w need t e h k = k ∙ ap (plus taken) (h ∙ ap taken_by e)

  pub had-room : (w : Words) (need : Amounts) (b v : Bool) → w ≡ words_at calls (8 * i) → need ≡ taken_by w → b ≡ within (plus taken need) room → b ≡ v
      → within (taken_with calls i taken) room ≡ v
  had-room w need b v e h f k = ap (λ (t : Amounts). within t room) (sym (now-taken w need (plus taken need) e h refl)) ∙ sym f ∙ k

  next-is : check_from calls room (n - i) i taken ≡ pick (is_call (words_at calls (8 * i))) (pick (within (taken_with calls i taken) room) after (Err (NoRoom i))) (Err (NoCall i))
  unfolding check_from
  next-is = let e : n - i ≡ suc (n - (i + 1)) = omega arith in ap (λ (k : ℕ). check_from calls room k i taken) e

  pub no_call : is_call (words_at calls (8 * i)) ≡ false → Err (NoCall i) ≡ check_from calls room (n - i) i taken
  no_call h = sym (next-is ∙ pick-f _ _ _ h)

  pub no_room : is_call (words_at calls (8 * i)) ≡ true → within (taken_with calls i taken) room ≡ false → Err (NoRoom i) ≡ check_from calls room (n - i) i taken
  no_room h k = sym (next-is ∙ pick-t _ _ _ h ∙ pick-f _ _ _ k)

  pub goes_on : is_call (words_at calls (8 * i)) ≡ true → within (taken_with calls i taken) room ≡ true → check_from calls room (n - i) i taken ≡ after
  goes_on h k = next-is ∙ pick-t _ _ _ h ∙ pick-t _ _ _ k

  -- a list that is run: this is a call, it has room, and the others are run too
  pub fine : check_from calls room (n - i) i taken ≡ Ok tt → (is_call (words_at calls (8 * i)) ≡ true) × (within (taken_with calls i taken) room ≡ true) × (after ≡ Ok tt)
  fine h =
      let e : n - i ≡ suc (n - (i + 1)) = omega arith in
      fine-next calls room (n - (i + 1)) i taken (ap (λ (k : ℕ). check_from calls room k i taken) (sym e) ∙ h)

pub starts : (calls : List ℕ) (room : Amounts) (n : ℕ) (taken : Amounts) → taken ≡ nothing
    → (0 ≤ n) × Within taken room × (check_from calls room (n - 0) 0 taken ≡ check_from calls room n 0 nothing)
starts calls room n taken e =
    let z : n - 0 ≡ n = omega arith in
    subst (λ (t : Amounts). (0 ≤ n) × Within t room × (check_from calls room (n - 0) 0 t ≡ check_from calls room n 0 nothing)) (sym e) (
      omega arith,
      record { octets = omega arith; numbers = omega arith; packets = omega arith; places = omega arith },
      ap (λ (k : ℕ). check_from calls room k 0 nothing) z,
    )

-- no call is left
pub all-checked : (calls : List ℕ) (room : Amounts) (i : ℕ) (taken : Amounts) (k : ℕ) → k ≡ 0 → Ok tt ≡ check_from calls room k i taken
unfolding check_from
all-checked calls room i taken k e = sym (ap (λ (j : ℕ). check_from calls room j i taken) e)

-- a list that is run has whole calls, and as many places for answers
pub lengths : (l : Lent) (a : ℕ) → outcome_of l a ≡ Ok tt
    → (length l.calls % 8 ≡ 0) × (a ≡ length l.calls) × (check_from l.calls (room l) (length l.calls / 8) 0 nothing ≡ Ok tt)
unfolding outcome_in pick
lengths l a h = go (eqb (length l.calls % 8) 0) (eqb a (length l.calls)) refl refl h
  where
    go : (b c : Bool) → eqb (length l.calls % 8) 0 ≡ b → eqb a (length l.calls) ≡ c
        → pick b (pick c (check_from l.calls (room l) (length l.calls / 8) 0 nothing) (Err Lengths)) (Err Lengths) ≡ Ok tt
        → (length l.calls % 8 ≡ 0) × (a ≡ length l.calls) × (check_from l.calls (room l) (length l.calls / 8) 0 nothing ≡ Ok tt)
    go true true eb ec h = (eqb-true _ _ eb, eqb-true _ _ ec, h)
    go false c eb ec h = let z : ◌≡◌ {A = ℕ} 0 1 = cc in absurd (omega arith)
    go true false eb ec h = let z : ◌≡◌ {A = ℕ} 0 1 = cc in absurd (omega arith)

-- ---- whether a list is run

module _ (calls : List ℕ) (room : Amounts) (answers : ℕ) where
  pub not-whole : (length calls % 8 ≡ 0 → ⊥) → Err Lengths ≡ outcome_in calls room answers
  unfolding outcome_in
  not-whole h = sym (pick-f _ _ _ (ne_eqb _ _ h))

  pub not-as-many : length calls % 8 ≡ 0 → (answers ≡ length calls → ⊥) → Err Lengths ≡ outcome_in calls room answers
  unfolding outcome_in
  not-as-many h k = sym (pick-t _ _ _ (eq-eqb _ _ h) ∙ pick-f _ _ _ (ne_eqb _ _ k))

  pub by-each : length calls % 8 ≡ 0 → answers ≡ length calls → (t : Result ⊤ ListError) → t ≡ check_from calls room (length calls / 8) 0 nothing → t ≡ outcome_in calls room answers
  unfolding outcome_in
  by-each h k t e = e ∙ sym (pick-t _ _ _ (eq-eqb _ _ h) ∙ pick-t _ _ _ (eq-eqb _ _ k))

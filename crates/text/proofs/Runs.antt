-- A loop that passes a run: what holds at each turn, and what it gives where the loop ends. Assumes nothing.
use mathlib.Core.Path.{◌≡◌, refl, sym}
use mathlib.Core.Bool.{Bool, true, false, not, cond}
use mathlib.Core.List.{List}
use Prim.Native.Nat.{ℕ, suc, ◌+◌, ◌≤◌, ◌<◌}
use native.Mathlib.Nat.{zero-add}
use native.Mathlib.Numerals.{add-one}
use native.Mathlib.Omega.{arith}
use borrow.Author.Tests.{ltb-false}
use lib.Dec.{ltb}
use Rattle.std.specs.Prelude.{Option, Some, None}
use Rattle.std.specs.Option.{unwrap_or}
use Rattle.std.specs.List.{position, position_or_len}
use Rattle.std.proofs.lemmas.List.Recursion.{is_position_or_len}
use Rattle.std.proofs.lemmas.List.Sums.{prefix_len-le-length}
use lib.ListN.{length, get_or, drop, drop_of_length-le}
use lib.Seq.{drop-cons}
use Rattle.text.specs.Run.{run}

module _ (p : ℕ → Bool) (s : List ℕ) where
  -- the first i elements are of the run
  abbrev pub Passed : ℕ → Type 0
  Passed i = (i ≤ length s) × (run p s ≡ i + run p (drop i s))

  abbrev pub Found : ℕ → Type 0
  Found i = (i ≡ run p s) × (i ≤ length s)

  pub passed_none : Passed 0
  passed_none = (omega arith, sym (zero-add (run p s)))

  one_more : (i : ℕ) → i < length s → p (get_or s i 0) ≡ true → run p (drop i s) ≡ suc (run p (drop (i + 1) s))
  unfolding run
  one_more i h t = rw (add-one, drop-cons s i 0 h, t)

  no_more : (i : ℕ) → i < length s → p (get_or s i 0) ≡ false → run p (drop i s) ≡ 0
  unfolding run
  no_more i h t = rw (drop-cons s i 0 h, t)

  none_left : (i : ℕ) → length s ≤ i → run p (drop i s) ≡ 0
  unfolding run
  none_left i h = rw (drop_of_length-le s h)

  pub passed-next : (i : ℕ) → Passed i → i < length s → p (get_or s i 0) ≡ true → Passed (i + 1)
  passed-next i k h t = (omega arith, omega (arith, one_more i h t))

  pub found_here : (i : ℕ) → Passed i → i < length s → p (get_or s i 0) ≡ false → Found i
  found_here i k h t = (omega (arith, no_more i h t), omega arith)

  pub found-end : (i : ℕ) → Passed i → length s ≤ i → Found i
  found-end i k h = (omega (arith, none_left i h), omega arith)

-- the place of the first element that fails the test, or the length where none does, is how long the run is
module _ (p q : ℕ → Bool) (o : (x : ℕ) → p x ≡ not (q x)) where
  run-position : (s : List ℕ) → run p s ≡ position_or_len q s
  unfolding run
  run-position s = is_position_or_len (run p) q refl (λ x xs. rw (o x) (go (q x) (run p xs))) s
    where
      go : (b : Bool) (n : ℕ) → cond (not b) (suc n) 0 ≡ cond b 0 (1 + n)
      go true n = refl
      go false n = omega arith

  pub placed : (s : List ℕ) (r : Option ℕ) (n : ℕ) → r ≡ position q s
      → n ≡ unwrap_or r (length s) → (n ≡ run p s) × (n ≤ length s)
  placed s r n h u =
      let w : position_or_len q s ≤ length s = prefix_len-le-length (λ x. not (q x)) s in
      rw (run-position s) (go (position_or_len q s) w (ltb (position_or_len q s) (length s)) refl (rw h at u))
    where
      go : (k : ℕ) → k ≤ length s → (b : Bool) → ltb k (length s) ≡ b → n ≡ unwrap_or (cond b (Some k) None) (length s) → (n ≡ k) × (n ≤ length s)
      go k w true e u = omega arith
      go k w false e u = let z : length s ≤ k = ltb-false k (length s) e in omega arith

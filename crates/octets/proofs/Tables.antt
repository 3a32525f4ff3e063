-- A list made from a function of the index, and the loop that fills a slice with it from the front. Assumes nothing.
use Prim.Native.Nat.{ℕ, zero, suc, ◌+◌, ◌-◌, ◌≤◌, ◌<◌, min}
use mathlib.Core.Path.{◌≡◌, refl, sym, ap, ◌∙◌}
use mathlib.Core.Logic.{⊎_elim}
use mathlib.Core.List.{List, [], ◌∷◌, ◌++◌}
use lib.ListN.{length, set, drop, take, get_or, length-append, length-take, length-drop, get_or-append}
use lib.Seq.{drop-cons, set_at, append_snoc, take-suc, take_all, take-take, get_or-drop, get_or_at}
use native.Mathlib.Nat.{eq-or-lt_of_le, le_of_suc-le-suc}
use native.Mathlib.Numerals.{add-one}
use native.Mathlib.Omega.{arith}
use Rattle.octets.specs.Table.{tab}

module _ {A : Type 0} where
  pub length-tab : (n : ℕ) (f : ℕ → A) → length (tab n f) ≡ n
  unfolding tab
  length-tab zero f = refl
  length-tab (suc n) f = length-append (tab n f) (f n ∷ []) ∙ omega (arith, length-tab n f)

  -- no turn of the loop
  pub tab-none : (f : ℕ → A) (d : List A) → d ≡ tab 0 f ++ drop 0 d
  unfolding tab
  tab-none f d = refl

  -- one turn more
  pub tab-more : (n : ℕ) (f : ℕ → A) (d : List A) (v z : A) → n < length d → v ≡ f n
      → set (tab n f ++ drop n d) n v ≡ tab (n + 1) f ++ drop (n + 1) d
  unfolding tab
  tab-more n f d v z h e =
      ap (λ (l : List A). set (tab n f ++ l) n v) (drop-cons d n z h)
      ∙ set_at (tab n f) _ (drop (suc n) d) v n (length-tab n f)
      ∙ sym (append_snoc (tab n f) v (drop (suc n) d))
      ∙ ap (λ (x : A). (tab n f ++ (x ∷ [])) ++ drop (suc n) d) e
      ∙ ap (λ (k : ℕ). tab k f ++ drop k d) (sym (add-one n))

  -- the rule that reads a list makes a part of the list
  pub tab-take : (n : ℕ) (q : List A) (from : ℕ) (z : A) → n ≤ length q - from → tab n (λ (k : ℕ). get_or q (from + k) z) ≡ take n (drop from q)
  unfolding tab
  tab-take zero q from z h = refl
  tab-take (suc n) q from z h =
      let b : n < length (drop from q) = omega (arith, length-drop from q) in
      ap (λ (l : List A). l ++ (get_or q (from + n) z ∷ [])) (tab-take n q from z (omega arith))
      ∙ sym (take-suc (drop from q) n z b ∙ ap (λ (x : A). take n (drop from q) ++ (x ∷ [])) (get_or-drop from q n z))

  -- the loop that copies as much as the list has, and n at most
  pub tab-rest : (n : ℕ) (q : List A) (from : ℕ) (z : A) → tab (min n (length q - from)) (λ (k : ℕ). get_or q (from + k) z) ≡ take n (drop from q)
  tab-rest n q from z =
      let l = drop from q in
      tab-take (min n (length q - from)) q from z (omega arith)
      ∙ sym (take-take (min n (length q - from)) n l (omega arith))
      ∙ take_all (min n (length q - from)) (take n l) (omega (arith, length-take n l, length-drop from q))

  pub get_or-tab : (n : ℕ) (f : ℕ → A) (i : ℕ) (z : A) → i < n → get_or (tab n f) i z ≡ f i
  unfolding tab
  get_or-tab zero f i z h = absurd (omega arith)
  get_or-tab (suc n) f i z h =
      ⊎_elim
      (λ e. get_or_at (tab n f) (f n) [] z i (length-tab n f ∙ sym e) ∙ ap f (sym e))
      (λ l. get_or-append (tab n f) (f n ∷ []) z i (omega (arith, length-tab n f)) ∙ get_or-tab n f i z l)
      (eq-or-lt_of_le (le_of_suc-le-suc h))

  -- rules that agree on the indices make one list
  pub tab-ext : (n : ℕ) (f g : ℕ → A) → ((i : ℕ) → i < n → f i ≡ g i) → tab n f ≡ tab n g
  unfolding tab
  tab-ext zero f g h = refl
  tab-ext (suc n) f g h = rw (tab-ext n f g (λ i l. h i (omega arith)), h n (omega arith))

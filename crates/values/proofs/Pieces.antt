-- The parts of a text as they come one after another: those that came, and those that are still to come. Assumes nothing.
use mathlib.Core.Path.{◌≡◌, refl, sym, ap, subst, ◌∙◌}
use mathlib.Core.Bool.{Bool, true, false, cond}
use mathlib.Core.List.{List, [], ◌∷◌, ◌++◌, map, append-nil}
use Prim.Native.Nat.{ℕ}
use Rattle.std.specs.Prelude.{Option, Some, None}
use Rattle.std.specs.Iterator.{Yields, AlwaysYields}
use Rattle.std.specs.List.{slice_split, onto_first}
use Rattle.std.specs.Fn.{CalledAt}
use Rattle.std.specs.Slice.Iter as slice
use Rattle.std.proofs.lemmas.Iterator.Splits.{YieldsList-from_slice_split}
use Rattle.std.specs.declared.slice.Split.{Split}
use denote.Param.Members.{Mut}
use denote.Ref.{Bor}
use Rattle.text.specs.Split.{grown, parts}

-- the parts that `split` gives
pub split-parts : (p : ℕ → Bool) (s : List ℕ) → slice_split p s ≡ parts p s
unfolding parts grown
split-parts p [] = refl
split-parts p (x ∷ xs) = rw (split-parts p xs) (go (p x) (parts p xs))
  where
    onto : (ws : List (List ℕ)) → onto_first x ws ≡ grown x ws
    onto [] = refl
    onto (w ∷ ws) = refl

    go : (b : Bool) (ws : List (List ℕ)) → cond b ([] ∷ ws) (onto_first x ws) ≡ cond b ([] ∷ ws) (grown x ws)
    go true ws = refl
    go false ws = onto ws

module _ {S A B : Type 0} (steps : S → Option A → S → Type 0) (v : A → B) where
  to-come : (s : S) (ys : List B) (xs : List A) (t : S) → AlwaysYields steps v s ys → Yields steps s xs t
      → (rest : List B) × (ys ≡ map v xs ++ rest) × AlwaysYields steps v t rest
  to-come s ys [] t a e = (ys, refl, subst (λ (x : S). AlwaysYields steps v x ys) e a)
  to-come s [] (x ∷ xs) t a y = absurd (a x y.0 y.1)
  to-come s (y ∷ ys) (x ∷ xs) t a z =
      let k = a.1 x z.0 z.1 in
      let r = to-come z.0 ys xs t k.1 z.2 in
      (r.0, ap (λ (l : List B). y ∷ l) r.1 ∙ ap (λ (b : B). b ∷ (map v xs ++ r.0)) (sym k.0), r.2)

  module _ (s : S) (ys : List B) (xs : List A) (t u : S) (a : AlwaysYields steps v s ys) (y : Yields steps s xs t) where
    -- one more comes
    pub one-comes : (x : A) → steps t (Some x) u → (rest : List B) × (ys ≡ map v xs ++ (v x ∷ rest))
    one-comes x f = let r = to-come s ys xs t a y in go r.0 r.1 r.2
      where
        go : (rest : List B) → ys ≡ map v xs ++ rest → AlwaysYields steps v t rest → (rest : List B) × (ys ≡ map v xs ++ (v x ∷ rest))
        go [] e k = absurd (k x u f)
        go (b ∷ rest) e k = (rest, e ∙ ap (λ (c : B). map v xs ++ (c ∷ rest)) (sym (k.1 x u f).0))

    -- none is left
    pub none-comes : steps t None u → ys ≡ map v xs
    none-comes f = let r = to-come s ys xs t a y in go r.0 r.1 r.2
      where
        go : (rest : List B) → ys ≡ map v xs ++ rest → AlwaysYields steps v t rest → ys ≡ map v xs
        go [] e k = e ∙ append-nil (map v xs)
        go (b ∷ rest) e k = absurd (k.0 u f)

-- the parts that a slice is cut into by a test
module _ {F : Type 0} {g : Mut F (Bor ℕ × Unit {0}) Bool} (s t u : Split ℕ F) (xs : List (Bor (List ℕ))) (y : Yields (slice.split_steps g) s xs t) where
  pub part-comes : (x : Bor (List ℕ)) → slice.split_steps g t (Some x) u → (p : ℕ → Bool) (w : List ℕ) {f : F} → slice.split_rest s ≡ w → slice.split_done s ≡ false → slice.split_callee s ≡ f
      → ((x : ℕ) (b : Bool) (q : F) → CalledAt g f x b q → (q ≡ f) × (b ≡ p x)) → (rest : List (List ℕ)) × (parts p w ≡ map (λ (x : Bor (List ℕ)). x.now) xs ++ (x.now ∷ rest))
  part-comes x k p w a b d e =
      let h = one-comes (slice.split_steps g) _ s (slice_split p w) xs t u (YieldsList-from_slice_split {s = s} g p w a b d e).runs y x k in
      (h.0, sym (split-parts p w) ∙ h.1)

  pub no-part : slice.split_steps g t None u → (p : ℕ → Bool) (w : List ℕ) {f : F} → slice.split_rest s ≡ w → slice.split_done s ≡ false → slice.split_callee s ≡ f
      → ((x : ℕ) (b : Bool) (q : F) → CalledAt g f x b q → (q ≡ f) × (b ≡ p x)) → parts p w ≡ map (λ (x : Bor (List ℕ)). x.now) xs
  no-part k p w a b d e = sym (split-parts p w) ∙ none-comes (slice.split_steps g) _ s (slice_split p w) xs t u (YieldsList-from_slice_split {s = s} g p w a b d e).runs y k

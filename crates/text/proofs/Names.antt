-- A name's place: what each turn of the loop over the names shows. Assumes nothing.
use mathlib.Core.Path.{◌≡◌, refl, sym}
use mathlib.Core.Bool.{Bool, true, false, ◌&&◌, true≢false}
use mathlib.Core.List.{List, [], ◌∷◌}
use Prim.Native.Nat.{ℕ, suc, ◌+◌, ◌≤◌, ◌<◌}
use native.Mathlib.Omega.{arith}
use borrow.Author.Tests.{eq-eqb, eqb-true, lt-ltb, le-ltb, ltb-true, ltb-false}
use lib.Dec.{eqb, ltb}
use Rattle.std.specs.Prelude.{cond, Some, None}
use Rattle.std.specs.Str.{bytes_eq}
use Rattle.std.proofs.lemmas.Bool.Decides.{Decides-eqb}
use Rattle.std.proofs.lemmas.Slice.Eq.{slice_eq-Decides}
use lib.ListN.{length}
use Rattle.text.specs.Split.{words, FirstWord}
use Rattle.text.specs.Name.{same, place, found}

pub same_self : (a : List ℕ) → same a a ≡ true
unfolding same
same_self [] = refl
same_self (x ∷ xs) = rw (eq-eqb x x refl, same_self xs)

pub same-equal : (a b : List ℕ) → same a b ≡ true → a ≡ b
unfolding same
same-equal [] [] h = refl
same-equal [] (y ∷ ys) h = cc
same-equal (x ∷ xs) [] h = cc
same-equal (x ∷ xs) (y ∷ ys) h = go (same-equal xs ys) (eqb x y) refl h
  where
    go : (same xs ys ≡ true → xs ≡ ys) → (b : Bool) → eqb x y ≡ b → b && same xs ys ≡ true → ◌≡◌ {A = List ℕ} (x ∷ xs) (y ∷ ys)
    go k true e h = rw (eqb-true x y e, k h)
    go k false e h = cc

pub same_false : (a b : List ℕ) → (a ≡ b → ⊥) → same a b ≡ false
same_false a b h = go (same a b) refl
  where
    go : (t : Bool) → same a b ≡ t → t ≡ false
    go true e = absurd (h (same-equal a b e))
    go false e = refl

-- what a comparison tells
pub same-told : (r : Bool) (a b : List ℕ) → (r ≡ true → a ≡ b) → (a ≡ b → r ≡ true) → r ≡ same a b
same-told true a b y n = sym (rw (y refl) (same_self b))
same-told false a b y n = sym (same_false a b (λ e. true≢false (sym (n e))))

-- what `==` of two slices tells
pub eq-told : (a b : List ℕ) (r : Bool) → r ≡ bytes_eq a b → r ≡ same a b
eq-told a b r e = let h = slice_eq-Decides Decides-eqb a b r e in same-told r a b h.0 h.1

-- ---- where a name is found, and where it is not

module _ (w : List ℕ) (ws : List (List ℕ)) where
  found-here : (k : ℕ) → place w ws ≡ k → k < length ws → Some k ≡ found w ws
  unfolding found
  found-here k e h = rw (e, lt-ltb k (length ws) h)

  not-found : length ws ≤ place w ws → None ≡ found w ws
  unfolding found
  not-found h = rw (le-ltb (place w ws) (length ws) h)

  pub found-place : (k : ℕ) → found w ws ≡ Some k → (k ≡ place w ws) × (k < length ws)
  unfolding found
  found-place k e = go (ltb (place w ws) (length ws)) refl e
    where
      go : (b : Bool) → ltb (place w ws) (length ws) ≡ b → cond b (Some (place w ws)) None ≡ Some k → (k ≡ place w ws) × (k < length ws)
      go true t e = let h = ltb-true (place w ws) (length ws) t in let z : place w ws ≡ k = cc in (omega arith, omega arith)
      go false t e = let z : ◌≡◌ {A = ℕ} 0 1 = cc in absurd (omega arith)

  pub none-found : found w ws ≡ None → length ws ≤ place w ws
  unfolding found
  none-found e = go (ltb (place w ws) (length ws)) refl e
    where
      go : (b : Bool) → ltb (place w ws) (length ws) ≡ b → cond b (Some (place w ws)) None ≡ None → length ws ≤ place w ws
      go true t e = let z : ◌≡◌ {A = ℕ} 0 1 = cc in absurd (omega arith)
      go false t e = ltb-false (place w ws) (length ws) t

-- k names before what is left were none of them w
abbrev pub Sought : List ℕ → List ℕ → List ℕ → ℕ → Type 0
Sought w s left k = (k + length left ≤ length s) × (place w (words s) ≡ k + place w (words left)) × (length (words s) ≡ k + length (words left))

module _ (w s left : List ℕ) (k : ℕ) (i : Sought w s left k) where
  pub not_there : words left ≡ [] → None ≡ found w (words s)
  unfolding place
  not_there q =
      let m : place w (words left) ≡ 0 = rw q in
      let l : length (words left) ≡ 0 = rw q in
      not-found w (words s) (omega (arith, i.1, i.2, m, l))

  module _ (name rest : List ℕ) (f : FirstWord left name rest) where
    pub there : name ≡ w → Some k ≡ found w (words s)
    unfolding place
    there e =
        let m : place w (words left) ≡ 0 = rw (f.reads, e, same_self w) in
        let l : length (words left) ≡ suc (length (words rest)) = rw f.reads in
        found-here w (words s) k (omega (arith, i.1, m)) (omega (arith, i.2, l))

    pub go_on : (name ≡ w → ⊥) → Sought w s rest (k + 1)
    unfolding place
    go_on e =
        let m : place w (words left) ≡ suc (place w (words rest)) = rw (f.reads, same_false name w e) in
        let l : length (words left) ≡ suc (length (words rest)) = rw f.reads in
        (omega (arith, f.shorter, i.0), omega (arith, i.1, m), omega (arith, i.2, l))

-- The first part of a text, its first word, and what follows each. Assumes nothing.
use mathlib.Core.Path.{◌≡◌, refl, sym, ap, ◌∙◌}
use mathlib.Core.Bool.{Bool, true, false, not, cond}
use mathlib.Core.List.{List, [], ◌∷◌}
use Prim.Native.Nat.{ℕ, zero, suc, ◌-◌, ◌≤◌}
use native.Mathlib.Omega.{arith}
use lib.ListN.{length, take, drop, length-take, length-drop, take-append-drop}
use lib.Seq.{take_all}
use Rattle.text.specs.Run.{run}
use Rattle.text.specs.Split.{grown, parts, not_empty, blank, filled, words, FirstWord}

module _ (p : ℕ → Bool) where
  abbrev others : ℕ → Bool
  others x = not (p x)

  -- the parts after the element that ends one
  unfoldable pub after : List ℕ → List (List ℕ)
  after [] = []
  after (x ∷ xs) = parts p xs

  pub first_part : (s : List ℕ) → parts p s ≡ take (run others s) s ∷ after (drop (run others s) s)
  unfolding parts run after grown
  first_part [] = refl
  first_part (x ∷ xs) = go (first_part xs) (p x)
    where
      go : parts p xs ≡ take (run others xs) xs ∷ after (drop (run others xs) xs)
          → (b : Bool)
          → cond b ([] ∷ parts p xs) (grown x (parts p xs))
          ≡ take (cond (not b) (suc (run others xs)) 0) (x ∷ xs) ∷ after (drop (cond (not b) (suc (run others xs)) 0) (x ∷ xs))
      go h true = refl
      go h false = rw h

  -- what a run stops at is nothing, or an element of the other kind
  stops : (s : List ℕ) → run others (drop (run p s) s) ≡ 0 → drop (run p s) s ≡ []
  unfolding run
  stops [] h = refl
  stops (x ∷ xs) h = go (stops xs) (p x) refl h
    where
      go : (run others (drop (run p xs) xs) ≡ 0 → drop (run p xs) xs ≡ [])
          → (b : Bool) → p x ≡ b → run others (drop (cond b (suc (run p xs)) 0) (x ∷ xs)) ≡ 0
          → drop (cond b (suc (run p xs)) 0) (x ∷ xs) ≡ []
      go k true e h = k h
      go k false e h = let z : suc (run others xs) ≡ 0 = rw e at h in absurd (omega arith)

-- ---- words

joined : List ℕ → List (List ℕ) → List (List ℕ)
joined [] ws = ws
joined (x ∷ xs) ws = (x ∷ xs) ∷ ws

not-empty-joined : (w : List ℕ) (ws : List (List ℕ)) → not_empty (w ∷ ws) ≡ joined w (not_empty ws)
unfolding not_empty joined
not-empty-joined [] ws = refl
not-empty-joined (x ∷ xs) ws = refl

-- the blanks in front make no difference
skip-blanks : (s : List ℕ) → words (drop (run blank s) s) ≡ words s
unfolding words run parts not_empty
skip-blanks [] = refl
skip-blanks (x ∷ xs) = go (skip-blanks xs) (blank x) refl
  where
    go : words (drop (run blank xs) xs) ≡ words xs
        → (b : Bool) → blank x ≡ b → words (drop (cond b (suc (run blank xs)) 0) (x ∷ xs)) ≡ words (x ∷ xs)
    go h true e = h ∙ rw e
    go h false e = refl

-- what follows a word, with the blank that ends it or without
after-word : (s : List ℕ) → not_empty (after blank (drop (run filled s) s)) ≡ words (drop (run filled s) s)
unfolding words run parts not_empty after
after-word [] = refl
after-word (x ∷ xs) = go (after-word xs) (blank x) refl
  where
    go : not_empty (after blank (drop (run filled xs) xs)) ≡ words (drop (run filled xs) xs)
        → (b : Bool) → blank x ≡ b
        → not_empty (after blank (drop (cond (not b) (suc (run filled xs)) 0) (x ∷ xs))) ≡ words (drop (cond (not b) (suc (run filled xs)) 0) (x ∷ xs))
    go h true e = rw e
    go h false e = h

first_word : (s : List ℕ) → words s ≡ joined (take (run filled s) s) (words (drop (run filled s) s))
unfolding words
first_word s = ap not_empty (first_part blank s) ∙ not-empty-joined _ _ ∙ ap (joined (take (run filled s) s)) (after-word s)

-- of a text without blanks in front
joined-one : (s : List ℕ) (n : ℕ) (ws : List (List ℕ)) → (length s ≡ 0 → ⊥) → (n ≡ 0 → ⊥) → joined (take n s) ws ≡ take n s ∷ ws
unfolding joined
joined-one [] n ws h l = absurd (h refl)
joined-one (x ∷ xs) zero ws h l = absurd (l refl)
joined-one (x ∷ xs) (suc n) ws h l = refl

empty : (s : List ℕ) → length s ≡ 0 → s ≡ []
empty [] h = refl
empty (x ∷ xs) h = absurd (omega arith)

module _ (s : List ℕ) where
  pub no_word : length (drop (run blank s) s) ≡ 0 → words s ≡ []
  unfolding words parts not_empty
  no_word h = sym (skip-blanks s) ∙ ap words (empty _ h)

  module _ (left : List ℕ) (e : left ≡ drop (run blank s) s) (h : length left ≡ 0 → ⊥) where
    pub one_word : (n : ℕ) → n ≡ run filled left → n ≤ length left → FirstWord s (take n left) (drop n left)
    one_word n k l =
        let some : n ≡ 0 → ⊥ = λ z. h (ap length (e ∙ stops blank s (sym (ap (run filled) e) ∙ sym k ∙ z))) in
        record {
          cut = sym e ∙ sym (take-append-drop n left);
          ends = omega (arith, length-take n left, k, ap (run filled) e);
          shorter = omega (arith, length-drop n left, ap length e, length-drop (run blank s) s, some);
          reads =
              sym (skip-blanks s)
              ∙ ap words (sym e)
              ∙ first_word left
              ∙ ap (λ (i : ℕ). joined (take i left) (words (drop i left))) (sym k)
              ∙ joined-one left n (words (drop n left)) h some;
        }

-- a part that is lent up to the end of the text
pub to_the_end : (s : List ℕ) (at : ℕ) → take (length s - at) (drop at s) ≡ drop at s
to_the_end s at = take_all (length s - at) (drop at s) (omega (arith, length-drop at s))

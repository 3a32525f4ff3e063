-- Lists of worked cases that hold are joined to one that does, whatever their values are of. Assumes nothing.
use mathlib.Core.Path.{◌≡◌, refl, sym, ap, ◌∙◌}
use mathlib.Core.List.{List, [], ◌∷◌, ◌++◌, map}
use Rattle.base.specs.Cases.{Case, case, Hold, seen_by}

-- ---- the cases with their values seen through f

module _ {A B : Type 0} (f : A → B) where
  side : (p : Case A → A) (q : Case B → B) → ((x : Case A) → q (case (f x.given) (f x.worked)) ≡ f (p x)) → (xs : List (Case A)) → map q (seen_by f xs) ≡ map f (map p xs)
  side p q e [] = refl
  side p q e (x ∷ xs) = rw (e x, side p q e xs) refl

  pub hold-seen : (xs : List (Case A)) → Hold xs → Hold (seen_by f xs)
  hold-seen xs h = side (λ x. x.given) (λ x. x.given) (λ x. refl) xs ∙ ap (map f) h ∙ sym (side (λ x. x.worked) (λ x. x.worked) (λ x. refl) xs)

-- ---- one list behind another

map-append : {A B : Type 0} (p : A → B) (xs ys : List A) → map p (xs ++ ys) ≡ map p xs ++ map p ys
map-append p [] ys = refl
map-append p (x ∷ xs) ys = rw (map-append p xs ys) refl

pub hold-append : {A : Type 0} (xs ys : List (Case A)) → Hold xs → Hold ys → Hold (xs ++ ys)
hold-append {A} xs ys h k =
    map-append (λ (x : Case A). x.given) xs ys
    ∙ ap (λ (l : List A). l ++ map (λ (x : Case A). x.given) ys) h
    ∙ ap (λ (l : List A). map (λ (x : Case A). x.worked) xs ++ l) k
    ∙ sym (map-append (λ (x : Case A). x.worked) xs ys)

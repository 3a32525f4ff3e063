-- The parts of a text: what a word that is split off leaves of it, and that each of its words stands in it. Assumes nothing.
use mathlib.Core.Path.{◌≡◌, refl, sym, ap}
use mathlib.Core.Bool.{Bool, true, false, cond}
use mathlib.Core.List.{List, [], ◌∷◌, ◌++◌, append_assoc}
use Prim.Native.Nat.{ℕ}
use lib.ListN.{take, drop, take-append-drop}
use Rattle.base.specs.Each.{Each}
use Rattle.base.proofs.Eaches.{each-then}
use Rattle.text.specs.Part.{Behind, StandsIn}
use Rattle.text.specs.Split.{grown, parts, not_empty, blank, words}

-- all of it follows its start
pub behind-all : (s : List ℕ) → Behind s s
behind-all s = record { front = []; cut = refl }

-- what follows a place of what follows a place of s follows a place of s, and what stands in it stands in s
pub behind-then : (s t u : List ℕ) → Behind s t → Behind t u → Behind s u
behind-then s t u b d = record { front = b.front ++ d.front; cut = rw (append_assoc b.front d.front u, sym d.cut) b.cut }

pub stands-behind : (s t w : List ℕ) → Behind s t → StandsIn t w → StandsIn s w
stands-behind s t w b i =
    record {
      front = b.front ++ i.front;
      back = i.back;
      cut = rw (append_assoc b.front i.front (w ++ i.back), sym i.cut) b.cut;
    }

-- of what follows a place of s, what stands behind the first k, and then the next n
module _ (s t : List ℕ) (b : Behind s t) (k n : ℕ) where
  parted : s ≡ (b.front ++ take k t) ++ (take n (drop k t) ++ drop n (drop k t))
  parted = rw (take-append-drop n (drop k t), append_assoc b.front (take k t) (drop k t), take-append-drop k t) b.cut

  pub taken-stands : StandsIn s (take n (drop k t))
  taken-stands = record { front = b.front ++ take k t; back = drop n (drop k t); cut = parted }

  pub rest-behind : Behind s (drop n (drop k t))
  rest-behind =
      record {
        front = (b.front ++ take k t) ++ take n (drop k t);
        cut = rw (append_assoc (b.front ++ take k t) (take n (drop k t)) (drop n (drop k t))) parted;
      }

-- what stands in the front of s stands in s
pub stands-before : (s w : List ℕ) (n : ℕ) → StandsIn (take n s) w → StandsIn s w
stands-before s w n i =
    record {
      front = i.front;
      back = i.back ++ drop n s;
      cut = rw (sym (append_assoc w i.back (drop n s)), sym (append_assoc i.front (w ++ i.back) (drop n s)), sym i.cut, take-append-drop n s);
    }

pub none-stands : (s : List ℕ) → StandsIn s []
none-stands s = record { front = []; back = s; cut = refl }

-- ---- the words of a text

stands-under : (x : ℕ) (s w : List ℕ) → StandsIn s w → StandsIn (x ∷ s) w
stands-under x s w i = record { front = x ∷ i.front; back = i.back; cut = ap (λ (l : List ℕ). x ∷ l) i.cut }

each-under : (x : ℕ) (s : List ℕ) (ws : List (List ℕ)) → Each (StandsIn s) ws → Each (StandsIn (x ∷ s)) ws
each-under x s = each-then (StandsIn s) (StandsIn (x ∷ s)) (stands-under x s)

-- the first of the parts begins the text, and the others stand in it
abbrev Cut : List ℕ → List (List ℕ) → Type 0
Cut s [] = Unit {0}
Cut s (w ∷ ws) = ((back : List ℕ) × (s ≡ w ++ back)) × Each (StandsIn s) ws

cut-each : (s : List ℕ) (ws : List (List ℕ)) → Cut s ws → Each (StandsIn s) ws
cut-each s [] h = tt
cut-each s (w ∷ ws) h = (record { front = []; back = h.0.0; cut = h.0.1 }, h.1)

parts-cut : (p : ℕ → Bool) (s : List ℕ) → Cut s (parts p s)
unfolding parts grown
parts-cut p [] = (([], refl), tt)
parts-cut p (x ∷ xs) = go (parts p xs) (parts-cut p xs) (p x)
  where
    go : (ws : List (List ℕ)) → Cut xs ws → (b : Bool) → Cut (x ∷ xs) (cond b ([] ∷ ws) (grown x ws))
    go ws h true = ((x ∷ xs, refl), each-under x xs ws (cut-each xs ws h))
    go [] h false = ((xs, refl), tt)
    go (w ∷ ws) h false = ((h.0.0, ap (λ (l : List ℕ). x ∷ l) h.0.1), each-under x xs ws h.1)

each-not_empty : (s : List ℕ) (ws : List (List ℕ)) → Each (StandsIn s) ws → Each (StandsIn s) (not_empty ws)
unfolding not_empty
each-not_empty s [] h = tt
each-not_empty s ([] ∷ ws) h = each-not_empty s ws h.1
each-not_empty s ((x ∷ xs) ∷ ws) h = (h.0, each-not_empty s ws h.1)

pub words-stand : (s : List ℕ) → Each (StandsIn s) (words s)
unfolding words
words-stand s = each-not_empty s (parts blank s) (cut-each s (parts blank s) (parts-cut blank s))

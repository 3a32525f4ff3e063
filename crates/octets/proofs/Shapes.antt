-- When octets are the packet of named fields: each field reads its value, and between the fields all is 0. Assumes nothing.
use Prim.Native.Nat.{ℕ, ◌+◌, ◌-◌, ◌^◌, ◌≤◌, ◌<◌}
use mathlib.Core.Path.{◌≡◌, refl, sym, ap, ◌∙◌, subst}
use mathlib.Core.Bool.{Bool, true, false, ◌&&◌, ◌||◌}
use mathlib.Core.Logic.{inl, inr, ⊎_elim}
use mathlib.Core.List.{List, [], ◌∷◌, ◌++◌}
use lib.ListN.{length, get_or, take, drop, get_or-append, get_or-eq_default}
use lib.Seq.{ext_get_or, get_or-append-add, get_or-take, get_or-drop}
use lib.Dec.{T, leb, ltb, leb→le}
use lib.Ieee.Fits.{and_l, and_r}
use native.Mathlib.Nat.{mod-eq_of_lt}
use native.Mathlib.Omega.{arith}
use borrow.Author.Tests.{ltb-true, ltb-false, leb-false}
use Rattle.base.specs.Each.{Each}
use Rattle.octets.specs.Number.{be, be_at}
use Rattle.octets.specs.Packet.{zeros, Field, stored, packet, within, outside, apart, Zero}
use Rattle.octets.specs.Order.{Octets, same}
use Rattle.octets.proofs.Writes.{get_or-written-in, get_or-written-out}
use Rattle.octets.proofs.Numbers.{be-octet, be_at-lt, be-be_at}
use Rattle.octets.proofs.Packets.{either, with_field, others, fits, fits-be, kept, length-packet, length-zeros, get_or-zeros, stored-outside, unnamed, read_back, each_both}
use Rattle.octets.proofs.Orders.{same_refl, same-is}

-- a number is below another or not
pub below_or : {A : Type 0} (a b : ℕ) → (a < b → A) → (b ≤ a → A) → A
below_or {A} a b l h = go (ltb a b) refl
  where
    go : (t : Bool) → ltb a b ≡ t → A
    go true e = l (ltb-true a b e)
    go false e = h (ltb-false a b e)

-- ---- a packet is of octets

octets-zeros : (n : ℕ) → Octets (zeros n)
octets-zeros n k =
    below_or k n
    (λ l. omega (arith, get_or-zeros n k l))
    (λ h. omega (arith, get_or-eq_default (zeros n) 0 {n = k} (omega (arith, length-zeros n))))

octets-field : (f : Field) (l : List ℕ) → f.at + length (be f.width f.value) ≤ length l → Octets l → Octets (with_field f l)
octets-field f l h o k =
    let b = be f.width f.value in
    below_or k f.at (λ u. subst (λ (n : ℕ). n < 256) (sym (get_or-written-out l f.at b k 0 h (inl u))) (o k)) λ v.
    below_or k (f.at + length b)
    (λ u. subst (λ (n : ℕ). n < 256) (sym (ap (λ (j : ℕ). get_or (with_field f l) j 0) (over f.at k v) ∙ get_or-written-in l f.at b (k - f.at) 0 (omega arith) h)) (be-octet f.width f.value (k - f.at)))
    (λ u. subst (λ (n : ℕ). n < 256) (sym (get_or-written-out l f.at b k 0 h (inr u))) (o k))
  where
    over : (a k : ℕ) → a ≤ k → k ≡ a + (k - a)
    over a k h = omega arith

octets-stored : (fs : List Field) (n : ℕ) (l : List ℕ) → length l ≡ n → T (within n fs) → Octets l → Octets (stored fs l)
octets-stored [] n l e t o = o
octets-stored (f ∷ fs) n l e t o =
    octets-stored fs n (with_field f l) (kept f fs n l e t) (others f fs n t) (octets-field f l (fits-be f fs n l e t) o)

pub octets-packet : (n : ℕ) (fs : List Field) → T (within n fs) → Octets (packet n fs)
unfolding packet
octets-packet n fs t = octets-stored fs n (zeros n) (length-zeros n) t (octets-zeros n)

pub octets-append : (a b : List ℕ) → Octets a → Octets b → Octets (a ++ b)
octets-append a b o u k =
    below_or k (length a)
    (λ l. subst (λ (n : ℕ). n < 256) (sym (get_or-append a b 0 k l)) (o k))
    (λ l. subst (λ (n : ℕ). n < 256) (sym (ap (λ (j : ℕ). get_or (a ++ b) j 0) (over (length a) k l) ∙ get_or-append-add a b (k - length a) 0)) (u (k - length a)))
  where
    over : (a k : ℕ) → a ≤ k → k ≡ a + (k - a)
    over a k h = omega arith

-- ---- octets from the number that they hold

-- two lists that hold the same number at a place have the same octets there
pub same-octets : (w : ℕ) (p q : List ℕ) (at i : ℕ) → be_at w p at ≡ be_at w q at → Octets p → Octets q → at + w ≤ length p → at + w ≤ length q
    → at ≤ i → i < at + w → get_or p i 0 ≡ get_or q i 0
same-octets w p q at i e o u a b l h =
    let parts : take w (drop at p) ≡ take w (drop at q) = sym (be-be_at w p at o a) ∙ ap (be w) e ∙ be-be_at w q at u b in
    let k : i ≡ at + (i - at) = omega arith in
    let inside : i - at < w = omega arith in
    ap (λ (j : ℕ). get_or p j 0) k
    ∙ sym (get_or-take w (drop at p) (i - at) 0 inside ∙ get_or-drop at p (i - at) 0)
    ∙ ap (λ (l : List ℕ). get_or l (i - at) 0) parts
    ∙ get_or-take w (drop at q) (i - at) 0 inside
    ∙ get_or-drop at q (i - at) 0
    ∙ ap (λ (j : ℕ). get_or q j 0) (sym k)

-- ---- a place that a field names is in one of the fields

find : {P : Field → Type 0} {Q : Type 0} (fs : List Field) (i : ℕ) → outside i 1 fs ≡ false → Each P fs
    → ((f : Field) → P f → f.at ≤ i → i < f.at + f.width → Q) → Q
find [] i e p k = let z : ◌≡◌ {A = ℕ} 0 1 = cc in absurd (omega arith)
find {P} {Q} (f ∷ fs) i e p k = go (leb (i + 1) f.at) (leb (f.at + f.width) i) refl refl e (λ h. find fs i h p.1 k)
  where
    go : (a b : Bool) → leb (i + 1) f.at ≡ a → leb (f.at + f.width) i ≡ b → ((a || b) && outside i 1 fs) ≡ false → (outside i 1 fs ≡ false → Q) → Q
    go true b x y h rest = rest h
    go false true x y h rest = rest h
    go false false x y h rest =
        let low = leb-false (i + 1) f.at x in
        k f p.0 (omega arith) (leb-false (f.at + f.width) i y)

each_fits : (n : ℕ) (fs : List Field) → T (within n fs) → Each (λ f. f.at + f.width ≤ n) fs
each_fits n [] t = tt
each_fits n (f ∷ fs) t = (fits f fs n t, each_fits n fs (others f fs n t))

-- ---- between the fields, which stand in the order of their places, all is 0

abbrev pub Gaps : ℕ → List Field → List ℕ → Type 0
Gaps from [] p = Zero p from (length p)
Gaps from (f ∷ fs) p = Zero p from f.at × Gaps (f.at + f.width) fs p

gaps-unnamed : (fs : List Field) (p : List ℕ) (from : ℕ) → Gaps from fs p → (i : ℕ) → from ≤ i → i < length p → T (outside i 1 fs) → get_or p i 0 ≡ 0
gaps-unnamed [] p from g i l h t = g i l h
gaps-unnamed (f ∷ fs) p from g i l h t =
    let before = leb (i + 1) f.at in
    let past = leb (f.at + f.width) i in
    ⊎_elim
    (λ x. let u = leb→le (i + 1) f.at x in g.0 i l (omega arith))
    (λ x. gaps-unnamed fs p (f.at + f.width) g.1 i (leb→le (f.at + f.width) i x) h (and_r (before || past) (outside i 1 fs) t))
    (either before past (and_l (before || past) (outside i 1 fs) t))

module _ (n : ℕ) (fs : List Field) (t : T (within n fs)) (a : T (apart fs)) where
  module _ (p : List ℕ) (e : length p ≡ n) (o : Octets p) (r : Each (λ f. be_at f.width p f.at ≡ f.value) fs) (g : Gaps 0 fs p) where
    abbrev There : Field → Type 0
    There f = (be_at f.width p f.at ≡ be_at f.width (packet n fs) f.at) × (f.at + f.width ≤ n)

    there : Each There fs
    there =
        each_both (λ f h k. (h, k)) fs
        (each_both (λ f h k. h ∙ sym (k ∙ mod-eq_of_lt (subst (λ (v : ℕ). v < 256 ^ f.width) h (be_at-lt f.width p f.at o)))) fs r (read_back n fs t a))
        (each_fits n fs t)

    at_place : (i : ℕ) → i < n → (b : Bool) → outside i 1 fs ≡ b → get_or p i 0 ≡ get_or (packet n fs) i 0
    at_place i h true x =
        let out : T (outside i 1 fs) = subst T (sym x) tt in
        gaps-unnamed fs p 0 g i (omega arith) (omega arith) out ∙ sym (unnamed n fs i t h out)
    at_place i h false x =
        let l = length-packet n fs t in
        find fs i x there λ f w low high.
        same-octets f.width p (packet n fs) f.at i w.0 o (octets-packet n fs t) (omega (arith, w.1)) (omega (arith, w.1)) low high

    -- octets of which each field reads its value, and that are 0 between the fields
    pub packet-is : p ≡ packet n fs
    packet-is = ext_get_or 0 p (packet n fs) (e ∙ sym (length-packet n fs t)) (λ i h. at_place i (omega arith) (outside i 1 fs) refl)

  -- a run of octets that no field names
  pub unnamed-run : (from w : ℕ) → from + w ≤ n → T (outside from w fs) → Zero (packet n fs) from (from + w)
  unfolding packet
  unnamed-run from w h out i l u =
      let k : i ≡ from + (i - from) = omega arith in
      ap (λ (j : ℕ). get_or (packet n fs) j 0) k
      ∙ stored-outside fs n (zeros n) from w (i - from) (length-zeros n) t out (omega arith)
      ∙ get_or-zeros n (from + (i - from)) (omega arith)

-- ---- the packet itself is 0 between its fields

-- no field of all touches what lies between those of fs, from a place on up to n
abbrev pub gapped : List Field → ℕ → ℕ → List Field → Bool
gapped all n from [] = outside from (n - from) all
gapped all n from (f ∷ fs) = outside from (f.at - from) all && gapped all n (f.at + f.width) fs

module _ (n : ℕ) (all : List Field) (t : T (within n all)) (a : T (apart all)) where
  -- a run that may be empty
  run-zero : (from to : ℕ) → to ≤ n → T (outside from (to - from) all) → Zero (packet n all) from to
  run-zero from to h out i l u = unnamed-run n all t a from (to - from) (omega arith) out i l (omega arith)

  pub gaps-packet : (fs : List Field) (from : ℕ) → T (within n fs) → T (gapped all n from fs) → Gaps from fs (packet n all)
  gaps-packet [] from w g = subst (Zero (packet n all) from) (sym (length-packet n all t)) (run-zero from n (omega arith) g)
  gaps-packet (f ∷ fs) from w g =
      let first = outside from (f.at - from) all in
      let rest = gapped all n (f.at + f.width) fs in
      (run-zero from f.at (omega (arith, fits f fs n w)) (and_l first rest g), gaps-packet fs (f.at + f.width) (others f fs n w) (and_r first rest g))

-- ---- a test of the octets is the test whether they are the packet

pub same_by : (b : Bool) (p q : List ℕ) → (T b → p ≡ q) → (p ≡ q → T b) → b ≡ same p q
same_by b p q to back = go b (same p q) refl to back
  where
    go : (b c : Bool) → same p q ≡ c → (T b → p ≡ q) → (p ≡ q → T b) → b ≡ c
    go true true e to back = refl
    go false false e to back = refl
    go true false e to back = absurd (subst T (ap (same p) (to tt) ∙ e) (same_refl p))
    go false true e to back = absurd (back (same-is p q (subst T (sym e) tt)))

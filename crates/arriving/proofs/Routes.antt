-- What an arrival is: the header's answer, and the tests of sender and port. Assumes nothing.
use Rattle.std.specs.Prelude.{Result, Ok, Err}
use Rattle.iq.specs.declared.IqError.{IqError}
use Rattle.iq.specs.declared.IqError.TheVariants.{Length, BitsPerSample, SamplesPerFrame, NoRoom}
use Prim.Native.Nat.{ℕ, ◌-◌, ◌≤◌, ◌<◌}
use mathlib.Core.Path.{◌≡◌, refl, sym, ap, ◌∙◌}
use mathlib.Core.Bool.{not}
use mathlib.Core.List.{List, [], ◌∷◌}
use borrow.Author.Tests.{eq-eqb, ne_eqb, lt-ltb, le-ltb, le-leb, lt-leb}
use native.Mathlib.Omega.{arith}
use lib.ListN.{get_or}
use Rattle.base.proofs.Picks.{pick-t, pick-f, pick-either}
use Rattle.base.specs.Told.{Told, gives, refused}
use Rattle.iq.proofs.Headers.{given-count}
use Rattle.iq.specs.Iq.{iq_answer, header_told}
use Rattle.model.specs.Routing.{Routed, iq, status, ignored, malformed, by_header, by_offset, routed}
use Rattle.model.specs.declared.sender.Sender.{Sender}
use Rattle.model.specs.declared.sender.Sender.TheVariants.{V4, V6}

module _ (offset : ℕ) (b : List ℕ) where
  module _ (h : offset ≡ 11) (r : Result ℕ IqError) (t : iq_answer r ≡ header_told b) where
    headed : by_header (iq_answer r) ≡ by_offset offset b
    unfolding by_offset
    headed = ap by_header t ∙ sym (pick-t _ _ _ (eq-eqb offset 11 h))

    pub header_refused : ((count : ℕ) → r ≡ Ok count → ⊥) → malformed ≡ by_offset offset b
    header_refused n = go r n ∙ headed
      where
        go : (r : Result ℕ IqError) → ((count : ℕ) → r ≡ Ok count → ⊥) → malformed ≡ by_header (iq_answer r)
        go (Ok count) n = absurd (n count refl)
        go (Err (Length k)) n = refl
        go (Err (BitsPerSample v)) n = refl
        go (Err (SamplesPerFrame v)) n = refl
        go (Err NoRoom) n = refl

    pub header-right : (count : ℕ) → r ≡ Ok count → iq count ≡ by_offset offset b
    header-right count e = sym (ap (λ (x : Result ℕ IqError). by_header (iq_answer x)) e) ∙ headed

  module _ (not11 : offset ≡ 11 → ⊥) where
    pub offset-status : offset ≡ 1 → status ≡ by_offset offset b
    unfolding by_offset
    offset-status h = sym (pick-f _ _ _ (ne_eqb offset 11 not11) ∙ pick-t _ _ _ (eq-eqb offset 1 h))

    module _ (not1 : offset ≡ 1 → ⊥) where
      pub offset-ignored : offset ≤ 10 → ignored ≡ by_offset offset b
      unfolding by_offset
      offset-ignored h = sym (pick-f _ _ _ (ne_eqb offset 11 not11) ∙ pick-f _ _ _ (ne_eqb offset 1 not1) ∙ pick-t _ _ _ (le-leb offset 10 h))

      pub offset-past : 10 < offset → malformed ≡ by_offset offset b
      unfolding by_offset
      offset-past h = sym (pick-f _ _ _ (ne_eqb offset 11 not11) ∙ pick-f _ _ _ (ne_eqb offset 1 not1) ∙ pick-f _ _ _ (lt-leb offset 10 h))

module _ (radio base : ℕ) (from : Sender) (b : List ℕ) where
  pub from-v6 : from ≡ V6 → malformed ≡ routed radio base from b
  unfolding routed
  from-v6 e = sym (ap (λ (x : Sender). routed radio base x b) e)

  module _ (ip port : ℕ) (e : from ≡ V4 ip port) where
    pub wrong-address : (ip ≡ radio → ⊥) → malformed ≡ routed radio base from b
    unfolding routed
    wrong-address h = sym (ap (λ (x : Sender). routed radio base x b) e ∙ pick-t _ _ _ (ap not (ne_eqb ip radio h)))

    module _ (right : ip ≡ radio) where
      pub below-base : port < base → malformed ≡ routed radio base from b
      unfolding routed
      below-base h =
          sym (ap (λ (x : Sender). routed radio base x b) e ∙ pick-f _ _ _ (ap not (eq-eqb ip radio right)) ∙ pick-t _ _ _ (lt-ltb port base h))

      pub from-base : (r : Routed) → base ≤ port → r ≡ by_offset (port - base) b → r ≡ routed radio base from b
      unfolding routed
      from-base r h o =
          o
          ∙ sym (ap (λ (x : Sender). routed radio base x b) e ∙ pick-f _ _ _ (ap not (eq-eqb ip radio right)) ∙ pick-f _ _ _ (le-ltb port base h))

-- ---- the other way round: an arrival that is I/Q has a right header

module _ (count : ℕ) (b : List ℕ) where
  abbrev Headed : Routed → Type 0
  Headed x = iq count ≡ x → gives (count ∷ []) ≡ header_told b

  none : (x : Routed) → iq count ≡ x → x ≡ malformed → gives (count ∷ []) ≡ header_told b
  none x h e = let z : ◌≡◌ {A = ℕ} 0 1 = cc in absurd (omega arith)

  by-header : (t : Told) → t ≡ header_told b → Headed (by_header t)
  by-header (gives vs) e h =
      let v = given-count b vs e in
      let k : count ≡ get_or vs 0 0 = cc in
      ap (λ (n : ℕ). gives (n ∷ [])) (k ∙ ap (λ (l : List ℕ). get_or l 0 0) v) ∙ ap gives (sym v) ∙ e
  by-header (refused k vs) e h = none malformed h refl

  pub right-header : (radio base : ℕ) (from : Sender) → Headed (routed radio base from b)
  unfolding routed by_offset
  right-header radio base V6 = λ h. none malformed h refl
  right-header radio base (V4 ip port) =
      pick-either _ _ _ Headed (λ _ h. none malformed h refl) λ _.
      pick-either _ _ _ Headed (λ _ h. none malformed h refl) λ _.
      pick-either _ _ _ Headed (λ _. by-header (header_told b) refl) λ _.
      pick-either _ _ _ Headed (λ _ h. let z : ◌≡◌ {A = ℕ} 0 1 = cc in absurd (omega arith)) λ _.
      pick-either _ _ _ Headed (λ _ h. let z : ◌≡◌ {A = ℕ} 0 1 = cc in absurd (omega arith)) (λ _ h. none malformed h refl)

-- The rows of an I/Q datagram's header, in order, and what a header that passed them tells of the datagram. Assumes nothing.
use Rattle.std.specs.Prelude.{Result, Ok, Err}
use Rattle.iq.specs.declared.IqError.{IqError}
use Rattle.iq.specs.declared.IqError.TheVariants.{Length, BitsPerSample, SamplesPerFrame, NoRoom}
use Prim.Native.Nat.{ℕ, ◌≤◌, ◌<◌}
use mathlib.Core.Path.{◌≡◌, refl, sym, ap, ◌∙◌}
use mathlib.Core.Bool.{Bool, true, false, not}
use mathlib.Core.List.{List, [], ◌∷◌}
use lib.ListN.{length}
use lib.Dec.{eqb, ltb}
use lib.Ieee.{Float}
use native.Mathlib.Omega.{arith}
use borrow.Author.Tests.{eq-eqb, ne_eqb, eqb-true, lt-ltb, le-ltb}
use Rattle.base.specs.Pick.{pick}
use Rattle.octets.specs.Number.{be_at}
use Rattle.octets.specs.Written.{written}
use Rattle.base.proofs.Picks.{pick-t, pick-f}
use Rattle.base.specs.Told.{Told, gives, refused}
use Rattle.iq.specs.Iq.{samples_of, count_of, rows, header_told, parse_told, iq_answer, parse_out, Parsed}

-- ---- the rows, one after the other, whatever comes after them

module _ (b : List ℕ) (last : Told) where
  pub row-7 : (length b ≡ 1444 → ⊥) → rows b last ≡ refused 7 (length b ∷ [])
  unfolding rows
  row-7 h = pick-t _ _ _ (ap not (ne_eqb (length b) 1444 h))

  pub row-8 : length b ≡ 1444 → (be_at 2 b 12 ≡ 24 → ⊥) → rows b last ≡ refused 8 (be_at 2 b 12 ∷ [])
  unfolding rows
  row-8 n h = pick-f _ _ _ (ap not (eq-eqb (length b) 1444 n)) ∙ pick-t _ _ _ (ap not (ne_eqb (be_at 2 b 12) 24 h))

  pub row-9 : length b ≡ 1444 → be_at 2 b 12 ≡ 24 → (be_at 2 b 14 ≡ 238 → ⊥) → rows b last ≡ refused 9 (be_at 2 b 14 ∷ [])
  unfolding rows
  row-9 n w h =
      pick-f _ _ _ (ap not (eq-eqb (length b) 1444 n)) ∙ pick-f _ _ _ (ap not (eq-eqb (be_at 2 b 12) 24 w)) ∙ pick-t _ _ _ (ap not (ne_eqb (be_at 2 b 14) 238 h))

  pub past : length b ≡ 1444 → be_at 2 b 12 ≡ 24 → be_at 2 b 14 ≡ 238 → rows b last ≡ last
  unfolding rows
  past n w h =
      pick-f _ _ _ (ap not (eq-eqb (length b) 1444 n)) ∙ pick-f _ _ _ (ap not (eq-eqb (be_at 2 b 12) 24 w)) ∙ pick-f _ _ _ (ap not (eq-eqb (be_at 2 b 14) 238 h))

-- ---- the other way round

no-gift : {A : Type 0} (k : ℕ) (us vs : List ℕ) → refused k us ≡ gives vs → A
no-gift k us vs h = let z : ◌≡◌ {A = ℕ} 0 1 = cc in absurd (omega arith)

-- a choice that gives has passed its tests
three : (p q r : Bool) (i j k : ℕ) (xs ys zs us vs : List ℕ) → pick (not p) (refused i xs) (pick (not q) (refused j ys) (pick (not r) (refused k zs) (gives us))) ≡ gives vs
    → (p ≡ true) × (q ≡ true) × (r ≡ true) × (us ≡ vs)
unfolding pick
three false q r i j k xs ys zs us vs h = no-gift i xs vs h
three true false r i j k xs ys zs us vs h = no-gift j ys vs h
three true true false i j k xs ys zs us vs h = no-gift k zs vs h
three true true true i j k xs ys zs us vs h = (refl, refl, refl, cc)

-- one that is refused is so whatever comes after
kept : (p q r : Bool) (i j k n : ℕ) (xs ys zs us vs : List ℕ) (then : Told)
    → refused n vs ≡ pick (not p) (refused i xs) (pick (not q) (refused j ys) (pick (not r) (refused k zs) (gives us)))
    → refused n vs ≡ pick (not p) (refused i xs) (pick (not q) (refused j ys) (pick (not r) (refused k zs) then))
unfolding pick
kept false q r i j k n xs ys zs us vs then h = h
kept true false r i j k n xs ys zs us vs then h = h
kept true true false i j k n xs ys zs us vs then h = h
kept true true true i j k n xs ys zs us vs then h = no-gift n vs us h

-- ---- a header that gives a count, and one that refuses

module _ (b : List ℕ) where
  pub right-header : (seq : ℕ) → gives (seq ∷ []) ≡ header_told b → (length b ≡ 1444) × (be_at 2 b 12 ≡ 24) × (be_at 2 b 14 ≡ 238) × (seq ≡ be_at 4 b 0)
  unfolding header_told rows
  right-header seq h =
      let t = three (eqb (length b) 1444) (eqb (be_at 2 b 12) 24) (eqb (be_at 2 b 14) 238) _ _ _ _ _ _ (be_at 4 b 0 ∷ []) (seq ∷ []) (sym h) in
      (eqb-true (length b) 1444 t.0, eqb-true (be_at 2 b 12) 24 t.1, eqb-true (be_at 2 b 14) 238 t.2, let e = t.3 in cc)

  -- what a header gives is the count, and nothing else
  pub given-count : (vs : List ℕ) → gives vs ≡ header_told b → vs ≡ be_at 4 b 0 ∷ []
  unfolding header_told rows
  given-count vs h =
      sym (three (eqb (length b) 1444) (eqb (be_at 2 b 12) 24) (eqb (be_at 2 b 14) 238) _ _ _ _ _ _ (be_at 4 b 0 ∷ []) vs (sym h)).3

  refused-alike : (k : ℕ) (vs : List ℕ) (room : ℕ) → refused k vs ≡ header_told b → refused k vs ≡ parse_told b room
  unfolding header_told parse_told rows
  refused-alike k vs room h = kept (eqb (length b) 1444) (eqb (be_at 2 b 12) 24) (eqb (be_at 2 b 14) 238) _ _ _ k _ _ _ (be_at 4 b 0 ∷ []) vs _ h

module _ (b : List ℕ) (d : List Float) where
  parsed-refused : (r : Result ℕ IqError) (k : ℕ) (vs : List ℕ) → iq_answer r ≡ refused k vs → refused k vs ≡ parse_told b (length d) → Parsed b d r d
  unfolding parse_out
  parsed-refused r k vs e h = record { answer = e ∙ h; holds = ap (λ (t : Told). parse_out t b d) h }

  -- every answer but a count is the header's own, and the output is left alone
  pub parsed-bad : (e : IqError) → iq_answer (Err e) ≡ header_told b → Parsed b d (Err e) d
  parsed-bad (Length k) h = parsed-refused (Err (Length k)) 7 (k ∷ []) refl (refused-alike b 7 (k ∷ []) (length d) h)
  parsed-bad (BitsPerSample v) h = parsed-refused (Err (BitsPerSample v)) 8 (v ∷ []) refl (refused-alike b 8 (v ∷ []) (length d) h)
  parsed-bad (SamplesPerFrame v) h = parsed-refused (Err (SamplesPerFrame v)) 9 (v ∷ []) refl (refused-alike b 9 (v ∷ []) (length d) h)
  parsed-bad NoRoom h = parsed-refused (Err NoRoom) 16 [] refl (refused-alike b 16 [] (length d) h)

  module _ (seq : ℕ) (h : gives (seq ∷ []) ≡ header_told b) where
    roomed : parse_told b (length d) ≡ pick (ltb (length d) 476) (refused 16 []) (count_of b)
    unfolding parse_told
    roomed = let t = right-header b seq h in past b (pick (ltb (length d) 476) (refused 16 []) (count_of b)) t.0 t.1 t.2

    pub parsed-no-room : length d < 476 → Parsed b d (Err NoRoom) d
    parsed-no-room l = parsed-refused (Err NoRoom) 16 [] refl (sym (roomed ∙ pick-t _ _ _ (lt-ltb (length d) 476 l)))

    pub parsed-count : (e : List Float) → 476 ≤ length d → e ≡ written d 0 (samples_of b) → Parsed b d (Ok seq) e
    unfolding parse_out
    parsed-count e l w =
        let t : gives (seq ∷ []) ≡ parse_told b (length d) = ap (λ (n : ℕ). gives (n ∷ [])) (right-header b seq h).3 ∙ sym (roomed ∙ pick-f _ _ _ (le-ltb (length d) 476 l)) in
        record { answer = t; holds = w ∙ ap (λ (t : Told). parse_out t b d) t }

    -- what the parser leaves of a datagram with a right header, in a buffer with room
    pub parsed-samples : (r : Result ℕ IqError) (e : List Float) → 476 ≤ length d → Parsed b d r e → e ≡ written d 0 (samples_of b)
    unfolding parse_out
    parsed-samples r e l p = p.holds ∙ ap (λ (t : Told). parse_out t b d) (roomed ∙ pick-f _ _ _ (le-ltb (length d) 476 l))

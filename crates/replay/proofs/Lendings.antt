-- The buffers that a call lends are its own parts of the list's. Assumes nothing.
use Prim.Native.Nat.{ℕ, ◌+◌, ◌≤◌}
use mathlib.Core.Path.{◌≡◌, refl, sym, ap, ◌∙◌}
use mathlib.Core.Bool.{Bool, true, false}
use mathlib.Core.List.{List, []}
use lib.ListN.{length, drop, length-take, length-drop}
use lib.Dec.{eqb}
use lib.Ieee.{Float}
use native.Mathlib.Omega.{arith}
use borrow.Author.Tests.{eqb-true, eqb-false}
use Rattle.base.specs.Pick.{pick}
use Rattle.model.specs.Host.{Call}
use Rattle.model.specs.Refusals.{lent_packets, lent_buffer}
use Rattle.encoding.specs.Words.{lends_packets, call_of}
use Rattle.encoding.specs.Lists.{part}
use Rattle.encoding.specs.declared.words.Words.{Words}
use Rattle.turns.proofs.Dispatch.{Is, as-begin, as-pass, as-arrival, as-take, as-close, as-missing, as-discontinuity, as-stalled}

past : (k : ℕ) → (k ≡ 0 → ⊥) → (k ≡ 1 → ⊥) → (k ≡ 2 → ⊥) → (k ≡ 3 → ⊥) → (k ≡ 4 → ⊥) → (k ≡ 5 → ⊥) → (k ≡ 6 → ⊥) → 7 ≤ k
past k h0 h1 h2 h3 h4 h5 h6 = omega (arith, h0, h1, h2, h3, h4, h5, h6)

module _ (w : Words) (o n d : List ℕ) (f : List Float) where
  abbrev Lends : Type 0
  Lends = (lent_packets (call_of w o n d f) ≡ pick (lends_packets w.kind) d []) × (lent_buffer (call_of w o n d f) ≡ pick (eqb w.kind 3) f [])

  lends_as : (c : Call) → Is w o n d f d f c (lent_packets c) (lent_buffer c) → Lends
  lends_as c (h, p, q) = (ap lent_packets h ∙ sym p, ap lent_buffer h ∙ sym q)

  pub lends : Lends
  lends = go (eqb w.kind 0) (eqb w.kind 1) (eqb w.kind 2) (eqb w.kind 3) (eqb w.kind 4) (eqb w.kind 5) (eqb w.kind 6) refl refl refl refl refl refl refl
    where
      go : (b0 b1 b2 b3 b4 b5 b6 : Bool) → eqb w.kind 0 ≡ b0 → eqb w.kind 1 ≡ b1 → eqb w.kind 2 ≡ b2 → eqb w.kind 3 ≡ b3 → eqb w.kind 4 ≡ b4
          → eqb w.kind 5 ≡ b5 → eqb w.kind 6 ≡ b6 → Lends
      go true b1 b2 b3 b4 b5 b6 e0 e1 e2 e3 e4 e5 e6 = lends_as _ (as-begin w o n d f d f (eqb-true _ _ e0))
      go false true b2 b3 b4 b5 b6 e0 e1 e2 e3 e4 e5 e6 = lends_as _ (as-pass w o n d f d f (eqb-true _ _ e1))
      go false false true b3 b4 b5 b6 e0 e1 e2 e3 e4 e5 e6 = lends_as _ (as-arrival w o n d f d f (eqb-true _ _ e2))
      go false false false true b4 b5 b6 e0 e1 e2 e3 e4 e5 e6 = lends_as _ (as-take w o n d f d f (eqb-true _ _ e3))
      go false false false false true b5 b6 e0 e1 e2 e3 e4 e5 e6 = lends_as _ (as-close w o n d f d f (eqb-true _ _ e4))
      go false false false false false true b6 e0 e1 e2 e3 e4 e5 e6 = lends_as _ (as-missing w o n d f d f (eqb-true _ _ e5))
      go false false false false false false true e0 e1 e2 e3 e4 e5 e6 = lends_as _ (as-discontinuity w o n d f d f (eqb-true _ _ e6))
      go false false false false false false false e0 e1 e2 e3 e4 e5 e6 =
          lends_as _
          (as-stalled w o n d f d f
          (past w.kind (eqb-false _ _ e0) (eqb-false _ _ e1) (eqb-false _ _ e2) (eqb-false _ _ e3) (eqb-false _ _ e4) (eqb-false _ _ e5) (eqb-false _ _ e6)))

-- a part that is lent is as long as its numbers say
pub part-size : {A : Type 0} (b : Bool) (k from : ℕ) (l : List A) → from + pick b k 0 ≤ length l → length (pick b (part from (pick b k 0) l) []) ≡ pick b k 0
unfolding pick
part-size true k from l h = length-take k (drop from l) ∙ omega (arith, length-drop from l)
part-size false k from l h = refl

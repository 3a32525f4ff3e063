-- A call by its kind: which it is, and which buffers it lends. Assumes nothing.
use Prim.Native.Nat.{ℕ, ◌≤◌, ◌<◌}
use mathlib.Core.Path.{◌≡◌, refl, sym, ap, subst, ◌∙◌}
use mathlib.Core.Bool.{Bool, true, false, ◌&&◌}
use mathlib.Core.List.{List, []}
use lib.Dec.{eqb, leb}
use lib.Ieee.{Float}
use native.Mathlib.Omega.{arith}
use borrow.Author.Tests.{leb-true, ne_eqb}
use Rattle.base.specs.Pick.{pick}
use Rattle.model.specs.Host.{Call, Begin, Pass, Arrival, Take, Close, TakeMissing, TakeDiscontinuity, TakeStalled}
use Rattle.model.specs.State.{State}
use Rattle.model.specs.Session.{step}
use Rattle.model.specs.Gives.{incoming}
use Rattle.std.specs.Prelude.{Option, Some, None, IfSome}
use Rattle.std.specs.Option.{unwrap_or}
use Rattle.encoding.specs.declared.kind.Kind.{Kind}
use Rattle.encoding.specs.declared.kind.Kind.TheVariants as kind
use Rattle.encoding.specs.Words.{kind_number, is_call, lends_packets, sender_of, call_of}
use Rattle.turns.specs.Reply.{Replies}
use Rattle.encoding.specs.declared.words.Words.{Words}
use Rattle.turns.specs.declared.call.Replied.{Replied}
use Rattle.model.specs.declared.session.Session.{Session}

-- the kind, the address and the port of a call
pub bounds : (w : Words) → is_call w ≡ true → (w.kind ≤ 7) × (w.address ≤ 4294967296) × (w.port ≤ 65535)
bounds w h = go (leb w.kind 7) (leb w.address 4294967296) (leb w.port 65535) refl refl refl h
  where
    go : (k a p : Bool) → leb w.kind 7 ≡ k → leb w.address 4294967296 ≡ a → leb w.port 65535 ≡ p → (k && (a && p)) ≡ true
        → (w.kind ≤ 7) × (w.address ≤ 4294967296) × (w.port ≤ 65535)
    go true true true ek ea ep h = (leb-true _ _ ek, leb-true _ _ ea, leb-true _ _ ep)
    go false a p ek ea ep h = let z : ◌≡◌ {A = ℕ} 0 1 = cc in absurd (omega arith)
    go true false p ek ea ep h = let z : ◌≡◌ {A = ℕ} 0 1 = cc in absurd (omega arith)
    go true true false ek ea ep h = let z : ◌≡◌ {A = ℕ} 0 1 = cc in absurd (omega arith)

-- what the code found of its kind, with the last in place of none, and what that is
pub kind_is : (w : Words) → is_call w ≡ true → (r : Option Kind) → IfSome r (λ k. w.kind ≡ kind_number k) → (r ≡ None → 7 < w.kind)
    → (k : Kind) → k ≡ unwrap_or r kind.TakeStalled → {j : Kind} → k ≡ j → w.kind ≡ kind_number j
kind_is w h (Some k) some none k' e f = some ∙ ap kind_number (sym e ∙ f)
kind_is w h None some none k' e f = let b = (bounds w h).0 in let l = none refl in absurd (omega (arith, b, l))

-- the numbers w, with these parts of the buffers, are the call c, of which p and q come back
abbrev pub Is : Words → List ℕ → List ℕ → List ℕ → List Float → List ℕ → List Float → Call → List ℕ → List Float → Type 0
Is w o n d f e g c p q =
    (call_of w o n d f ≡ c) × (pick (lends_packets w.kind) e [] ≡ p) × (pick (eqb w.kind 3) g [] ≡ q)

module _ (w : Words) (o n d : List ℕ) (f : List Float) (e : List ℕ) (g : List Float) where
  pub as-begin : w.kind ≡ 0 → Is w o n d f e g (Begin w.reading) [] []
  unfolding call_of pick
  as-begin h = (rw h, rw h, rw h)

  pub as-pass : w.kind ≡ 1 → Is w o n d f e g (Pass w.reading d) e []
  unfolding call_of pick
  as-pass h = (rw h, rw h, rw h)

  pub as-arrival : w.kind ≡ 2 → Is w o n d f e g (Arrival (incoming w.reading w.later (sender_of w.address w.port) o n) d) e []
  unfolding call_of pick
  as-arrival h = (rw h, rw h, rw h)

  pub as-take : w.kind ≡ 3 → Is w o n d f e g (Take w.reading f) [] g
  unfolding call_of pick
  as-take h = (rw h, rw h, rw h)

  pub as-close : w.kind ≡ 4 → Is w o n d f e g (Close d) e []
  unfolding call_of pick
  as-close h = (rw h, rw h, rw h)

  pub as-missing : w.kind ≡ 5 → Is w o n d f e g TakeMissing [] []
  unfolding call_of pick
  as-missing h = (rw h, rw h, rw h)

  pub as-discontinuity : w.kind ≡ 6 → Is w o n d f e g TakeDiscontinuity [] []
  unfolding call_of pick
  as-discontinuity h = (rw h, rw h, rw h)

  -- 7, and what is past it
  pub as-stalled : 7 ≤ w.kind → Is w o n d f e g TakeStalled [] []
  unfolding call_of pick
  as-stalled h =
      let k = w.kind in
      let not : (j : ℕ) → j < 7 → eqb k j ≡ false = λ j l. ne_eqb k j (λ e. omega (arith, e)) in (
        rw (not 0 (omega arith), not 1 (omega arith), not 2 (omega arith), not 3 (omega arith), not 4 (omega arith), not 5 (omega arith), not 6 (omega arith)),
        rw (not 1 (omega arith), not 2 (omega arith), not 4 (omega arith)),
        rw (not 3 (omega arith)),
      )

-- what the call gave is what the numbers give
pub by_kind : (w : Words) (o n d : List ℕ) (f : List Float) (e : List ℕ) (g : List Float) (c : Call) (p : List ℕ) (q : List Float) (st : State) (r : Replied)
    (s : Session) (samples : List Float) → Is w o n d f e g c p q → Replies r s samples p q (step st c)
    → Replies r s samples (pick (lends_packets w.kind) e []) (pick (eqb w.kind 3) g []) (step st (call_of w o n d f))
by_kind w o n d f e g c p q st r s samples (hc, hp, hq) x =
    subst (λ (y : Call). Replies r s samples (pick (lends_packets w.kind) e []) (pick (eqb w.kind 3) g []) (step st y)) (sym hc)
    (subst (λ (y : List ℕ). Replies r s samples y (pick (eqb w.kind 3) g []) (step st c)) (sym hp)
    (subst (λ (y : List Float). Replies r s samples p y (step st c)) (sym hq) x))

-- The level over a list of calls: from an opening at any level it stays within 0 to 30, by steps of at most 6 that are told. Assumes nothing.
use Prim.Native.Nat.{ℕ, ◌-◌, ◌≤◌, ◌<◌}
use mathlib.Core.Bool.{Bool, true, not, ◌&&◌}
use mathlib.Core.Path.{◌≡◌, refl}
use mathlib.Core.List.{List, [], ◌∷◌}
use native.Mathlib.Omega.{arith}
use lib.Dec.{T_not, leb, ltb, eqb, ltb→lt}
use lib.Ieee.Fits.{and_l}
use borrow.Author.Tests.{eq-eqb}
use Rattle.base.proofs.Picks.{pick-either}
use Rattle.attenuator.specs.Controller.{opened, run_start_of, heard, trips, stays, raised, overload, observed, releases, lowered, ticked}
use Rattle.attenuator.specs.Level.{Call, observe, tick, called, Moves, Steady}
use Rattle.attenuator.specs.declared.Timing.{Timing}
use Rattle.attenuator.specs.declared.Controller.{Controller}
use Rattle.attenuator.specs.Controller.{Stepped}

-- what is shown of each call
record Good (c : Controller) (s : Stepped) : Type 0 where
  moves : Moves c.db s.step s.controller.db
  keeps : c.db ≤ 30 → s.controller.db ≤ 30

no_step : (c d : Controller) → d.db ≡ c.db → Good c (stays d)
no_step c d e =
    record { moves = record { rises = omega (arith, e); falls = omega (arith, e); told = e }; keeps = λ h. omega (arith, e, h) }

step-up : (c : Controller) (now : ℕ) → c.db < 30 → Good c (raised c now)
step-up c now l =
    record { moves = record { rises = omega arith; falls = omega arith; told = (refl, refl, omega arith) }; keeps = λ h. omega arith }

step_down : (c : Controller) (now : ℕ) → 0 < c.db → Good c (lowered c now)
step_down c now l =
    record { moves = record { rises = omega arith; falls = omega arith; told = (refl, refl, omega arith) }; keeps = λ h. omega arith }

below : (c : Controller) (start now : ℕ) → trips c start now ≡ true → c.db < 30
unfolding trips
below c start now h = first c.db (leb c.timing.trip_after (now - start)) h
  where
    first : (n : ℕ) (t : Bool) → (ltb n 30 && t) ≡ true → n < 30
    first n t e = ltb→lt n 30 (and_l (ltb n 30) t (rw e tt))

above : (c : Controller) (now : ℕ) → releases c now ≡ true → 0 < c.db
unfolding releases
above c now h = first c.db (leb c.timing.release_after (now - c.quiet_since)) h
  where
    first : (n : ℕ) (t : Bool) → (not (eqb n 0) && t) ≡ true → 0 < n
    first n t e =
        let above-0 : n ≡ 0 → ⊥ = λ z. T_not (eqb n 0) (and_l (not (eqb n 0)) t (rw e tt)) (rw (eq-eqb n 0 z) tt) in
        omega (arith, above-0)

on-overload : (c : Controller) (start now : ℕ) → Good c (overload c start now)
unfolding overload
on-overload c start now = pick-either _ _ _ (Good c) (λ t. step-up c now (below c start now t)) (λ f. no_step c (heard c c.db start now) refl)

each-call : (c : Controller) (x : Call) → Good c (called c x)
unfolding observed ticked
each-call c (observe overloaded now) = pick-either _ _ _ (Good c) (λ t. on-overload c (run_start_of c now) now) (λ f. no_step c c refl)
each-call c (tick now) = pick-either _ _ _ (Good c) (λ t. step_down c now (above c now t)) (λ f. no_step c c refl)

-- at every controller, levels above 30 included
pub moves_so : (c : Controller) (x : Call) → let s = called c x in Moves c.db s.step s.controller.db
moves_so c x = (each-call c x).moves

steady-from : (c : Controller) (xs : List Call) → c.db ≤ 30 → Steady c xs
steady-from c [] h = h
steady-from c (x ∷ xs) h =
    let g = each-call c x in
    (h, g.moves, steady-from (called c x).controller xs (g.keeps h))

opened-within : (db now : ℕ) (timing : Timing) → (opened db now timing).db ≤ 30
unfolding opened
opened-within db now timing = omega arith

-- a level within 0 to 30 is the level at the opening
pub opened-level : (db now : ℕ) (timing : Timing) → db ≤ 30 → (opened db now timing).db ≡ db
unfolding opened
opened-level db now timing h = omega arith

-- from `new`, whatever the level that it is given
pub steady : (db now : ℕ) (timing : Timing) (xs : List Call) → Steady (opened db now timing) xs
steady db now timing xs = steady-from (opened db now timing) xs (opened-within db now timing)

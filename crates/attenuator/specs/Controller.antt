-- The attenuator, 01: 6 dB more, 30 at most, when overload reports no more than 0.5 s apart went on for 2 s; 6 dB less after a
-- quiet of 600 s. Definitions only. A difference of readings is of natural numbers, and so never below 0.
use Rattle.std.specs.Prelude.{ℕ, ◌+◌, ◌-◌, min, Bool, false, not, ◌&&◌, leb, ltb, eqb, unwrap_or, Option, Some, None}
use Rattle.base.specs.Pick.{pick}
use Rattle.attenuator.specs.declared.Timing.{Timing}
use Rattle.attenuator.specs.declared.AttenuationCause.TheVariants.{Overload, Quiet}
use Rattle.attenuator.specs.declared.Controller.{Controller}
use Rattle.attenuator.specs.declared.AttenuationStep.{AttenuationStep}

-- a hold of 0.5 s, a run of 2 s, 600 s without overload
abbrev pub usual : Timing
usual = record { hold = 500000000; trip_after = 2000000000; release_after = 600000000000 }

-- no overload has been heard, and the quiet time starts at the opening
unfoldable pub opened : ℕ → ℕ → Timing → Controller
opened db now timing =
    record { db = min db 30; timing = timing; run_start = None; last_overload = None; quiet_since = now }

-- an overload at most the hold after the last one continues the run
abbrev pub continues : Option ℕ → ℕ → ℕ → Bool
continues None hold now = false
continues (Some last) hold now = leb (now - last) hold

-- the start of the run that an overload now belongs to; a run without a start begins now
unfoldable pub run_start_of : Controller → ℕ → ℕ
run_start_of c now = pick (continues c.last_overload c.timing.hold now) (unwrap_or c.run_start now) now

-- an overload now, in a run since start, at this level: the quiet time starts anew
abbrev pub heard : Controller → ℕ → ℕ → ℕ → Controller
heard c db start now =
    record { db = db; timing = c.timing; run_start = Some start; last_overload = Some now; quiet_since = now }

-- below 30 dB, and the run since start has lasted its time
unfoldable pub trips : Controller → ℕ → ℕ → Bool
trips c start now = ltb c.db 30 && leb c.timing.trip_after (now - start)

-- 6 dB up, to 30
abbrev pub up : ℕ → ℕ
up db = min (db + 6) 30

-- the step that a call took, and the controller after it
pub record Stepped : Type 0 where
  pub step : Option AttenuationStep
  pub controller : Controller

abbrev pub stays : Controller → Stepped
stays c = record { step = None; controller = c }

-- a step up: the run starts anew
abbrev pub raised : Controller → ℕ → Stepped
raised c now = record { step = Some (record { from_db = c.db; to_db = (up c.db); cause = Overload }); controller = heard c (up c.db) now now }

-- an overload now, in a run since start
unfoldable pub overload : Controller → ℕ → ℕ → Stepped
overload c start now = pick (trips c start now) (raised c now) (stays (heard c c.db start now))

-- a status packet's overload bit; a clear one changes nothing
unfoldable pub observed : Controller → Bool → ℕ → Stepped
observed c overloaded now = pick overloaded (overload c (run_start_of c now) now) (stays c)

-- 6 dB down, to 0
abbrev pub down : ℕ → ℕ
down db = db - 6

-- above 0 dB, and the quiet time is over
unfoldable pub releases : Controller → ℕ → Bool
releases c now = not (eqb c.db 0) && leb c.timing.release_after (now - c.quiet_since)

-- at another level, with a quiet time from now on: the run stays
abbrev pub quieted : Controller → ℕ → ℕ → Controller
quieted c db now =
    record { db = db; timing = c.timing; run_start = c.run_start; last_overload = c.last_overload; quiet_since = now }

-- a step down: the quiet time starts anew
abbrev pub lowered : Controller → ℕ → Stepped
lowered c now = record { step = Some (record { from_db = c.db; to_db = (down c.db); cause = Quiet }); controller = quieted c (down c.db) now }

unfoldable pub ticked : Controller → ℕ → Stepped
ticked c now = pick (releases c now) (lowered c now) (stays c)

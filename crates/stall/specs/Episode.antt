-- The soft stall of a stream, 01, Pass. Definitions only. A difference of readings is of natural numbers, and so never below 0.
use Rattle.std.specs.Prelude.{ℕ, ◌-◌, Bool, true, false, ◌&&◌, leb, ltb}
use Rattle.stall.specs.declared.StallEpisode.{StallEpisode}

-- nothing delivered and nothing to report
abbrev pub unarmed : StallEpisode
unarmed = record { delivering = false; pending = false }

-- Take sets delivering
abbrev pub delivered : StallEpisode → StallEpisode
delivered e = record { delivering = true; pending = e.pending }

-- while delivering, if the hard time is the longer one: due once the soft time is over. The caller chooses last as 01 says
unfoldable pub is_due : StallEpisode → ℕ → ℕ → ℕ → ℕ → Bool
is_due e last now soft hard = e.delivering && ltb soft hard && leb soft (now - last)

-- the stall flag goes up, and delivering ends
abbrev pub reported : StallEpisode → StallEpisode
reported e = record { delivering = false; pending = true }

-- what a drain of the stall flag returns, and the episode after it
pub record Taken : Type 0 where
  pub stalled : Bool
  pub episode : StallEpisode

-- a drain returns and empties the stall flag
abbrev pub taken : StallEpisode → Taken
taken e =
    record { stalled = e.pending; episode = record { delivering = e.delivering; pending = false } }

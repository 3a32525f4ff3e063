-- What a datagram's number means relative to the stream so far: 01's `observe`. Definitions only.
use Rattle.std.specs.Prelude.{◌≡◌, ℕ, ◌+◌, ◌-◌, ◌%◌, ◌^◌, Bool, ◌==◌, nat_le, nat_lt, Option, Some, None}
use Rattle.base.specs.Pick.{pick}
use Rattle.sequence.specs.declared.SeqEvent.{SeqEvent}
use Rattle.sequence.specs.declared.SeqEvent.TheVariants.{InOrder, Gap, Stale, Restart}
use Rattle.sequence.specs.declared.SeqTracker.{SeqTracker}

-- d: how far a number lies past the expected one, modulo 2^32
unfoldable pub less : ℕ → ℕ → ℕ
less seq expected = (seq + 2 ^ 32 - expected) % 2 ^ 32

-- read as signed: not below 0
abbrev pub ahead : ℕ → Bool
ahead d = nat_lt d (2 ^ 31)

-- read as signed: -64 to -1
abbrev pub behind : ℕ → Bool
behind d = nat_le (2 ^ 32 - 64) d

-- the number after seq, modulo 2^32
unfoldable pub after : ℕ → ℕ
after seq = (seq + 1) % 2 ^ 32

-- the rule for number 0, where it is not the expected one
unfoldable pub zero_restarts : ℕ → Bool
zero_restarts seq = seq == 0

-- the eighth stale one since the last accepted one
abbrev pub eighth : ℕ → Bool
eighth run = nat_le 8 (run + 1)

-- what a number that lies d from the expected one is told, after run stale ones since the last accepted one
unfoldable pub meant : ℕ → ℕ → ℕ → SeqEvent
meant d run seq =
    pick (d == 0) InOrder
    (pick (zero_restarts seq) Restart
    (pick (ahead d) (Gap d)
    (pick (behind d) (pick (eighth run) Restart Stale)
    Restart)))

-- while none is expected every number is InOrder
abbrev pub meaning : Option ℕ → ℕ → ℕ → SeqEvent
meaning None run seq = InOrder
meaning (Some expected) run seq = meant (less seq expected) run seq

-- what a number is told as, and the tracker after it
pub record Observed : Type 0 where
  pub event : SeqEvent
  pub tracker : SeqTracker

-- the tracker as an accepted number leaves it
abbrev pub past : ℕ → SeqTracker
past seq = record { expected = Some (after seq); stale_run = 0 }

abbrev pub rebaselined : ℕ → SeqEvent → Observed
rebaselined seq event = record { event = event; tracker = past seq }

abbrev pub kept : SeqTracker → Observed
kept t = record { event = Stale; tracker = record { expected = t.expected; stale_run = t.stale_run + 1 } }

-- after Stale the same number is expected as before, after any other event the one that follows
abbrev pub moved : SeqTracker → ℕ → SeqEvent → Observed
moved t seq InOrder = rebaselined seq InOrder
moved t seq (Gap d) = rebaselined seq (Gap d)
moved t seq Restart = rebaselined seq Restart
moved t seq Stale = kept t

unfoldable pub observed : SeqTracker → ℕ → Observed
observed t seq = moved t seq (meaning t.expected t.stale_run seq)

-- no number is expected before the first
abbrev pub new : SeqTracker
new = record { expected = None; stale_run = 0 }

-- what is claimed of the tracker after a number: Stale alone keeps the expected number, and its run is one longer; any other event
-- expects the number that follows, and its run is empty
abbrev pub Moved : SeqTracker → ℕ → SeqEvent → SeqTracker → Type 0
Moved t seq Stale after = (after.expected ≡ t.expected) × (after.stale_run ≡ t.stale_run + 1)
Moved t seq InOrder after = after ≡ past seq
Moved t seq (Gap d) after = after ≡ past seq
Moved t seq Restart after = after ≡ past seq

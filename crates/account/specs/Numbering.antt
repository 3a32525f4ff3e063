-- The premise of demand 3 can be met: what is claimed of every list of calls, and of every host. Definitions only.
use Rattle.std.specs.Prelude.{ℕ, ◌<◌, ◌≡◌, List, [], ◌∷◌, get_or}
use Rattle.model.specs.Host.{Call, Begin, Pass, Arrival, Take, Close, TakeMissing, TakeDiscontinuity, TakeStalled, Host, trace}
use Rattle.account.specs.Book.{blank}
use Rattle.account.specs.Ledger.{Sent, calls_of, paired, ledger}
use Rattle.base.specs.Each.{Each}
use Rattle.account.specs.Demand3.{Lies}
use Rattle.model.specs.declared.settings.Settings.{Settings}

-- a datagram is of octets, as the code's type has it
abbrev pub OfOctets : Call → Type 0
OfOctets (Arrival i packets) = (k : ℕ) → get_or i.octets k 0 < 256
OfOctets (Begin now) = Unit {0}
OfOctets (Pass now packets) = Unit {0}
OfOctets (Take now buffer) = Unit {0}
OfOctets (Close packets) = Unit {0}
OfOctets TakeMissing = Unit {0}
OfOctets TakeDiscontinuity = Unit {0}
OfOctets TakeStalled = Unit {0}

abbrev pub AllOfOctets : List Call → Type 0
AllOfOctets [] = Unit {0}
AllOfOctets (c ∷ cs) = OfOctets c × AllOfOctets cs

-- there are whole numbers for these calls that lie as the demand says
abbrev pub Numbered : Host → Settings → ℕ → List Call → Type 0
Numbered h s now calls =
    (sent : List Sent) × (calls_of sent ≡ calls) × Each Lies (ledger s (blank now) (paired s sent (trace h (h.opened s now) (calls_of sent))))

-- Lists of calls with the whole numbers of what they bring, to try hosts on.
use Prim.Native.Nat.{ℕ}
use mathlib.Core.List.{List, [], ◌∷◌}
use lib.IntN.{pos}
use Rattle.model.specs.Host.{Call, Begin, Arrival, Take}
use Rattle.model.specs.Lists.{ddc0, iq_at, room, silence}
use Rattle.account.specs.Ledger.{Sent}

-- a call that brings no number
abbrev pub plain : Call → Sent
plain c = record { call = c; number = pos 0 }

abbrev pub arrive : ℕ → ℕ → Sent
arrive now n = record { call = Arrival (iq_at now n) room; number = pos n }

-- a datagram of nothing: malformed
abbrev pub noise : ℕ → Sent
noise now = plain (Arrival (record { now = now; later = now; from = ddc0; octets = []; waiting = [] }) room)

-- a read that hears number n, and hands its samples out
abbrev pub read_at : ℕ → ℕ → List Sent
read_at now n = plain (Begin now) ∷ arrive now n ∷ plain (Take now silence) ∷ []

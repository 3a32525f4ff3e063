-- A stream that the practice radio sends, through any link, falls under demand 3, and what is handed out are the numbers that it was
-- given, over 2^23. A single claim, about any host. Definitions only.
use Rattle.std.specs.Prelude.{ℕ, true, ◌≡◌, List, [], ◌∷◌, ◌++◌, map, T, ℤ}
use Rattle.base.specs.Each.{Each}
use Rattle.model.specs.Sample.{Sample, pairs}
use Rattle.model.specs.Settings.{accepts}
use Rattle.model.specs.Host.{Incoming, Host, trace, final}
use Rattle.account.specs.Whole.{count_of}
use Rattle.account.specs.Book.{blank}
use Rattle.account.specs.Ledger.{Sent, calls_of, paired, all_handed_out, Entry, ledger, accepted_in}
use Rattle.account.specs.Demand3.{NearIn, Agrees}
use Rattle.radio_packets.specs.Iq.{is_pairs, iq_datagram}
use Rattle.radio_packets.specs.Back.{over23}
use Rattle.model.specs.declared.settings.Settings.{Settings}

-- the datagram is the one that the radio writes for its whole number, whose count is that number modulo 2^32, and 238 pairs; and the
-- number lies as demand 3 says. `given` says of each arrival what it was written from
pub record Aired (given : Incoming → List ℤ) (x : Entry) : Type 0 where
  pub pairs : is_pairs (given x.incoming) ≡ true
  pub written : x.incoming.octets ≡ iq_datagram (count_of x.number) (given x.incoming)
  pub near : NearIn x.book.expected x.number

-- the given pairs of arrivals, over 2^23, in their order
abbrev pub given_in : (Incoming → List ℤ) → List Entry → List Sample
given_in given [] = []
given_in given (x ∷ xs) = pairs (map over23 (given x.incoming)) ++ given_in given xs

-- of all accepted settings, opening readings and lists of calls whose valid I/Q datagrams the radio wrote
abbrev pub Rehearsed : Host → Type 0
Rehearsed h =
    (s : Settings) (now : ℕ) (calls : List Sent) (given : Incoming → List ℤ) → T (accepts s) →
    let ls = paired s calls (trace h (h.opened s now) (calls_of calls)) in
    let waiting = h.waiting (final h (h.opened s now) (calls_of calls)) in
    let entries = ledger s (blank now) ls in
    Each (Aired given) entries → Agrees s ls waiting entries × (all_handed_out ls ++ waiting ≡ given_in given (accepted_in entries))

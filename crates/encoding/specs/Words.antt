-- A call as eight numbers, and what it takes from the front of each lent buffer. Definitions only.
use Rattle.std.specs.Prelude.{ℕ, ◌+◌, ◌≤◌, ◌^◌, ◌≡◌, Bool, ◌&&◌, ◌||◌, List, get_or, eqb, leb, Float}
use Rattle.base.specs.Pick.{pick}
use Rattle.model.specs.Host.{Call, Begin, Pass, Arrival, Take, Close, TakeMissing, TakeDiscontinuity, TakeStalled}
use Rattle.model.specs.declared.sender.Sender.{Sender}
use Rattle.model.specs.declared.sender.Sender.TheVariants.{V4, V6}
use Rattle.encoding.specs.declared.kind.Kind.{Kind}
use Rattle.encoding.specs.declared.kind.Kind.TheVariants as kind
use Rattle.encoding.specs.declared.words.Words.{Words}
use Rattle.encoding.specs.declared.words.Amounts.{Amounts}

-- the eight numbers from a place on
abbrev pub words_at : List ℕ → ℕ → Words
words_at calls at =
    record {
      kind = get_or calls at 0;
      reading = get_or calls (at + 1) 0;
      later = get_or calls (at + 2) 0;
      address = get_or calls (at + 3) 0;
      port = get_or calls (at + 4) 0;
      octets = get_or calls (at + 5) 0;
      numbers = get_or calls (at + 6) 0;
      places = get_or calls (at + 7) 0;
    }

-- the number of a kind
abbrev pub kind_number : Kind → ℕ
kind_number kind.Begin = 0
kind_number kind.Pass = 1
kind_number kind.Arrival = 2
kind_number kind.Take = 3
kind_number kind.Close = 4
kind_number kind.TakeMissing = 5
kind_number kind.TakeDiscontinuity = 6
kind_number kind.TakeStalled = 7

-- in place of an IPv4 address: the sender has an IPv6 one
abbrev pub ipv6 : ℕ
ipv6 = 2 ^ 32

-- a kind up to 7, an address or `ipv6`, and a port
abbrev pub is_call : Words → Bool
is_call w = leb w.kind 7 && (leb w.address ipv6 && leb w.port 65535)

-- ---- what a call takes from the front of each lent buffer

-- Pass, Arrival and Close
abbrev pub lends_packets : ℕ → Bool
lends_packets kind = eqb kind 1 || (eqb kind 2 || eqb kind 4)

abbrev pub if_used : Bool → ℕ → ℕ
if_used used n = pick used n 0

-- an Arrival's datagram and waiting numbers, a packet buffer, a Take's buffer
unfoldable pub taken_by : Words → Amounts
taken_by w =
    record {
      octets = if_used (eqb w.kind 2) w.octets;
      numbers = if_used (eqb w.kind 2) w.numbers;
      packets = if_used (lends_packets w.kind) w.places;
      places = if_used (eqb w.kind 3) w.places;
    }

abbrev pub nothing : Amounts
nothing = record { octets = 0; numbers = 0; packets = 0; places = 0 }

abbrev pub plus : Amounts → Amounts → Amounts
plus a b =
    record {
      octets = a.octets + b.octets;
      numbers = a.numbers + b.numbers;
      packets = a.packets + b.packets;
      places = a.places + b.places;
    }

abbrev pub within : Amounts → Amounts → Bool
within a room =
    leb a.octets room.octets && (leb a.numbers room.numbers && (leb a.packets room.packets && leb a.places room.places))

pub record Within (a room : Amounts) : Type 0 where
  pub octets : a.octets ≤ room.octets
  pub numbers : a.numbers ≤ room.numbers
  pub packets : a.packets ≤ room.packets
  pub places : a.places ≤ room.places

-- so much more is taken, and the room holds it
pub record Adds (taken need room r : Amounts) : Type 0 where
  pub sum : r ≡ plus taken need
  pub above : Within taken r
  pub below : Within r room

-- ---- the call

abbrev pub sender_of : ℕ → ℕ → Sender
sender_of address port = pick (eqb address ipv6) V6 (V4 address port)

-- of its numbers and the parts of the lent buffers that are its own
unfoldable pub call_of : Words → List ℕ → List ℕ → List ℕ → List Float → Call
call_of w octets numbers packets places =
    pick (eqb w.kind 0) (Begin w.reading)
    (pick (eqb w.kind 1) (Pass w.reading packets)
    (pick (eqb w.kind 2)
    (Arrival (record { now = w.reading; later = w.later; from = sender_of w.address w.port; octets = octets; waiting = numbers }) packets)
    (pick (eqb w.kind 3) (Take w.reading places)
    (pick (eqb w.kind 4) (Close packets)
    (pick (eqb w.kind 5) TakeMissing
    (pick (eqb w.kind 6) TakeDiscontinuity TakeStalled))))))

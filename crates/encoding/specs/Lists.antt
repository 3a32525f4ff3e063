-- A list of calls in lent buffers: which calls it is, and how a bad one is refused. Definitions only.
use Rattle.std.specs.Prelude.{⊤, ℕ, zero, suc, ◌+◌, ◌-◌, ◌*◌, ◌/◌, ◌%◌, List, [], ◌∷◌, length, take, drop, eqb, Float, Result, Ok, Err}
use Rattle.encoding.specs.declared.check.ListError.{ListError}
use Rattle.encoding.specs.declared.check.ListError.TheVariants.{Lengths, NoCall, NoRoom}
use Rattle.base.specs.Pick.{pick}
use Rattle.model.specs.Host.{Call}
use Rattle.encoding.specs.Words.{words_at, is_call, taken_by, nothing, plus, within, call_of}
use Rattle.encoding.specs.declared.words.Amounts.{Amounts}
use Rattle.encoding.specs.declared.lent.Calls.{Calls}

-- what is lent, as it is at the call; the answers have a buffer of their own, of which nothing is read
pub record Lent : Type 0 where
  pub calls : List ℕ
  pub octets : List ℕ
  pub numbers : List ℕ
  pub packets : List ℕ
  pub places : List Float

abbrev pub lent_by : List ℕ → List ℕ → List ℕ → List ℕ → List Float → Lent
lent_by calls octets numbers packets places =
    record { calls = calls; octets = octets; numbers = numbers; packets = packets; places = places }

-- by a list of calls, and the buffers that are written
abbrev pub lent_with : Calls → List ℕ → List Float → Lent
lent_with c packets places = lent_by c.words.now c.octets.now c.numbers.now packets places

abbrev pub room : Lent → Amounts
room l = record { octets = length l.octets; numbers = length l.numbers; packets = length l.packets; places = length l.places }

-- ---- which calls it is

abbrev pub part : {A : Type 0} → ℕ → ℕ → List A → List A
part from n l = take n (drop from l)

-- the same by its end
abbrev pub between : {A : Type 0} → ℕ → ℕ → List A → List A
between from to l = take (to - from) (drop from l)

-- the i-th call, of which those before it took so much
abbrev pub call_at : Lent → ℕ → Amounts → Call
call_at l i taken =
    let w = words_at l.calls (8 * i) in
    let n = taken_by w in
    call_of w (part taken.octets n.octets l.octets) (part taken.numbers n.numbers l.numbers)
    (part taken.packets n.packets l.packets)
    (part taken.places n.places l.places)

-- what is taken with it
abbrev pub taken_with : List ℕ → ℕ → Amounts → Amounts
taken_with calls i taken = plus taken (taken_by (words_at calls (8 * i)))

-- k calls from the i-th on
unfoldable pub calls_from : Lent → ℕ → ℕ → Amounts → List Call
calls_from l zero i taken = []
calls_from l (suc k) i taken = call_at l i taken ∷ calls_from l k (i + 1) (taken_with l.calls i taken)

abbrev pub decoded : Lent → List Call
decoded l = calls_from l (length l.calls / 8) 0 nothing

-- ---- whether it is run

unfoldable pub check_from : List ℕ → Amounts → ℕ → ℕ → Amounts → Result ⊤ ListError
check_from calls room zero i taken = Ok tt
check_from calls room (suc k) i taken =
    pick (is_call (words_at calls (8 * i)))
    (pick (within (taken_with calls i taken) room) (check_from calls room k (i + 1) (taken_with calls i taken)) (Err (NoRoom i)))
    (Err (NoCall i))

-- with so much room, and so many places for answers
unfoldable pub outcome_in : List ℕ → Amounts → ℕ → Result ⊤ ListError
outcome_in calls room answers =
    pick (eqb (length calls % 8) 0) (pick (eqb answers (length calls)) (check_from calls room (length calls / 8) 0 nothing) (Err Lengths)) (Err Lengths)

abbrev pub outcome_of : Lent → ℕ → Result ⊤ ListError
outcome_of l answers = outcome_in l.calls (room l) answers

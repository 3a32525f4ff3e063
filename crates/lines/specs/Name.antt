-- The names of calls, what a call of each has, and the name that a line begins with. Definitions only.
use Rattle.std.specs.Prelude.{ℕ, ◌≡◌, Bool, List, [], ◌∷◌, take, slice_get, Option}
use denote.Enum.Bare.{sameb}
use Rattle.text.specs.Run.{run, other}
use Rattle.text.specs.Name.{named, place}
use Rattle.text.specs.Split.{words}
use Rattle.lines.specs.contracts.name.Name.{the_type}
use Rattle.lines.specs.declared.name.Name.{Name}
use Rattle.lines.specs.declared.name.Name.TheVariants.{Begin, Pass, Iq, Status, Datagram, Take, Close, Missing, Discontinuity, Stalled, State, Radio, Open}
use Rattle.lines.specs.declared.argument.Kind.{Kind}
use Rattle.lines.specs.declared.argument.Kind.TheVariants.{Reading, Number, Octet, Places, Sender, Octets}
use Rattle.lines.specs.Key.{buffer_key, waiting_key, length_key, settings}

-- the names as they are spelt, and what each is
abbrev pub names : List (List ℕ)
names =
    named
    ("begin"
    ∷ "pass"
    ∷ "iq"
    ∷ "status"
    ∷ "datagram"
    ∷ "take"
    ∷ "close"
    ∷ "missing"
    ∷ "discontinuity"
    ∷ "stalled"
    ∷ "state"
    ∷ "radio"
    ∷ "open"
    ∷ [])

abbrev pub calls : List Name
calls = Begin ∷ Pass ∷ Iq ∷ Status ∷ Datagram ∷ Take ∷ Close ∷ Missing ∷ Discontinuity ∷ Stalled ∷ State ∷ Radio ∷ Open ∷ []

-- what a word names, if it names anything
unfoldable pub name_of : List ℕ → Option Name
name_of w = slice_get calls (place w names)

-- whether a name is another
abbrev pub is : Name → Name → Bool
is = sameb the_type

-- what a line of a name has: the words that stand after it, and the keys before one. Then what its call is as eight numbers say it
-- (begin, pass, an arrival, take, close, missing, discontinuity, stalled), and the packet buffer that it needs
pub record Form : Type 0 where
  pub words : List Kind
  pub keys_end : ℕ
  pub kind : ℕ
  pub buffer : ℕ

abbrev pub form : Name → Form
form Begin = record { words = Reading ∷ []; keys_end = buffer_key; kind = 0; buffer = 0 }
form Pass = record { words = Reading ∷ []; keys_end = waiting_key; kind = 1; buffer = 4452 }
form Iq = record { words = Reading ∷ Reading ∷ Number ∷ []; keys_end = settings; kind = 2; buffer = 1444 }
form Status = record { words = Reading ∷ Reading ∷ Octet ∷ []; keys_end = length_key; kind = 2; buffer = 1444 }
form Datagram = record { words = Reading ∷ Reading ∷ Sender ∷ Octets ∷ []; keys_end = length_key; kind = 2; buffer = 1444 }
form Take = record { words = Reading ∷ Places ∷ []; keys_end = buffer_key; kind = 3; buffer = 0 }
form Close = record { words = []; keys_end = waiting_key; kind = 4; buffer = 2888 }
form Missing = record { words = []; keys_end = buffer_key; kind = 5; buffer = 0 }
form Discontinuity = record { words = []; keys_end = buffer_key; kind = 6; buffer = 0 }
form Stalled = record { words = []; keys_end = buffer_key; kind = 7; buffer = 0 }
form State = record { words = []; keys_end = buffer_key; kind = 0; buffer = 0 }
form Radio = record { words = []; keys_end = buffer_key; kind = 0; buffer = 0 }
form Open = record { words = []; keys_end = buffer_key; kind = 0; buffer = 0 }

-- what stands before a line's comment
abbrev pub text_of : List ℕ → List ℕ
text_of line = take (run (other 35) line) line

-- a line's first word, what it names, and what follows it
pub record Begins (line word : List ℕ) (name : Option Name) (rest : List ℕ) : Type 0 where
  pub reads : words (text_of line) ≡ word ∷ words rest
  pub named : name ≡ name_of word

-- A line: what it is, and what its call gives. Definitions only.
use Rattle.std.specs.Prelude.{ℕ, ◌+◌, ◌/◌, ◌%◌, ◌≤◌, ◌<◌, ◌^◌, ◌≡◌, List, [], ◌∷◌, ltb, length, drop, get_or, if◌then◌else◌, Option, Some, None, Result, Ok, Err}
use Rattle.stream.specs.Size.{per_datagram}
use Rattle.base.specs.Pick.{pick}
use Rattle.octets.specs.Written.{written}
use Rattle.text.specs.Split.{words}
use Rattle.encoding.specs.declared.lent.Asked.{Asked}
use Rattle.lines.specs.declared.Endpoint.{Endpoint}
use Rattle.lines.specs.declared.Expected.{Expected}
use Rattle.lines.specs.declared.Read.{Read}
use Rattle.lines.specs.declared.call.Values.{Values}
use Rattle.std.specs.Option.{unwrap_or}
use Rattle.lines.specs.declared.argument.Kind.{Kind}
use Rattle.lines.specs.declared.argument.Kind.TheVariants.{Reading, Number, Octet, Places, Sender, Octets}
use Rattle.lines.specs.Key.{buffer_key, waiting_key, length_key, bits_key, samples_key, unread_words, first_word, second_word, third_word, fourth_word, unsaid, most_octets, most_numbers}
use Rattle.lines.specs.declared.name.Name.{Name}
use Rattle.lines.specs.declared.name.Name.TheVariants.{Iq, Status, Datagram, Take, State, Radio, Open}
use Rattle.lines.specs.Name.{name_of, is, form, text_of}
use Rattle.lines.specs.Argument.{unread, if_read, argument_values, argument_octets, arguments_seen}
use Rattle.lines.specs.Option.{Took, expected_of, options_took, options_values, options_numbers, options_seen}
use Rattle.values.specs.Datagram.{iq_octets, status_octets}

-- ---- what the line is

-- what a line is that can be read, or what was expected of one that can't
abbrev pub Told : Type 0
Told = Result Read Expected

abbrev pub expected_word : Kind → Expected
expected_word Reading = Expected.Reading
expected_word Number = Expected.DatagramNumber
expected_word Octet = Expected.Octet
expected_word Places = Expected.Places
expected_word Sender = Expected.Sender
expected_word Octets = Expected.Octets

-- a run of options, where an unknown word is answered by e
abbrev pub optioned : Took → Expected → Told → Told
optioned (Ok u) e r = r
optioned (Err x) e r = Err (expected_of x e)

abbrev pub arguments_of : Name → List (List ℕ) → List ℕ
arguments_of name ws = argument_values 0 (form name).words ws unread_words

abbrev pub options_of : Name → List (List ℕ) → List (List ℕ)
options_of name ws = drop (length (form name).words) ws

-- what a line of a name asks for
abbrev pub asks : Name → Read
asks name = if is name State then Read.State else if is name Radio then Read.Radio else if is name Open then Read.Open else Read.Call

-- a line whose first word is told that isn't there or can't be read; r where every word is read
abbrev pub worded : Option Kind → Told → Told
worded None r = r
worded (Some t) r = Err (expected_word t)

unfoldable pub read_named : Name → List (List ℕ) → Told
read_named name ws =
    worded (unread (form name).words ws)
    (optioned (options_took buffer_key (form name).keys_end unsaid (options_of name ws)) Expected.End
    (Ok (asks name)))

-- a line whose first word names this, or nothing
unfoldable pub read_as : Option Name → List (List ℕ) → Told
read_as None ws = Err Expected.Call
read_as (Some name) ws = pick (is name Open) (Ok Read.Open) (read_named name ws)

unfoldable pub read_words : List (List ℕ) → Told
read_words [] = Ok Read.Nothing
read_words (w ∷ ws) = read_as (name_of w) ws

-- without its comment
abbrev pub words_of : List ℕ → List (List ℕ)
words_of line = words (text_of line)

-- the most octets of a line: 8193 waiting numbers of ten digits and a comma fit
abbrev pub longest : ℕ
longest = 100000

unfoldable pub read_line : List ℕ → Told
read_line line = pick (ltb longest (length line)) (Err Expected.ShorterLine) (read_words (words_of line))

-- ---- what its call gives

-- what a call's line says: its words, and the keys' values
unfoldable pub values_of : Name → List (List ℕ) → Values
values_of name ws = record { words = arguments_of name ws; keys = options_values unsaid (options_of name ws) }

-- a key's value, or what it is where it is left out
abbrev pub or_else : List (Option ℕ) → ℕ → ℕ → ℕ
or_else l key other = unwrap_or (get_or l key None) other

abbrev pub later_of : Name → Values → ℕ
later_of name l = if is name Take then 0 else get_or l.words second_word 0

-- the sender's address and port
abbrev pub sender_of : Name → Endpoint → Values → ℕ × ℕ
sender_of name radio l =
    if is name Datagram then (get_or l.words third_word 0 / 65536, get_or l.words third_word 0 % 65536) else
    if is name Iq then (radio.ip, (radio.port + 11) % 65536) else
    if is name Status then (radio.ip, (radio.port + 1) % 65536) else
    (0, 0)

abbrev pub count_of : Name → Values → ℕ
count_of name l =
    if is name Iq then or_else l.keys length_key 1444 else
    if is name Status then 60 else
    if is name Datagram then get_or l.words fourth_word 0 else
    0

abbrev pub places_of : Name → Values → ℕ
places_of name l = if is name Take then get_or l.words second_word 0 else or_else l.keys buffer_key (form name).buffer

-- the call as eight numbers: kind, reading, later reading, the sender's address and port, octets, waiting numbers, places
unfoldable pub call_of : Name → Endpoint → Values → List ℕ
call_of name radio l =
    (form name).kind
    ∷ get_or l.words first_word 0
    ∷ later_of name l
    ∷ (sender_of name radio l).0
    ∷ (sender_of name radio l).1
    ∷ count_of name l
    ∷ or_else l.keys waiting_key 0
    ∷ places_of name l
    ∷ []

-- the lent octets after it: those of `datagram` are written as they are read
abbrev pub octets_of : Name → Values → List ℕ → List ℕ
octets_of name l d =
    if is name Iq then written d 0 (iq_octets (get_or l.words third_word 0) (or_else l.keys bits_key 24) (or_else l.keys samples_key per_datagram)) else
    if is name Status then written d 0 (status_octets (get_or l.words third_word 0)) else
    d

-- what the octets of a datagram are made from fits their fields
abbrev pub Small : Name → Values → Type 0
Small name l =
    (name ≡ Iq → get_or l.words third_word 0 < 2 ^ 32)
    × (name ≡ Status → get_or l.words third_word 0 < 256)
    × (or_else l.keys bits_key 24 < 65536)
    × (or_else l.keys samples_key per_datagram < 65536)

-- what a caller can go by: the kind, the address, the port, and lengths within the lent buffers
pub record Fit (c : List ℕ) : Type 0 where
  pub kind : get_or c 0 0 ≤ 7
  pub address : get_or c 3 0 ≤ 2 ^ 32
  pub port : get_or c 4 0 < 65536
  pub octets : get_or c 5 0 ≤ most_octets
  pub waiting : get_or c 6 0 ≤ most_numbers
  pub places : get_or c 7 0 ≤ 8192
  -- a Take's
  pub taken : get_or c 0 0 ≡ 3 → get_or c 7 0 ≤ 1024

-- what a buffer holds after an answer: a call's, or the other
abbrev pub on_call : {A : Type 0} → Told → A → A → A
on_call (Ok Read.Call) new other = new
on_call (Ok Read.Nothing) new other = other
on_call (Ok Read.Open) new other = other
on_call (Ok Read.State) new other = other
on_call (Ok Read.Radio) new other = other
on_call (Err e) new other = other

-- the lent numbers where the reading of a call's words ended: options are read where every word of the form is
unfoldable pub named_seen : Name → List (List ℕ) → List ℕ → List ℕ
named_seen name ws n =
    if_read (unread (form name).words ws)
    (options_seen buffer_key (form name).keys_end unsaid n (options_of name ws))
    n

-- the words ws of a call's name were read as r, and what was lent, b before, is then c
pub record Named (name : Name) (radio : Endpoint) (b : Asked) (ws : List (List ℕ)) (r : Told) (c : Asked) : Type 0 where
  pub told : r ≡ read_named name ws
  pub call : c.call ≡ on_call r (call_of name radio (values_of name ws)) b.call
  pub octets : c.octets ≡ on_call r (octets_of name (values_of name ws) (argument_octets (form name).words ws b.octets)) (arguments_seen (form name).words ws b.octets)
  pub numbers : c.numbers ≡ on_call r (options_numbers b.numbers (options_of name ws)) (named_seen name ws b.numbers)
  pub fit : r ≡ Ok Read.Call → Fit c.call

-- what f makes of a call's name and the words after it; z of a line that is too long, has no words, is an `open` or names no call
unfoldable pub of_called : (Name → List (List ℕ) → List ℕ) → List ℕ → Option Name → List (List ℕ) → List ℕ
of_called f z None ws = z
of_called f z (Some name) ws = pick (is name Open) z (f name ws)

unfoldable pub of_named : (Name → List (List ℕ) → List ℕ) → List ℕ → List (List ℕ) → List ℕ
of_named f z [] = z
of_named f z (w ∷ ws) = of_called f z (name_of w) ws

unfoldable pub of_line : (Name → List (List ℕ) → List ℕ) → List ℕ → List ℕ → List ℕ
of_line f z line = pick (ltb longest (length line)) z (of_named f z (words_of line))

-- what a call of the line gives: its numbers, its octets in d and its waiting numbers in n
abbrev pub line_call : List ℕ → Endpoint → List ℕ
line_call line radio = of_line (λ name ws. call_of name radio (values_of name ws)) [] line

abbrev pub line_octets : List ℕ → List ℕ → List ℕ
line_octets line d = of_line (λ name ws. octets_of name (values_of name ws) (argument_octets (form name).words ws d)) d line

abbrev pub line_numbers : List ℕ → List ℕ → List ℕ
line_numbers line n = of_line (λ name ws. options_numbers n (options_of name ws)) n line

-- the lent octets and numbers after a line of which no call was made: what was written before the reading stopped
abbrev pub octets_left : List ℕ → List ℕ → List ℕ
octets_left line d = of_line (λ name ws. arguments_seen (form name).words ws d) d line

abbrev pub numbers_left : List ℕ → List ℕ → List ℕ
numbers_left line n = of_line (λ name ws. named_seen name ws n) n line

-- the line was read as r, and what was lent, b before, is then c: after a call all of it is the call's; after any other answer the eight
-- numbers are as they were, and octets and numbers are as the reading left them
pub record Lent (line : List ℕ) (radio : Endpoint) (b : Asked) (r : Told) (c : Asked) : Type 0 where
  pub told : r ≡ read_line line
  pub call : c.call ≡ on_call r (line_call line radio) b.call
  pub octets : c.octets ≡ on_call r (line_octets line b.octets) (octets_left line b.octets)
  pub numbers : c.numbers ≡ on_call r (line_numbers line b.numbers) (numbers_left line b.numbers)
  pub fit : r ≡ Ok Read.Call → Fit c.call

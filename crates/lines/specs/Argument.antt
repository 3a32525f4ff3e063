-- The words that stand after a call's name. Definitions only.
use Rattle.std.specs.Prelude.{ℕ, ◌+◌, ◌≡◌, List, [], ◌∷◌, length, drop, set, Option, Some, None}
use Rattle.octets.specs.Written.{written}
use Rattle.text.specs.Number.{digits_of}
use Rattle.text.specs.Split.{words}
use Rattle.lines.specs.declared.argument.Kind.{Kind}
use Rattle.lines.specs.declared.argument.Kind.TheVariants.{Reading, Number, Octet, Places, Sender, Octets}
use Rattle.lines.specs.Key.{most_octets}
use Rattle.values.specs.Value.{given, up_to, reading, sender}
use Rattle.values.specs.Octets.{octets_of, octets_seen, octet_count}

-- the most that each can be, a sender by its address and port as one number, octets by how many they are
abbrev pub most : Kind → ℕ
most Reading = 18446744073709551615
most Number = 4294967295
most Octet = 255
most Places = 1024
most Sender = 281474976776191
most Octets = most_octets

abbrev pub argument_as : Kind → List ℕ → Option ℕ
argument_as Reading w = reading w
argument_as Number w = digits_of 10 w
argument_as Octet w = digits_of 10 w
argument_as Places w = digits_of 10 w
argument_as Sender w = sender w
argument_as Octets w = octet_count w

abbrev pub argument : Kind → List ℕ → Option ℕ
argument t w = up_to (most t) (argument_as t w)

-- what is of octets, and what of another word
abbrev pub of_octets : {A : Type 0} → Kind → A → A → A
of_octets Reading x y = y
of_octets Number x y = y
of_octets Octet x y = y
of_octets Places x y = y
of_octets Sender x y = y
of_octets Octets x y = x

-- the lent octets after it was read
abbrev pub octets_as : Kind → List ℕ → List ℕ → List ℕ
octets_as t w d = of_octets t (written d 0 (octets_of w)) d

-- the lent octets where its reading ended, whether it could be read or not
abbrev pub octets_seen_as : Kind → List ℕ → List ℕ → List ℕ
octets_seen_as t w d = of_octets t (written d 0 (octets_seen w)) d

-- ---- the words of a form, in order

-- which is the first that isn't there or can't be read: none where every word is read
unfoldable pub unread : List Kind → List (List ℕ) → Option Kind
unread [] ws = None
unread (t ∷ ts) [] = Some t
unread (t ∷ ts) (w ∷ ws) = given (argument t w) (λ n. unread ts ws) (Some t)

-- the one where every word is read, else the other
abbrev pub if_read : {A : Type 0} → Option Kind → A → A → A
if_read None x y = x
if_read (Some t) x y = y

-- their values, from place j of l on
unfoldable pub argument_values : ℕ → List Kind → List (List ℕ) → List ℕ → List ℕ
argument_values j [] ws l = l
argument_values j (t ∷ ts) [] l = l
argument_values j (t ∷ ts) (w ∷ ws) l = argument_values (j + 1) ts ws (set l j (given (argument t w) (λ n. n) 0))

unfoldable pub argument_octets : List Kind → List (List ℕ) → List ℕ → List ℕ
argument_octets [] ws d = d
argument_octets (t ∷ ts) [] d = d
argument_octets (t ∷ ts) (w ∷ ws) d = argument_octets ts ws (octets_as t w d)

-- the lent octets where the reading ended: at the first that isn't there or can't be read, or behind the form
unfoldable pub arguments_seen : List Kind → List (List ℕ) → List ℕ → List ℕ
arguments_seen [] ws d = d
arguments_seen (t ∷ ts) [] d = d
arguments_seen (t ∷ ts) (w ∷ ws) d = given (argument t w) (λ n. arguments_seen ts ws (octets_seen_as t w d)) (octets_seen_as t w d)

-- the words from the first on that isn't there or can't be read; those behind the form where there is none
unfoldable pub arguments_rest : List Kind → List (List ℕ) → List (List ℕ)
arguments_rest [] ws = ws
arguments_rest (t ∷ ts) [] = []
arguments_rest (t ∷ ts) (w ∷ ws) = given (argument t w) (λ n. arguments_rest ts ws) (w ∷ ws)

-- the words ws were read by a form; what is left follows them, or is from the one on at which it stopped
pub record Arguments (ts : List Kind) (l d : List ℕ) (ws : List (List ℕ)) (r : Option Kind) (left m e : List ℕ) : Type 0 where
  pub told : r ≡ unread ts ws
  pub values : r ≡ None → m ≡ argument_values 0 ts ws l
  pub octets : r ≡ None → e ≡ argument_octets ts ws d
  pub seen : e ≡ arguments_seen ts ws d
  pub follows : r ≡ None → words left ≡ drop (length ts) ws
  pub rest : words left ≡ arguments_rest ts ws

-- Options, key=value: what each key takes, and what a run of them leaves. Definitions only.
use Rattle.std.specs.Prelude.{ℕ, ◌+◌, ◌≡◌, Bool, List, [], ◌∷◌, ltb, leb, length, take, drop, get_or, set, is_some, ⊤, Option, Some, None, Result, Ok, Err}
use Rattle.base.specs.Pick.{pick}
use Rattle.octets.specs.Written.{written}
use Rattle.text.specs.Run.{run, other}
use Rattle.text.specs.Name.{ascii, named, place, same}
use Rattle.text.specs.Number.{digits_of}
use Rattle.lines.specs.declared.Expected.{Expected}
use Rattle.lines.specs.declared.option.Spelling.{Spelling}
use Rattle.lines.specs.declared.option.Spelling.TheVariants.{Number, Reading, Double, Address, Board, Attenuation, Waiting}
use Rattle.lines.specs.declared.option.Untaken.{Untaken}
use Rattle.lines.specs.declared.option.Untaken.TheVariants.{Unknown, Unreadable}
use Rattle.lines.specs.Key.{keys, most_octets, most_numbers}
use Rattle.values.specs.Value.{given, up_to, number, reading, double, ipv4}
use Rattle.values.specs.Waiting.{waiting_count, waiting_numbers, waiting_seen}

-- by key: how its value is spelt, and the most that it can be. Of a board 256 is `skipped`, of an attenuation 0 is off, 1 on and 2
-- unsaid, of waiting numbers it is how many they are
abbrev pub key_forms : List (Spelling × ℕ)
key_forms =
    (Number, 8192)
    ∷ (Waiting, most_numbers)
    ∷ (Number, most_octets)
    ∷ (Number, 65535)
    ∷ (Number, 65535)
    ∷ (Reading, 18446744073709551615)
    ∷ (Number, 65535)
    ∷ (Number, 65535)
    ∷ (Double, 18446744073709551615)
    ∷ (Double, 18446744073709551615)
    ∷ (Number, 65535)
    ∷ (Address, 4294967295)
    ∷ (Board, 256)
    ∷ (Attenuation, 2)
    ∷ (Reading, 18446744073709551615)
    ∷ (Reading, 18446744073709551615)
    ∷ (Number, 18446744073709551615)
    ∷ (Number, 4294967295)
    ∷ []

abbrev pub spelling : ℕ → Spelling
spelling key = (get_or key_forms key (Number, 0)).0

abbrev pub limit : ℕ → ℕ
limit key = (get_or key_forms key (Number, 0)).1

abbrev pub board : List ℕ → Option ℕ
board w = pick (same w (ascii "skipped")) (Some 256) (number 255 w)

unfoldable pub attenuation : List ℕ → Option ℕ
attenuation w = up_to 2 (Some (place w (named ("off" ∷ "on" ∷ "unsaid" ∷ []))))

abbrev pub spelt_as : Spelling → List ℕ → Option ℕ
spelt_as Number w = digits_of 10 w
spelt_as Reading w = reading w
spelt_as Double w = double w
spelt_as Address w = ipv4 w
spelt_as Board w = board w
spelt_as Attenuation w = attenuation w
spelt_as Waiting w = waiting_count w

abbrev pub value_of : ℕ → List ℕ → Option ℕ
value_of key w = up_to (limit key) (spelt_as (spelling key) w)

-- what is of waiting numbers, and what of another value
abbrev pub of_waiting : {A : Type 0} → Spelling → A → A → A
of_waiting Number x y = y
of_waiting Reading x y = y
of_waiting Double x y = y
of_waiting Address x y = y
of_waiting Board x y = y
of_waiting Attenuation x y = y
of_waiting Waiting x y = x

-- the lent numbers after a value was read
abbrev pub numbers_as : Spelling → List ℕ → List ℕ → List ℕ
numbers_as how w d = of_waiting how (written d 0 (waiting_numbers w)) d

abbrev pub numbers_for : ℕ → List ℕ → List ℕ → List ℕ
numbers_for key w d = numbers_as (spelling key) w d

-- the lent numbers where its reading ended, whether it could be read or not
abbrev pub numbers_seen_as : Spelling → List ℕ → List ℕ → List ℕ
numbers_seen_as how w d = of_waiting how (written d 0 (waiting_seen w)) d

abbrev pub numbers_seen_for : ℕ → List ℕ → List ℕ → List ℕ
numbers_seen_for key w d = numbers_seen_as (spelling key) w d

-- ---- a word: its key and its value

abbrev pub key_at : ℕ → List ℕ → ℕ
key_at equals w = place (take equals w) keys

abbrev pub value_at : ℕ → List ℕ → List ℕ
value_at equals w = drop (equals + 1) w

abbrev pub said : List (Option ℕ) → ℕ → Bool
said l key = is_some (get_or l key None)

-- what a word comes to: it is taken, or not, and why
abbrev pub Took : Type 0
Took = Result ⊤ Untaken

abbrev pub Taken : Took
Taken = Ok tt

-- what was expected of a word that is not taken, where `other` is expected in place of an unknown one
abbrev pub expected_of : Untaken → Expected → Expected
expected_of Unknown other = other
expected_of (Unreadable k) other = Expected.ValueOf k

-- what a key and its value come to where the keys from one on, up to another, may be said
unfoldable pub took_key : ℕ → List ℕ → ℕ → ℕ → List (Option ℕ) → Took
took_key key v from to l =
    pick (ltb key from) (Err Unknown)
    (pick (leb to key) (Err Unknown)
    (pick (said l key) (Err Unknown)
    (given (value_of key v) (λ n. Taken) (Err (Unreadable key)))))

unfoldable pub values_key : ℕ → List ℕ → List (Option ℕ) → List (Option ℕ)
values_key key v l = set l key (Some (given (value_of key v) (λ n. n) 0))

abbrev pub equals_in : List ℕ → ℕ
equals_in w = run (other 61) w

unfoldable pub took : ℕ → ℕ → List (Option ℕ) → List ℕ → Took
took from to l w =
    pick (leb (length w) (equals_in w)) (Err Unknown) (took_key (key_at (equals_in w) w) (value_at (equals_in w) w) from to l)

unfoldable pub values_after : List (Option ℕ) → List ℕ → List (Option ℕ)
values_after l w = values_key (key_at (equals_in w) w) (value_at (equals_in w) w) l

unfoldable pub numbers_after : List ℕ → List ℕ → List ℕ
numbers_after d w = numbers_for (key_at (equals_in w) w) (value_at (equals_in w) w) d

-- the value of an unknown word is not read
unfoldable pub if_known : Took → List ℕ → List ℕ → List ℕ
if_known (Err Unknown) e d = d
if_known (Err (Unreadable k)) e d = e
if_known (Ok u) e d = e

-- the lent numbers where the reading of a word ended
unfoldable pub numbers_seen : ℕ → ℕ → List (Option ℕ) → List ℕ → List ℕ → List ℕ
numbers_seen from to l d w = if_known (took from to l w) (numbers_seen_for (key_at (equals_in w) w) (value_at (equals_in w) w) d) d

-- a word was taken as r, and the values and the lent numbers are then m and e
pub record Stepped (from to : ℕ) (l : List (Option ℕ)) (d w : List ℕ) (r : Took) (m : List (Option ℕ)) (e : List ℕ) : Type 0 where
  pub told : r ≡ took from to l w
  pub values : r ≡ Taken → m ≡ values_after l w
  pub numbers : r ≡ Taken → e ≡ numbers_after d w
  pub seen : e ≡ numbers_seen from to l d w

-- ---- a run of words

unfoldable pub and_then : Took → Took → Took
and_then (Ok u) t = t
and_then (Err x) t = Err x

unfoldable pub options_took : ℕ → ℕ → List (Option ℕ) → List (List ℕ) → Took
options_took from to l [] = Taken
options_took from to l (w ∷ ws) = and_then (took from to l w) (options_took from to (values_after l w) ws)

unfoldable pub options_values : List (Option ℕ) → List (List ℕ) → List (Option ℕ)
options_values l [] = l
options_values l (w ∷ ws) = options_values (values_after l w) ws

unfoldable pub options_numbers : List ℕ → List (List ℕ) → List ℕ
options_numbers d [] = d
options_numbers d (w ∷ ws) = options_numbers (numbers_after d w) ws

-- a run stops at a word that is not taken
unfoldable pub stopped : {A : Type 0} → Took → A → A → A
stopped (Ok u) here on = on
stopped (Err x) here on = here

-- the words from the one on at which a run stops; none where it takes them all
unfoldable pub options_rest : ℕ → ℕ → List (Option ℕ) → List (List ℕ) → List (List ℕ)
options_rest from to l [] = []
options_rest from to l (w ∷ ws) = stopped (took from to l w) (w ∷ ws) (options_rest from to (values_after l w) ws)

-- the lent numbers where a run ended
unfoldable pub options_seen : ℕ → ℕ → List (Option ℕ) → List ℕ → List (List ℕ) → List ℕ
options_seen from to l d [] = d
options_seen from to l d (w ∷ ws) =
    stopped (took from to l w) (numbers_seen from to l d w) (options_seen from to (values_after l w) (numbers_seen from to l d w) ws)

pub record Ran (from to : ℕ) (l : List (Option ℕ)) (d : List ℕ) (ws : List (List ℕ)) (r : Took) (m : List (Option ℕ)) (e : List ℕ) : Type 0 where
  pub told : r ≡ options_took from to l ws
  pub values : r ≡ Taken → m ≡ options_values l ws
  pub numbers : r ≡ Taken → e ≡ options_numbers d ws
  pub seen : e ≡ options_seen from to l d ws

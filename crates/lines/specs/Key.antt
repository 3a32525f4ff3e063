-- The keys of options by name, and the places of the words after a call's name. Definitions only.
use Rattle.std.specs.Prelude.{ℕ, List, [], ◌∷◌, replicate, Option, None}
use Rattle.text.specs.Name.{named}

-- a key is its place here: the options of the calls, then the settings of `open`
abbrev pub keys : List (List ℕ)
keys =
    named
    ("buffer"
    ∷ "waiting"
    ∷ "length"
    ∷ "bits"
    ∷ "samples"
    ∷ "at"
    ∷ "receivers"
    ∷ "centres"
    ∷ "rate"
    ∷ "centre"
    ∷ "port"
    ∷ "radio"
    ∷ "board"
    ∷ "attenuation"
    ∷ "soft"
    ∷ "hard"
    ∷ "window"
    ∷ "malformed"
    ∷ [])

abbrev pub buffer_key : ℕ
buffer_key = 0

abbrev pub waiting_key : ℕ
waiting_key = 1

abbrev pub length_key : ℕ
length_key = 2

abbrev pub bits_key : ℕ
bits_key = 3

abbrev pub samples_key : ℕ
samples_key = 4

abbrev pub at_key : ℕ
at_key = 5

-- the settings start here
abbrev pub settings : ℕ
settings = at_key

abbrev pub receivers_key : ℕ
receivers_key = 6

abbrev pub centres_key : ℕ
centres_key = 7

abbrev pub rate_key : ℕ
rate_key = 8

abbrev pub centre_key : ℕ
centre_key = 9

abbrev pub port_key : ℕ
port_key = 10

abbrev pub radio_key : ℕ
radio_key = 11

abbrev pub board_key : ℕ
board_key = 12

abbrev pub attenuation_key : ℕ
attenuation_key = 13

abbrev pub soft_key : ℕ
soft_key = 14

abbrev pub hard_key : ℕ
hard_key = 15

abbrev pub window_key : ℕ
window_key = 16

abbrev pub malformed_key : ℕ
malformed_key = 17

abbrev pub key_count : ℕ
key_count = 18

-- ---- places

-- the words after a call's name
abbrev pub first_word : ℕ
first_word = 0

abbrev pub second_word : ℕ
second_word = 1

abbrev pub third_word : ℕ
third_word = 2

abbrev pub fourth_word : ℕ
fourth_word = 3

abbrev pub word_count : ℕ
word_count = 4

-- no word is read yet
abbrev pub unread_words : List ℕ
unread_words = replicate word_count 0

-- no key is said yet
abbrev pub unsaid : List (Option ℕ)
unsaid = replicate key_count None

-- ---- lent buffers

-- the most octets of a datagram
abbrev pub most_octets : ℕ
most_octets = 2048

-- the most numbers that wait
abbrev pub most_numbers : ℕ
most_numbers = 8193

-- Octets in hexadecimal. Definitions only.
use Rattle.std.specs.Prelude.{ℕ, ◌+◌, ◌*◌, ◌/◌, ◌%◌, Bool, ◌&&◌, List, [], ltb, leb, eqb, length, get_or, Option, Some, None}
use Rattle.base.specs.Pick.{pick}
use Rattle.octets.specs.Table.{tab}
use Rattle.text.specs.Run.{run}
use Rattle.text.specs.Name.{ascii, same}
use Rattle.text.specs.Number.{digit_of}

abbrev pub hex_digit : ℕ → Bool
hex_digit x = ltb (digit_of x) 16

-- digits alone, of which there are twice so many as octets
unfoldable pub hexadecimal : List ℕ → Bool
hexadecimal w = eqb (run hex_digit w) (length w) && eqb (length w % 2) 0

-- octet k is spelt by the digits 2 k and 2 k + 1
abbrev pub octet_at : List ℕ → ℕ → ℕ
octet_at w k = 16 * digit_of (get_or w (2 * k) 0) + digit_of (get_or w (2 * k + 1) 0)

-- those of `-` are none: it has not two digits
unfoldable pub octets_of : List ℕ → List ℕ
octets_of w = tab (length w / 2) (octet_at w)

-- those of the pairs before the first octet that is no digit
unfoldable pub pairs_of : List ℕ → List ℕ
pairs_of w = tab (run hex_digit w / 2) (octet_at w)

-- what is written while a word is read: a word over 4096 octets and one of odd length are not looked into
unfoldable pub octets_seen : List ℕ → List ℕ
octets_seen w = pick (leb (length w) 4096 && eqb (length w % 2) 0) (pairs_of w) []

-- how many octets, at most 2048
unfoldable pub octet_count : List ℕ → Option ℕ
octet_count w =
    pick (same w (ascii "-")) (Some 0)
    (pick (leb (length w) 4096 && hexadecimal w) (Some (length w / 2)) None)

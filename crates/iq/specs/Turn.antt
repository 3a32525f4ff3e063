-- How the I/Q reader takes three octets: four at once, the least significant first, then the upper three turned round. Only
-- private functions promise it. Definitions only.
use Rattle.std.specs.Prelude.{ℕ, zero, suc, ◌+◌, ◌*◌, ◌/◌, ◌%◌, List, get_or}

-- the number that the w octets of l from at on hold, the least significant first
abbrev pub le_at : ℕ → List ℕ → ℕ → ℕ
le_at zero l at = 0
le_at (suc w) l at = get_or l at 0 + 256 * le_at w l (at + 1)

-- the upper three of the four octets of w, in the other order
unfoldable pub turned_of : ℕ → ℕ
turned_of w = w / 256 % 256 * 65536 + w / 65536 % 256 * 256 + w / 16777216

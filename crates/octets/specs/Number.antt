-- Numbers of w octets, big-endian. Definitions only.
use Rattle.std.specs.Prelude.{ℕ, zero, suc, ◌+◌, ◌*◌, ◌/◌, ◌%◌, ◌^◌, List, [], ◌∷◌, get_or}

-- the w octets of v, the most significant first; what is past them is cut off
abbrev pub be : ℕ → ℕ → List ℕ
be zero v = []
be (suc w) v = v / 256 ^ w % 256 ∷ be w v

-- the number that the w octets of l from at on hold
abbrev pub be_at : ℕ → List ℕ → ℕ → ℕ
be_at zero l at = 0
be_at (suc w) l at = get_or l at 0 * 256 ^ w + be_at w l (at + 1)

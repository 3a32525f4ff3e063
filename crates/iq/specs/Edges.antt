-- 01's edges of a sample, M: 80 00 00 is -1, 7F FF FF is 8388607 / 8388608, and 0 is +0. Definitions only.
use Rattle.std.specs.Prelude.{false, true, List, [], ◌∷◌, ℕ, pos, negsuc, Float}
use Rattle.std.specs.Float.{fin}
use Rattle.base.specs.Cases.{Case, case}
use Rattle.octets.specs.Number.{be_at}
use Rattle.iq.specs.Iq.{sample_of}

-- the sample of three octets
abbrev triple : ℕ → ℕ → ℕ → Float
triple a b c = sample_of (be_at 3 (a ∷ b ∷ c ∷ []) 0)

abbrev pub edges : List (Case Float)
edges =
    case (triple 0x80 0x00 0x00) (fin true 1 (pos 0))
    ∷ case (triple 0x7f 0xff 0xff) (fin false 8388607 (negsuc 22))
    ∷ case (triple 0x00 0x00 0x00) (fin false 0 (pos 0))
    ∷ []

-- 01's edges of the phase and filter words, M. Definitions only.
use Rattle.std.specs.Prelude.{List, [], ◌∷◌, ℕ, pos, Float}
use Rattle.std.specs.Float.{binary64}
use Rattle.std.specs.Float.Ieee.{of_int}
use Rattle.base.specs.Cases.{Case, case}
use Rattle.tuning.specs.Alex.{lpf_of, alex_words}
use Rattle.tuning.specs.Phase.{phase_word_of}
use Rattle.tuning.specs.declared.board.FilterScheme.TheVariants.{Classic}

abbrev hz : ℕ → Float
hz n = of_int binary64 (pos n)

abbrev pub edges : List (Case ℕ)
edges =
    -- phase words
    case (phase_word_of (hz 1)) 34
    ∷ case (phase_word_of (hz 7000000)) 244667733
    ∷ case (phase_word_of (hz 61439999)) 2147483613
    -- Classic at 7,000,000
    ∷ case (alex_words Classic (hz 7000000)).alex0 0x00200020
    ∷ case (alex_words Classic (hz 7000000)).alex1 0x00200000
    -- low-pass: a limit itself is not above it
    ∷ case (lpf_of (hz 8000000)) 0x00200000
    ∷ case (lpf_of (hz 8000001)) 0x00100000
    ∷ []

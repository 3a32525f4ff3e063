-- What a board number says of converters and filters: the Rust's table. Definitions only.
use Rattle.std.specs.Prelude.{ℕ, ◌||◌, eqb, Option, Some, None}
use Rattle.base.specs.Pick.{pick}
use Rattle.tuning.specs.declared.board.FilterScheme.{FilterScheme}
use Rattle.tuning.specs.declared.board.FilterScheme.TheVariants as filters
use Rattle.tuning.specs.declared.board.BoardInfo.{BoardInfo}

abbrev pub info_of : Option ℕ → ℕ → ℕ → FilterScheme → BoardInfo
info_of id adcs enable scheme = record { id = id; adc_count = adcs; filter_enable = enable; scheme = scheme }

unfoldable pub board_info : Option ℕ → BoardInfo
board_info None = info_of None 1 1 filters.Bypass
board_info (Some n) =
    -- Atlas, Hermes Lite
    pick (eqb n 0 || eqb n 6) (info_of (Some n) 1 0 filters.None)
    -- Hermes, Hermes II
    (pick (eqb n 1 || eqb n 2) (info_of (Some n) 1 1 filters.Classic)
    -- Angelia, Orion
    (pick (eqb n 3 || eqb n 4) (info_of (Some n) 2 1 filters.Classic)
    -- Orion II, Saturn
    (pick (eqb n 5 || (eqb n 10 || eqb n 11)) (info_of (Some n) 2 3 filters.BandPassDual)
    -- G2E
    (pick (eqb n 20) (info_of (Some n) 1 1 filters.BandPass)
    -- not known
    (info_of (Some n) 1 1 filters.Bypass)))))

-- The Alex filter words: three ladders, each of six rungs, and the words of each scheme. Definitions only.
use Rattle.std.specs.Prelude.{ℕ, Bool, true, false, List, [], ◌∷◌, map, get_or, pos, Float}
use Rattle.std.specs.Int.Bits.{bit_or}
use Rattle.std.specs.Float.{binary64}
use Rattle.std.specs.Float.Ieee.{of_int, lt}
use Rattle.base.specs.Search.{first}
use Rattle.tuning.specs.declared.board.FilterScheme.{FilterScheme}
use Rattle.tuning.specs.declared.board.FilterScheme.TheVariants.{None, Classic, BandPassDual, BandPass, Bypass}
use Rattle.tuning.specs.declared.alex.AlexWords.{AlexWords}

-- a ladder's limits rise or fall
abbrev pub rising : Bool
rising = false

abbrev pub falling : Bool
falling = true

-- whether f stands on the rung of the limit l: below it where they rise, above it where they fall
unfoldable pub on_rung : Bool → Float → Float → Bool
on_rung false f l = lt f l
on_rung true f l = lt l f

-- the bits of the first rung that f stands on, and those past the last where there is none
abbrev pub ladder_of : Bool → List Float → List ℕ → Float → ℕ
ladder_of way limits bits f = get_or bits (first (on_rung way f) limits) 0

-- frequencies in Hz as doubles
abbrev pub hz : List ℕ → List Float
hz ns = map (λ (n : ℕ). of_int binary64 (pos n)) ns

-- the bit that bypasses the high-pass bank, and the band-pass bank
abbrev pub bypass : ℕ
bypass = 0x1000

abbrev pub low_pass_bypass : ℕ
low_pass_bypass = 0x20000000

-- high-pass: the bypass, then 1.5, 6.5, 9.5, 13 and 20 MHz; past the last, the 6 m preamp
abbrev pub hpf_limits : List Float
hpf_limits = hz (1800000 ∷ 6500000 ∷ 9500000 ∷ 13000000 ∷ 20000000 ∷ 50000000 ∷ [])

abbrev pub hpf_bits : List ℕ
hpf_bits = bypass ∷ 0x40 ∷ 0x20 ∷ 0x10 ∷ 0x02 ∷ 0x04 ∷ 0x08 ∷ []

unfoldable pub hpf_of : Float → ℕ
hpf_of f = ladder_of rising hpf_limits hpf_bits f

-- low-pass: 6 m, which is the bypass too, then 12/10, 17/15, 30/20, 60/40 and 80 m; past the last, 160 m
abbrev pub lpf_limits : List Float
lpf_limits = hz (35600000 ∷ 24000000 ∷ 16500000 ∷ 8000000 ∷ 5000000 ∷ 2500000 ∷ [])

abbrev pub lpf_bits : List ℕ
lpf_bits = low_pass_bypass ∷ 0x40000000 ∷ 0x80000000 ∷ 0x00100000 ∷ 0x00200000 ∷ 0x00400000 ∷ 0x00800000 ∷ []

unfoldable pub lpf_of : Float → ℕ
lpf_of f = ladder_of falling lpf_limits lpf_bits f

-- band-pass: the bypass, then 160, 80/60, 40/30, 20/15 and 12/10 m; past the last, 6 m
abbrev pub bpf_limits : List Float
bpf_limits = hz (1500000 ∷ 2100000 ∷ 5500000 ∷ 11000000 ∷ 22000000 ∷ 35000000 ∷ [])

abbrev pub bpf_bits : List ℕ
bpf_bits = bypass ∷ 0x40 ∷ 0x20 ∷ 0x10 ∷ 0x02 ∷ 0x04 ∷ 0x08 ∷ []

unfoldable pub bpf_of : Float → ℕ
bpf_of f = ladder_of rising bpf_limits bpf_bits f

abbrev pub words : ℕ → ℕ → AlexWords
words a0 a1 = record { alex0 = a0; alex1 = a1 }

-- alex0, then alex1, of each scheme
unfoldable pub alex_words : FilterScheme → Float → AlexWords
alex_words None f = words 0 0
alex_words Classic f = words (bit_or (hpf_of f) (lpf_of f)) (lpf_of f)
alex_words BandPassDual f = words (bit_or (bpf_of f) (lpf_of f)) (bit_or bypass (lpf_of f))
alex_words BandPass f = words (bit_or (bpf_of f) (lpf_of f)) (lpf_of f)
alex_words Bypass f = words 0x20001000 low_pass_bypass

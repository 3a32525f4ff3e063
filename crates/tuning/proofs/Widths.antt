-- What the packets carry of a centre fits its field: the phase word and the filter words are below 2^32, at every double. Assumes
-- nothing.
use Prim.Native.Nat.{ℕ, zero, suc, ◌^◌, ◌<◌}
use mathlib.Core.Bool.{Bool}
use mathlib.Core.List.{List, [], ◌∷◌}
use native.Mathlib.Omega.{arith}
use lib.Bits.{or_lt}
use lib.Dec.{T, ltb, ltb→lt, lit<}
use lib.ListN.{get_or}
use lib.Ieee.Fits.{and_l, and_r}
use lib.Ieee.{Float}
use Rattle.base.specs.Search.{first}
use Rattle.base.proofs.Searches.{every}
use Rattle.tuning.specs.Alex.{rising, falling, on_rung, ladder_of, bypass, hpf_limits, hpf_bits, lpf_limits, lpf_bits, bpf_limits, bpf_bits, hpf_of, lpf_of, bpf_of, alex_words}
use Rattle.tuning.specs.Phase.{phase_word_of}
use Rattle.tuning.specs.declared.board.FilterScheme.{FilterScheme}
use Rattle.tuning.specs.declared.board.FilterScheme.TheVariants.{None, Classic, BandPassDual, BandPass, Bypass}

pub phase-small : (f : Float) → phase_word_of f < 2 ^ 32
unfolding phase_word_of
phase-small f = omega arith

abbrev small : ℕ → Bool
small n = ltb n 4294967296

-- what stands at any place of a table, and past its end
small_at : (bits : List ℕ) (i : ℕ) → T (every small bits) → get_or bits i 0 < 2 ^ 32
small_at [] i t = omega arith
small_at (b ∷ bits) zero t = ltb→lt b 4294967296 (and_l (small b) (every small bits) t)
small_at (b ∷ bits) (suc i) t = small_at bits i (and_r (small b) (every small bits) t)

ladder-small : (way : Bool) (limits : List Float) (bits : List ℕ) (f : Float) → T (every small bits) → ladder_of way limits bits f < 2 ^ 32
ladder-small way limits bits f t = small_at bits (first (on_rung way f) limits) t

hpf-small : (f : Float) → hpf_of f < 2 ^ 32
unfolding hpf_of
hpf-small f = ladder-small rising hpf_limits hpf_bits f tt

lpf-small : (f : Float) → lpf_of f < 2 ^ 32
unfolding lpf_of
lpf-small f = ladder-small falling lpf_limits lpf_bits f tt

bpf-small : (f : Float) → bpf_of f < 2 ^ 32
unfolding bpf_of
bpf-small f = ladder-small rising bpf_limits bpf_bits f tt

pub alex-small : (s : FilterScheme) (f : Float) → ((alex_words s f).alex0 < 2 ^ 32) × ((alex_words s f).alex1 < 2 ^ 32)
unfolding alex_words
alex-small None f = (omega arith, omega arith)
alex-small Classic f = (or_lt 32 (hpf_of f) (lpf_of f) (hpf-small f) (lpf-small f), lpf-small f)
alex-small BandPassDual f = (or_lt 32 (bpf_of f) (lpf_of f) (bpf-small f) (lpf-small f), or_lt 32 bypass (lpf_of f) (lit< tt) (lpf-small f))
alex-small BandPass f = (or_lt 32 (bpf_of f) (lpf_of f) (bpf-small f) (lpf-small f), lpf-small f)
alex-small Bypass f = (lit< tt, lit< tt)

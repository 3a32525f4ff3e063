-- Four octets read with the least significant first, the upper three turned round: the big-endian number of those three. Assumes nothing.
use Prim.Native.Nat.{ℕ, zero, suc, ◌+◌, ◌*◌, ◌/◌, ◌%◌, ◌<◌}
use mathlib.Core.Path.{◌≡◌, refl, ap, ◌∙◌}
use native.Mathlib.Omega.{arith}
use mathlib.Core.List.{List}
use lib.ListN.{get_or}
use Rattle.octets.specs.Number.{be_at}
use Rattle.iq.specs.Turn.{le_at, turned_of}

-- the octets at at + k, at + (k + 1), .. as code reads them, the least significant first
abbrev reads_up_from : ℕ → List ℕ → ℕ → ℕ → ℕ
reads_up_from zero l at k = 0
reads_up_from (suc w) l at k = get_or l (at + k) 0 + 256 * reads_up_from w l at (suc k)

reads-up-from : (w : ℕ) (l : List ℕ) (at k : ℕ) → le_at w l (at + k) ≡ reads_up_from w l at k
reads-up-from zero l at k = refl
reads-up-from (suc w) l at k =
    let e : at + k + 1 ≡ at + suc k = omega arith in
    ap (λ (n : ℕ). get_or l (at + k) 0 + 256 * n) (ap (le_at w l) e ∙ reads-up-from w l at (suc k))

-- reads of a number's octets one after another read the number
pub reads-le : (w : ℕ) (l : List ℕ) (at : ℕ) → le_at (suc w) l at ≡ get_or l at 0 + 256 * reads_up_from w l at 1
reads-le w l at = ap (λ (n : ℕ). get_or l at 0 + 256 * n) (reads-up-from w l at 1)

pub turned-small : (w : ℕ) → w < 4294967296 → turned_of w < 16777216
unfolding turned_of
turned-small w h = omega arith

-- a number's lowest octet, and what stands above it
above : (x q : ℕ) → x < 256 → (x + 256 * q) / 256 ≡ q
above x q h = omega arith

lowest : (x q : ℕ) → x < 256 → (x + 256 * q) % 256 ≡ x
lowest x q h = omega arith

by_2 : (n : ℕ) → n / 65536 ≡ n / 256 / 256
by_2 n = omega arith

by-3 : (n : ℕ) → n / 16777216 ≡ n / 256 / 256 / 256
by-3 n = omega arith

turned-octets : (x y z w : ℕ) → x < 256 → y < 256 → z < 256 → turned_of (x + 256 * (y + 256 * (z + 256 * w))) ≡ y * 65536 + z * 256 + w
unfolding turned_of
turned-octets x y z w a b c =
    rw (by_2 (x + 256 * (y + 256 * (z + 256 * w))), by-3 (x + 256 * (y + 256 * (z + 256 * w))), above x (y + 256 * (z + 256 * w)) a, lowest y (z + 256 * w) b, above y (z + 256 * w) b, lowest z w c, above z w c)

pub turned-at : (l : List ℕ) (at : ℕ) → ((i : ℕ) → get_or l i 0 < 256) → turned_of (le_at 4 l at) ≡ be_at 3 l (at + 1)
turned-at l at h =
    turned-octets (get_or l at 0) (get_or l (at + 1) 0) (get_or l (at + 1 + 1) 0) (get_or l (at + 1 + 1 + 1) 0 + 256 * 0) (h at) (h (at + 1)) (h (at + 1 + 1))
    ∙ summed (get_or l (at + 1) 0) (get_or l (at + 1 + 1) 0) (get_or l (at + 1 + 1 + 1) 0)
  where
    summed : (y z w : ℕ) → y * 65536 + z * 256 + (w + 256 * 0) ≡ y * 65536 + (z * 256 + (w * 1 + 0))
    summed y z w = omega arith

-- Big-endian numbers: their octets, and what a number written to a buffer reads back as. Assumes nothing.
use Prim.Native.Nat.{ℕ, zero, suc, ◌+◌, ◌*◌, ◌/◌, ◌%◌, ◌^◌, ◌≤◌, ◌<◌}
use mathlib.Core.Path.{◌≡◌, refl, sym, ap, ◌∙◌}
use mathlib.Core.Logic.{◌⊎◌, inl, inr, ⊎_elim}
use mathlib.Core.List.{List, [], ◌∷◌, ◌++◌}
use lib.ListN.{length, get_or, take, drop, get_or-append}
use lib.Seq.{drop-cons, get_or-append-add}
use lib.Arith.{digits_lt, digits_div, mod-mul}
use native.Mathlib.Nat.{add-zero, zero-add, div-one, mod-one, mod-eq_of_lt, pow-succ', mul_assoc, mul-add-div_right, mul-add-mod_self_right, zero-lt-suc, one-le-pow}
use native.Mathlib.Numerals.{add-one, one-add}
use native.Mathlib.Omega.{arith}
use Rattle.octets.specs.Written.{written}
use Rattle.octets.specs.Number.{be, be_at}
use Rattle.octets.proofs.Writes.{stores, stores-written, get_or-written-in, get_or-written-out}

pub length-be : (w v : ℕ) → length (be w v) ≡ w
length-be zero v = refl
length-be (suc w) v = ap suc (length-be w v)

pub be-octet : (w v k : ℕ) → get_or (be w v) k 0 < 256
be-octet zero v k = omega arith
be-octet (suc w) v zero = omega arith
be-octet (suc w) v (suc k) = be-octet w v k

weight-pos : (w : ℕ) → 0 < 256 ^ w
weight-pos w = one-le-pow w 256 (zero-lt-suc 255)

-- ---- as code reads and stores them

-- the octets of v as code stores them: the last is v % 256, not v / 1 % 256
abbrev pub coded : ℕ → ℕ → List ℕ
coded zero v = v % 256 ∷ []
coded (suc w) v = v / 256 ^ suc w % 256 ∷ coded w v

coded-be : (w v : ℕ) → coded w v ≡ be (suc w) v
coded-be zero v = ap (λ (n : ℕ). n % 256 ∷ []) (sym (div-one v))
coded-be (suc w) v = ap (λ (l : List ℕ). v / 256 ^ suc w % 256 ∷ l) (coded-be w v)

-- stores of a number's octets one after another write the number
pub stores-be : (w v : ℕ) (d : List ℕ) (at : ℕ) → at + suc w ≤ length d → stores d at (coded w v) ≡ written d at (be (suc w) v)
stores-be w v d at h = rw (coded-be w v) (stores-written d at (be (suc w) v) (omega (arith, length-be (suc w) v)))

-- the octets at at + k, at + (k + 1), .. as code reads them, each by its weight
abbrev pub reads_from : ℕ → List ℕ → ℕ → ℕ → ℕ
reads_from zero l at k = 0
reads_from (suc w) l at k = get_or l (at + k) 0 * 256 ^ w + reads_from w l at (suc k)

reads-from : (w : ℕ) (l : List ℕ) (at k : ℕ) → be_at w l (at + k) ≡ reads_from w l at k
reads-from zero l at k = refl
reads-from (suc w) l at k =
    let e : at + k + 1 ≡ at + suc k = omega arith in
    ap (λ (n : ℕ). get_or l (at + k) 0 * 256 ^ w + n) (ap (be_at w l) e ∙ reads-from w l at (suc k))

-- reads of a number's octets one after another read the number
pub reads-be : (w : ℕ) (l : List ℕ) (at : ℕ) → be_at (suc w) l at ≡ get_or l at 0 * 256 ^ w + reads_from w l at 1
reads-be w l at = ap (λ (n : ℕ). get_or l at 0 * 256 ^ w + n) (reads-from w l at 1)

-- one octet
pub be_at-one : (l : List ℕ) (at : ℕ) → be_at 1 l at ≡ get_or l at 0
be_at-one l at = omega arith

-- ---- a number read is that of the octets at its places

pub be_at-ext : (w : ℕ) (l m : List ℕ) (i j : ℕ) → ((k : ℕ) → k < w → get_or l (i + k) 0 ≡ get_or m (j + k) 0) → be_at w l i ≡ be_at w m j
be_at-ext zero l m i j h = refl
be_at-ext (suc w) l m i j h =
    let e : get_or l i 0 ≡ get_or m j 0 = rw (add-zero i, add-zero j) at (h 0 (omega arith)) in
    rw (e, be_at-ext w l m (i + 1) (j + 1) (λ k b. rw (on i k, on j k) (h (suc k) (omega arith))))
  where
    on : (n k : ℕ) → n + 1 + k ≡ n + suc k
    on n k = omega arith

-- in the front of a list, and behind it
pub be_at-front : (w : ℕ) (a b : List ℕ) (at : ℕ) → at + w ≤ length a → be_at w (a ++ b) at ≡ be_at w a at
be_at-front w a b at h = be_at-ext w (a ++ b) a at at (λ k l. get_or-append a b 0 (at + k) (omega arith))

pub be_at-behind : (w : ℕ) (a b : List ℕ) (n at : ℕ) → length a ≡ n → be_at w (a ++ b) (n + at) ≡ be_at w b at
be_at-behind w a b n at e =
    be_at-ext w (a ++ b) b (n + at) at
    (λ k l. ap (λ (j : ℕ). get_or (a ++ b) j 0) (over k) ∙ get_or-append-add a b (at + k) 0)
  where
    over : (k : ℕ) → n + at + k ≡ length a + (at + k)
    over k = omega arith

pub read-other : (w : ℕ) (d : List ℕ) (at : ℕ) (out : List ℕ) (i : ℕ) → at + length out ≤ length d → (i + w ≤ at) ⊎ (at + length out ≤ i)
    → be_at w (written d at out) i ≡ be_at w d i
read-other w d at out i h o =
    be_at-ext w (written d at out) d i i
    (λ k l. get_or-written-out d at out (i + k) 0 h (⊎_elim (λ b. inl (omega arith)) (λ b. inr (omega arith)) o))

pub be_at-be : (w v : ℕ) → be_at w (be w v) 0 ≡ v % 256 ^ w
be_at-be zero v = sym (mod-one v)
be_at-be (suc w) v =
    ap (λ (n : ℕ). v / 256 ^ w % 256 * 256 ^ w + n) (be_at-ext w (be (suc w) v) (be w v) 1 0 (λ k l. rw (one-add, zero-add)) ∙ be_at-be w v)
    ∙ sym (ap (λ (n : ℕ). v % n) (pow-succ' 256 w) ∙ mod-mul v (zero-lt-suc 255) (weight-pos w))

pub read_same : (w v : ℕ) (d : List ℕ) (at : ℕ) → at + w ≤ length d → be_at w (written d at (be w v)) at ≡ v % 256 ^ w
read_same w v d at h =
    be_at-ext w (written d at (be w v)) (be w v) at 0
    (λ k l. rw (zero-add k) (get_or-written-in d at (be w v) k 0 (omega (arith, length-be w v)) (omega (arith, length-be w v))))
    ∙ be_at-be w v

-- ---- the other way round: octets are those of the number read

pub be_at-lt : (w : ℕ) (l : List ℕ) (at : ℕ) → ((k : ℕ) → get_or l k 0 < 256) → be_at w l at < 256 ^ w
be_at-lt zero l at h = omega arith
be_at-lt (suc w) l at h = rw (pow-succ' 256 w) (digits_lt (h at) (be_at-lt w l (at + 1) h))

-- what stands above the weight of w octets does not change them
be-low : (w q v : ℕ) → be w (q * 256 ^ w + v) ≡ be w v
be-low zero q v = refl
be-low (suc w) q v =
    let e : q * 256 ^ suc w ≡ q * 256 * 256 ^ w = ap (λ (n : ℕ). q * n) (pow-succ' 256 w) ∙ sym (mul_assoc q 256 (256 ^ w)) in
    rw (e, mul-add-div_right (weight-pos w) (q * 256) v, mul-add-mod_self_right q 256 (v / 256 ^ w), be-low w (q * 256) v)

pub be-be_at : (w : ℕ) (l : List ℕ) (at : ℕ) → ((k : ℕ) → get_or l k 0 < 256) → at + w ≤ length l → be w (be_at w l at) ≡ take w (drop at l)
be-be_at zero l at h b = refl
be-be_at (suc w) l at h b =
    let i : at < length l = omega arith in
    rw (digits_div (get_or l at 0) (be_at-lt w l (at + 1) h), mod-eq_of_lt (h at), be-low w (get_or l at 0) (be_at w l (at + 1)), be-be_at w l (at + 1) h (omega arith), add-one at, drop-cons l at 0)

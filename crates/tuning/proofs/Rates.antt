-- The rates: that the lowest doubled none to the most times passes, and nothing else; the same of a receive packet's field; that an
-- accepted rate is that whole number of Hz; what is answered. Assumes nothing.
use mathlib.Core.Path.{◌≡◌, refl, sym, ap, ◌∙◌, subst}
use Prim.Native.Nat.{ℕ, ◌*◌, ◌/◌, ◌^◌, ◌≤◌, ◌<◌}
use native.Mathlib.Nat.{le_trans, le_of_eq, le_of_lt, mul-pos, mul-le-mul_left, pow-le-pow_right, zero-lt-suc}
use native.Mathlib.Omega.{arith}
use mathlib.Core.Bool.{true, false}
use mathlib.Core.List.{List, [], ◌∷◌}
use mathlib.Core.Logic.{◌↔◌}
use lib.Pow.{pow_pos}
use lib.Dec.{T, lit≤, lit<}
use lib.IntN.{pos}
use lib.Ieee.{Float, fin, binary64, of_int, mul}
use lib.Ieee.Bits.{is_true}
use lib.Ieee.Exact.{HasValue}
use lib.Ieee.Back.{round_whole}
use Rattle.base.specs.Told.{Told, gives, refused}
use Rattle.base.proofs.Picks.{pick-t, pick-f, pick-either}
use Rattle.double.proofs.Values.{mul-whole, eq-of-value, value-of-eq, floor-of-whole}
use Rattle.tuning.specs.Rate.{lowest_rate, most_doublings, is_hz, is_rate, khz_of, is_rate_khz, rate_told, Doubled}
use Rattle.tuning.proofs.Doublings.{found, often}

-- ---- the lowest rate doubled n times: above 0, and no more than the highest. What is asked of the highest is computed

abbrev pub highest : ℕ
highest = lowest_rate * 2 ^ most_doublings

some-hz : (n : ℕ) → 0 < lowest_rate * 2 ^ n
some-hz n = mul-pos (lit< tt) (pow_pos n)

most-hz : (n : ℕ) → n ≤ most_doublings → lowest_rate * 2 ^ n ≤ highest
most-hz n h = mul-le-mul_left lowest_rate (pow-le-pow_right (zero-lt-suc 1) h)

-- up to the highest, so many Hz are a double, and their kHz fit the field of a receive packet
module _ (hz : ℕ) (most : hz ≤ highest) where
  of-hz : HasValue (of_int binary64 (pos hz)) false hz 1
  unfolding of_int
  of-hz = round_whole binary64 false hz (le_trans most (lit≤ tt))

  pub hz-value : (x : Float) → 0 < hz → is_hz hz x ≡ true → HasValue x false hz 1
  hz-value x some e = value-of-eq (of_int binary64 (pos hz)) x hz 1 some (zero-lt-suc 0) of-hz e

  value-hz : (x : Float) → HasValue x false hz 1 → is_hz hz x ≡ true
  value-hz x v = eq-of-value (of_int binary64 (pos hz)) x hz 1 (zero-lt-suc 0) of-hz v

  pub value-khz : (x : Float) → HasValue x false hz 1 → khz_of x ≡ hz / 1000
  unfolding khz_of
  value-khz x v = ap (λ (z : ℕ). z / 1000) (floor-of-whole x hz (le_trans most (lit≤ tt)) v)

  pub small-khz : hz / 1000 < 2 ^ 16
  small-khz = few highest most (lit< tt)
    where
      few : (h : ℕ) → hz ≤ h → h < 65536000 → hz / 1000 < 65536
      few h l m = omega arith

-- ---- what passes is the lowest rate doubled so often, and its kHz are 48 doubled as often

module _ (x : Float) (n : ℕ) (d : Doubled x n) where
  pub doubled-passes : is_rate x ≡ true
  unfolding is_rate
  doubled-passes = found x most_doublings lowest_rate n d.few (value-hz (lowest_rate * 2 ^ n) (most-hz n d.few) x d.value)

  pub doubled-khz : khz_of x ≡ 48 * 2 ^ n
  doubled-khz = value-khz (lowest_rate * 2 ^ n) (most-hz n d.few) x d.value ∙ over (2 ^ n)
    where
      over : (p : ℕ) → 48000 * p / 1000 ≡ 48 * p
      over p = omega arith

  pub doubled-told : rate_told x ≡ gives (48 * 2 ^ n ∷ [])
  unfolding rate_told
  doubled-told = pick-t _ _ _ doubled-passes ∙ ap (λ (k : ℕ). gives (k ∷ [])) doubled-khz

pub doublings : (x : Float) → is_rate x ≡ true → (n : ℕ) × Doubled x n
unfolding is_rate
doublings x t =
    let r = often x most_doublings lowest_rate t in
    (r.0, record { few = r.1; value = hz-value (lowest_rate * 2 ^ r.0) (most-hz r.0 r.1) x (some-hz r.0) r.2 })

pub rate-exactly : (x : Float) → (is_rate x ≡ true) ↔ ((n : ℕ) × Doubled x n)
rate-exactly x = (doublings x, λ d. doubled-passes x d.0 d.1)

pub else-told : (x : Float) → ((n : ℕ) → Doubled x n → ⊥) → rate_told x ≡ refused 3 []
unfolding rate_told
else-told x never =
    pick-either (is_rate x) _ _ (λ (t : Told). t ≡ refused 3 []) (λ b. let d = doublings x b in absurd (never d.0 d.1)) (λ b. refl)

-- ---- a receive packet's field: so many kHz

thousand : (p : ℕ) → 48 * p * 1000 ≡ 48000 * p
thousand p = omega arith

-- as the code tests them
pub field-tested : (khz : ℕ) → khz < 2 ^ 16 → is_rate (mul binary64 (of_int binary64 (pos khz)) (fin false 125 (pos 3))) ≡ is_rate_khz khz
unfolding is_rate_khz of_int
field-tested khz h = ap is_rate (mul-whole binary64 khz 1000 (le_trans (le_of_lt h) (lit≤ tt)) (lit≤ tt))

-- what is accepted is 48 doubled none to the most times, and nothing else
doubled-field : (n : ℕ) → n ≤ most_doublings → is_rate_khz (48 * 2 ^ n) ≡ true
unfolding is_rate_khz
doubled-field n few =
    ap (λ (z : ℕ). is_rate (of_int binary64 (pos z))) (thousand (2 ^ n))
    ∙ doubled-passes (of_int binary64 (pos (lowest_rate * 2 ^ n))) n (record { few = few; value = of-hz (lowest_rate * 2 ^ n) (most-hz n few) })

field-doubled : (khz : ℕ) → khz < 2 ^ 16 → is_rate_khz khz ≡ true → (n : ℕ) × (n ≤ most_doublings) × (khz ≡ 48 * 2 ^ n)
unfolding is_rate_khz khz_of of_int
field-doubled khz h t =
    let d = doublings (of_int binary64 (pos (khz * 1000))) t in
    (d.0, d.1.few, sym (own khz h) ∙ doubled-khz (of_int binary64 (pos (khz * 1000))) d.0 d.1)
  where
    few : (k : ℕ) → k < 65536 → k * 1000 ≤ 65536000
    few k l = omega arith

    over : (k : ℕ) → k * 1000 / 1000 ≡ k
    over k = omega arith

    own : (k : ℕ) → k < 2 ^ 16 → khz_of (of_int binary64 (pos (k * 1000))) ≡ k
    own k l =
        ap (λ (z : ℕ). z / 1000)
        (floor-of-whole (of_int binary64 (pos (k * 1000))) (k * 1000) (le_trans (few k l) (lit≤ tt)) (round_whole binary64 false (k * 1000) (le_trans (few k l) (lit≤ tt))))
        ∙ over k

pub field-exactly : (khz : ℕ) → khz < 2 ^ 16 → (is_rate_khz khz ≡ true) ↔ ((n : ℕ) × (n ≤ most_doublings) × (khz ≡ 48 * 2 ^ n))
field-exactly khz h = (field-doubled khz h, λ d. ap is_rate_khz d.2 ∙ doubled-field d.0 d.1)

-- ---- an accepted rate
module _ (x : Float) (t : T (is_rate x)) where
  abbrev doubled : (n : ℕ) × Doubled x n
  doubled = doublings x (is_true (is_rate x) t)

  -- it is that whole number of Hz
  pub rate-whole : HasValue x false (khz_of x * 1000) 1
  rate-whole =
      subst (λ (z : ℕ). HasValue x false z 1) (sym (ap (λ (z : ℕ). z * 1000) (doubled-khz x doubled.0 doubled.1) ∙ thousand (2 ^ doubled.0))) doubled.1.value

  -- above 0, and no more than the lowest doubled the most times
  pub khz-some : 0 < khz_of x
  khz-some = subst (λ (z : ℕ). 0 < z) (sym (doubled-khz x doubled.0 doubled.1)) (mul-pos (lit< tt) (pow_pos doubled.0))

  pub rate-most : khz_of x * 1000 ≤ highest
  rate-most =
      le_trans (le_of_eq (ap (λ (z : ℕ). z * 1000) (doubled-khz x doubled.0 doubled.1) ∙ thousand (2 ^ doubled.0)))
      (most-hz doubled.0 doubled.1.few)

  pub khz-fits : khz_of x < 2 ^ 16
  khz-fits =
      let most = most-hz doubled.0 doubled.1.few in
      subst (λ (z : ℕ). z < 2 ^ 16) (sym (value-khz (lowest_rate * 2 ^ doubled.0) most x doubled.1.value)) (small-khz (lowest_rate * 2 ^ doubled.0) most)

  -- what is written for it is accepted where it is read
  pub khz-again : is_rate_khz (khz_of x) ≡ true
  khz-again = ap is_rate_khz (doubled-khz x doubled.0 doubled.1) ∙ doubled-field doubled.0 doubled.1.few

-- ---- the answers

pub told-khz : (x : Float) → is_rate x ≡ true → gives (khz_of x ∷ []) ≡ rate_told x
unfolding rate_told
told-khz x t = sym (pick-t _ _ _ t)

pub told_none : (x : Float) → is_rate x ≡ false → refused 3 [] ≡ rate_told x
unfolding rate_told
told_none x t = sym (pick-f _ _ _ t)

no-told : {A : Type 0} (k : ℕ) (vs : List ℕ) → gives (k ∷ []) ≡ refused 3 vs → A
no-told k vs h = let z : ◌≡◌ {A = ℕ} 0 1 = cc in absurd (omega arith)

-- the other way round: a rate that is given is accepted, and so many kHz; one that is refused is none
pub given-khz : (x : Float) (khz : ℕ) → gives (khz ∷ []) ≡ rate_told x → (is_rate x ≡ true) × (khz ≡ khz_of x)
unfolding rate_told
given-khz x khz = pick-either (is_rate x) _ _ (λ (t : Told). gives (khz ∷ []) ≡ t → (is_rate x ≡ true) × (khz ≡ khz_of x)) (λ b h. (b, cc)) (λ b h. no-told khz _ h)

pub refused-rate : (x : Float) → refused 3 [] ≡ rate_told x → is_rate x ≡ false
unfolding rate_told
refused-rate x = pick-either (is_rate x) _ _ (λ (t : Told). refused 3 [] ≡ t → is_rate x ≡ false) (λ b h. no-told _ _ (sym h)) (λ b h. b)

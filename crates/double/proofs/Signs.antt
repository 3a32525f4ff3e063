-- The sign of a rounded fraction: it is the one that `round` is given, and a negation turns it. Assumes nothing.
use Rattle.std.proofs.Common.{◌≡◌, ℕ, zero, suc, ◌+◌, ◌-◌, ◌*◌, ◌/◌, ◌%◌, ◌^◌, Bool, true, false, cond, not, ltb, sym, refl, ap, ◌∙◌}
use Prim.Native.Nat.{compare}
use lib.Ieee.{Float, nan, inf, fin, Format, prec, low, emax, size, nearest, odd, units, round, neg}
use lib.Ieee.Fits.{round_is}

-- the sign, and none of a NaN
abbrev pub minus? : Float → Bool
minus? nan = false
minus? (inf s) = s
minus? (fin s m e) = s

odd_sign : (d : ℕ) (s : Bool) (q k l : ℕ) → minus? (odd d s q k l) ≡ s
unfolding odd
odd_sign d s zero k l = refl
odd_sign d s (suc q) k l = refl

neg-odd : (d : ℕ) (s : Bool) (q k l : ℕ) → neg (odd d s q k l) ≡ odd d (not s) q k l
unfolding odd neg
neg-odd d s zero k l = refl
neg-odd d s (suc q) k l = refl

-- `round` chooses between such a number and an infinity of the sign
round-cases : {A : Type 0} (f : Format) (g : Float → A) (h : Bool → A) (s : Bool) (a c : ℕ)
    → ((q k : ℕ) → g (odd (suc (prec f)) s q k (low f)) ≡ h s) → g (inf s) ≡ h s → g (round f s a c) ≡ h s
unfolding units
round-cases f g h s a c at-odd at-inf =
    let n = a * 2 ^ low f in
    let k = size (n / c) - prec f in
    let q = nearest (n / (c * 2 ^ k)) (compare (n % (c * 2 ^ k) * 2) (c * 2 ^ k)) in
    ap g (round_is f s a c) ∙ go q k (ltb (q * 2 ^ k) (2 ^ (low f + suc (emax f))))
  where
    go : (q k : ℕ) (b : Bool) → g (cond b (odd (suc (prec f)) s q k (low f)) (inf s)) ≡ h s
    go q k true = at-odd q k
    go q k false = at-inf

pub round-sign : (f : Format) (s : Bool) (a c : ℕ) → minus? (round f s a c) ≡ s
round-sign f s a c = round-cases f minus? (λ (t : Bool). t) s a c (λ q k. odd_sign (suc (prec f)) s q k (low f)) refl

neg-units : (f : Format) (s : Bool) (q k : ℕ) → neg (units f s q k) ≡ units f (not s) q k
unfolding units neg
neg-units f s q k = go (ltb (q * 2 ^ k) (2 ^ (low f + suc (emax f))))
  where
    go : (b : Bool) → neg (cond b (odd (suc (prec f)) s q k (low f)) (inf s)) ≡ cond b (odd (suc (prec f)) (not s) q k (low f)) (inf (not s))
    go true = neg-odd (suc (prec f)) s q k (low f)
    go false = refl

pub neg-round : (f : Format) (s : Bool) (a c : ℕ) → neg (round f s a c) ≡ round f (not s) a c
neg-round f s a c =
    let n = a * 2 ^ low f in
    let k = size (n / c) - prec f in
    ap neg (round_is f s a c) ∙ neg-units f s (nearest (n / (c * 2 ^ k)) (compare (n % (c * 2 ^ k) * 2) (c * 2 ^ k))) k ∙ sym (round_is f (not s) a c)

-- Fractions that k roundings to a double can take into each other: each changes a number by at most a part in 2 ^ 53. Nothing here is
-- about doubles. Assumes nothing.
use Rattle.std.proofs.Common.{◌≡◌, ℕ, zero, suc, ◌+◌, ◌-◌, ◌*◌, ◌^◌, ◌<◌, ◌≤◌, sym, ap, ◌∙◌, subst, subst₂, le_trans, le_of_eq, lt_of_lt_of_le, add-le-add, mul-le-mul_right, mul_assoc, mul_comm, add-mul, add-sub_of_le, mul-le-mul, add_comm, mul-le-mul_left, pow-suc, le_of_mul-le-mul_right, mul_left_comm, lit≤, pow_pos, pow-add}
use native.Mathlib.Nat.{mul-mul-mul_comm, pow-le-pow_left, pow-zero}

-- 2 ^ 53 and one more: a rounding makes of a number at most the second over the first of it, and at least the first over the second
abbrev pub whole : ℕ
whole = 9007199254740992

abbrev pub over : ℕ
over = 9007199254740993

-- a / c is at most b / d, but for k roundings
unfoldable pub Under : ℕ → ℕ → ℕ → ℕ → ℕ → Type 0
Under k a c b d = a * d * whole ^ k ≤ b * c * over ^ k

-- and the other way round
pub record Close (k a c b d : ℕ) : Type 0 where
  pub low : Under k b d a c
  pub high : Under k a c b d

pow-of-product : (v w k : ℕ) → (v * w) ^ k ≡ v ^ k * w ^ k
pow-of-product v w zero = pow-zero (v * w) ∙ sym (ap (λ (z : ℕ). z * w ^ 0) (pow-zero v) ∙ ap (λ (z : ℕ). 1 * z) (pow-zero w))
pow-of-product v w (suc k) =
    pow-suc (v * w) k
    ∙ ap (λ (z : ℕ). z * (v * w)) (pow-of-product v w k)
    ∙ mul-mul-mul_comm (v ^ k) (w ^ k) v w
    ∙ sym (ap (λ (z : ℕ). z * w ^ suc k) (pow-suc v k) ∙ ap (λ (z : ℕ). v ^ k * v * z) (pow-suc w k))

-- ---- one side
module _ (k a c b d : ℕ) where
  pub under_more : (l : ℕ) → k ≤ l → Under k a c b d → Under l a c b d
  unfolding Under
  under_more l h u =
      subst (λ (z : ℕ). a * d * whole ^ z ≤ b * c * over ^ z) (add-sub_of_le h)
      (subst₂ (λ (x y : ℕ). x ≤ y) (more whole (a * d)) (more over (b * c)) (mul-le-mul u (pow-le-pow_left (lit≤ tt) (l - k))))
    where
      more : (w x : ℕ) → x * w ^ k * w ^ (l - k) ≡ x * w ^ (k + (l - k))
      more w x = mul_assoc x (w ^ k) (w ^ (l - k)) ∙ ap (λ (z : ℕ). x * z) (sym (pow-add w k (l - k)))

  -- of the fractions turned over
  pub under-turned : Under k a c b d → Under k d b c a
  unfolding Under
  under-turned u = subst₂ (λ (x y : ℕ). x * whole ^ k ≤ y * over ^ k) (mul_comm a d) (mul_comm b c) u

  pub under-mul : (l a' c' b' d' : ℕ) → Under k a c b d → Under l a' c' b' d' → Under (k + l) (a * a') (c * c') (b * b') (d * d')
  unfolding Under
  under-mul l a' c' b' d' u v = subst₂ (λ (x y : ℕ). x ≤ y) (joined whole a d a' d') (joined over b c b' c') (mul-le-mul u v)
    where
      joined : (w a d a' d' : ℕ) → a * d * w ^ k * (a' * d' * w ^ l) ≡ a * a' * (d * d') * w ^ (k + l)
      joined w a d a' d' =
          mul-mul-mul_comm (a * d) (w ^ k) (a' * d') (w ^ l)
          ∙ ap (λ (z : ℕ). z * (w ^ k * w ^ l)) (mul-mul-mul_comm a d a' d')
          ∙ ap (λ (z : ℕ). a * a' * (d * d') * z) (sym (pow-add w k l))

  pub under-add : (a' c' b' d' : ℕ) → Under k a c b d → Under k a' c' b' d' → Under k (a * c' + a' * c) (c * c') (b * d' + b' * d) (d * d')
  unfolding Under
  under-add a' c' b' d' u v =
      subst₂ (λ (x y : ℕ). x ≤ y) (sym (spread (whole ^ k) a c a' c' d d')) (sym (spread (over ^ k) b d b' d' c c'))
      (add-le-add (mul-le-mul u (le_of_eq (mul_comm c' d'))) (mul-le-mul v (le_of_eq (mul_comm c d))))
    where
      spread : (w a c a' c' d d' : ℕ) → (a * c' + a' * c) * (d * d') * w ≡ a * d * w * (c' * d') + a' * d' * w * (c * d)
      spread w a c a' c' d d' =
          ap (λ (z : ℕ). z * w) (add-mul (a * c') (a' * c) (d * d'))
          ∙ add-mul (a * c' * (d * d')) (a' * c * (d * d')) w
          ∙ ap (λ (z : ℕ). z + a' * c * (d * d') * w) (simp (mul_assoc, mul_comm, mul_left_comm))
          ∙ ap (λ (z : ℕ). a * d * w * (c' * d') + z) (simp (mul_assoc, mul_comm, mul_left_comm))

  pub under-through : (l e f : ℕ) → 0 < d → Under k a c b d → Under l b d e f → Under (k + l) a c e f
  unfolding Under
  under-through l e f D u v =
      le_of_mul-le-mul_right
      (subst₂ (λ (x y : ℕ). x ≤ y) left right
      (le_trans (mul-le-mul_right (f * whole ^ l) u) (le_trans (le_of_eq middle) (mul-le-mul_right (c * over ^ k) v)))) D
    where
      left : a * d * whole ^ k * (f * whole ^ l) ≡ a * f * whole ^ (k + l) * d
      left = simp (pow-add, mul_assoc, mul_comm, mul_left_comm)

      middle : b * c * over ^ k * (f * whole ^ l) ≡ b * f * whole ^ l * (c * over ^ k)
      middle = simp (mul_assoc, mul_comm, mul_left_comm)

      right : e * d * over ^ l * (c * over ^ k) ≡ e * c * over ^ (k + l) * d
      right = simp (pow-add, mul_assoc, mul_comm, mul_left_comm)

  -- crudely: a rounding at most doubles
  pub under_twice : Under k a c b d → a * d ≤ b * c * 2 ^ k
  unfolding Under
  under_twice u =
      le_of_mul-le-mul_right
      (le_trans u (le_trans (mul-le-mul_left (b * c) (le_trans (pow-le-pow_left (lit≤ tt) k) (le_of_eq (pow-of-product 2 whole k)))) (le_of_eq (sym (mul_assoc (b * c) (2 ^ k) (whole ^ k))))))
      (some k)
    where
      some : (k : ℕ) → 0 < whole ^ k
      some k = lt_of_lt_of_le (pow_pos k) (pow-le-pow_left (lit≤ tt) k)

-- ---- both
pub close-exact : (a c b d : ℕ) → a * d ≡ b * c → Close 0 a c b d
unfolding Under
close-exact a c b d e = record { low = le_of_eq (ap (λ (z : ℕ). z * 1) (sym e)); high = le_of_eq (ap (λ (z : ℕ). z * 1) e) }

module _ (k a c b d : ℕ) where
  pub close_more : (l : ℕ) → k ≤ l → Close k a c b d → Close l a c b d
  close_more l h u = record { low = under_more k b d a c l h u.low; high = under_more k a c b d l h u.high }

  pub close-through : (l e f : ℕ) → 0 < d → Close k a c b d → Close l b d e f → Close (k + l) a c e f
  close-through l e f D u v =
      record {
        low = subst (λ (z : ℕ). Under z e f a c) (add_comm l k) (under-through l e f b d k a c D v.low u.low);
        high = under-through k a c b d l e f D u.high v.high;
      }

  module _ (a' c' b' d' : ℕ) where
    pub close-mul : (l : ℕ) → Close k a c b d → Close l a' c' b' d' → Close (k + l) (a * a') (c * c') (b * b') (d * d')
    close-mul l u v = record { low = under-mul k b d a c l b' d' a' c' u.low v.low; high = under-mul k a c b d l a' c' b' d' u.high v.high }

    pub close-div : (l : ℕ) → Close k a c b d → Close l a' c' b' d' → Close (k + l) (a * c') (c * a') (b * d') (d * b')
    close-div l u v =
        record {
          low = under-mul k b d a c l d' b' c' a' u.low (under-turned l a' c' b' d' v.high);
          high = under-mul k a c b d l c' a' d' b' u.high (under-turned l b' d' a' c' v.low);
        }

    pub close-add : Close k a c b d → Close k a' c' b' d' → Close k (a * c' + a' * c) (c * c') (b * d' + b' * d) (d * d')
    close-add u v = record { low = under-add k b d a c b' d' a' c' u.low v.low; high = under-add k a c b d a' c' b' d' u.high v.high }

-- The tracker, with the jump limit, tells what the whole numbers say. Assumes nothing.
use Prim.Native.Nat.{ℕ, suc, ◌+◌, ◌-◌, ◌%◌, ◌≤◌, ◌<◌, ◌^◌}
use mathlib.Core.Path.{◌≡◌, refl, sym, ap, ◌∙◌}
use mathlib.Core.Bool.{Bool, true, false, not, ◌&&◌}
use mathlib.Core.Logic.{◌≢◌}
use native.Mathlib.Omega.{arith}
use native.Mathlib.Decide.{dec_le, dec_lt, ℕ_discrete}
use lib.Dec.{leb}
use lib.IntN.{ℤ, pos, negsuc, ◌+ℤ◌, ◌-ℤ◌, +ℤ_comm, -ℤ-+ℤ_cancel}
use borrow.Author.Tests.{lt-ltb, le-ltb, le-leb, lt-leb, eq-eqb, ne_eqb}
use Rattle.base.specs.Pick.{pick}
use Rattle.sequence.specs.Tracker.{less, zero_restarts, meant}
use Rattle.sequence.specs.declared.SeqEvent.{SeqEvent}
use Rattle.sequence.specs.declared.SeqEvent.TheVariants.{Stale, Restart}
use Rattle.model.specs.Rules.{capped}
use Rattle.account.specs.Whole.{count_of, ahead, behind, Near, fits_above, fits_below, verdict}

-- ---- counts

pub count_small : (n : ℤ) → count_of n < 2 ^ 32
count_small (pos n) = omega arith
count_small (negsuc n) = omega arith

-- k numbers on, and k + 1 numbers back
pub count-on : (e : ℤ) (k : ℕ) → count_of (e +ℤ pos k) ≡ (count_of e + k) % 2 ^ 32
count-on (pos a) k = omega arith
count-on (negsuc a) k =
    elim (dec_lt k (suc a)) [
      | yes h ↦ rw (lt-ltb k (suc a) h) (omega arith)
      | no h ↦ rw (le-ltb k (suc a) (omega arith)) (omega arith)
    ]

pub count-back : (e : ℤ) (k : ℕ) → k < 2 ^ 32 → count_of (e +ℤ negsuc k) ≡ (count_of e + (2 ^ 32 - (k + 1))) % 2 ^ 32
count-back (negsuc a) k small = omega arith
count-back (pos a) k small =
    elim (dec_lt a (suc k)) [
      | yes h ↦ rw (lt-ltb a (suc k) h) (omega arith)
      | no h ↦ rw (le-ltb a (suc k) (omega arith)) (omega arith)
    ]

-- n is e and the distance
pub from-distance : (e n d : ℤ) → n -ℤ e ≡ d → n ≡ e +ℤ d
from-distance e n d h = sym (-ℤ-+ℤ_cancel n e) ∙ ap (λ (z : ℤ). z +ℤ e) h ∙ +ℤ_comm d e

pub less-above : (e n : ℤ) (k : ℕ) → n -ℤ e ≡ pos k → k < 2 ^ 31 → less (count_of n) (count_of e) ≡ k
unfolding less
less-above e n k h small =
    let c : count_of n ≡ (count_of e + k) % 2 ^ 32 = ap count_of (from-distance e n (pos k) h) ∙ count-on e k in
    omega (arith, c, count_small e)

pub less-below : (e n : ℤ) (k : ℕ) → n -ℤ e ≡ negsuc k → k < 2 ^ 31 → less (count_of n) (count_of e) ≡ 2 ^ 32 - (k + 1)
unfolding less
less-below e n k h small =
    let c : count_of n ≡ (count_of e + (2 ^ 32 - (k + 1))) % 2 ^ 32 = ap count_of (from-distance e n (negsuc k) h) ∙ count-back e k (omega arith) in
    omega (arith, c, count_small e)

-- ---- tests of differences, as tests of the numbers

pub leb-is : (a b c d : ℕ) → (a ≤ b → c ≤ d) → (c ≤ d → a ≤ b) → leb a b ≡ leb c d
leb-is a b c d f g =
    elim (dec_le a b) [
      | yes h ↦ le-leb a b h ∙ sym (le-leb c d (f h))
      | no h ↦ lt-leb a b (omega arith) ∙ sym (lt-leb c d (elim (dec_le c d) [ yes k ↦ absurd (h (g k)) | no k ↦ omega arith ]))
    ]

-- after at most six stale ones, or not
seventh : (run : ℕ) → leb 8 (run + 1) ≡ not (leb run 6)
seventh run =
    elim (dec_le run 6) [
      | yes h ↦ lt-leb 8 (run + 1) (omega arith) ∙ ap not (sym (le-leb run 6 h))
      | no h ↦ le-leb 8 (run + 1) (omega arith) ∙ ap not (sym (lt-leb run 6 (omega arith)))
    ]

-- what is told of a number below e, and what is to be told
below_as : (limit : ℕ) (near few : Bool) → capped limit (pick near (pick (not few) Restart Stale) Restart) ≡ pick (near && few) Stale Restart
unfolding capped pick
below_as limit true true = refl
below_as limit true false = refl
below_as limit false few = refl

module _ (limit run : ℕ) (e n : ℤ) where
  abbrev told : SeqEvent
  told = meant (less (count_of n) (count_of e)) run (count_of n)

  abbrev Right : Type 0
  Right = capped limit told ≡ verdict limit run e n

  same : n -ℤ e ≡ pos 0 → Right
  unfolding capped meant zero_restarts verdict pick
  same h = simp (h, less-above e n 0 h (omega arith))

  -- not e, and with the count 0
  multiple : (d : ℤ) → n -ℤ e ≡ d → 0 < ahead d + behind d → less (count_of n) (count_of e) ≢ 0 → count_of n ≡ 0 → Right
  unfolding capped meant zero_restarts verdict fits_above fits_below pick
  multiple (pos k) h far z c = simp (h, ne_eqb (less (count_of n) (count_of e)) 0 z, ne_eqb k 0 (omega arith), eq-eqb (count_of n) 0 c)
  multiple (negsuc k) h far z c = simp (h, ne_eqb (less (count_of n) (count_of e)) 0 z, ne_eqb (k + 1) 0 (omega arith), eq-eqb (count_of n) 0 c)

  -- above e
  above : (k : ℕ) → n -ℤ e ≡ pos k → 0 < k → k < 2 ^ 31 → count_of n ≢ 0 → Right
  unfolding capped meant zero_restarts verdict fits_above fits_below pick
  above k h far small c =
      simp (
        h,
        ne_eqb (count_of n) 0 c,
        less-above e n k h small,
        ne_eqb k 0 (omega arith),
        lt-ltb k (2 ^ 31) small,
        lt-ltb 0 k far,
      )

  module _ (k : ℕ) (h : n -ℤ e ≡ negsuc k) (small : k < 2 ^ 31) (c : count_of n ≢ 0) where
    below-told : told ≡ pick (leb 0xffff_ffc0 (2 ^ 32 - (k + 1))) (pick (leb 8 (run + 1)) Restart Stale) Restart
    unfolding meant zero_restarts pick
    below-told =
        simp (
          ne_eqb (count_of n) 0 c,
          less-below e n k h small,
          ne_eqb (2 ^ 32 - (k + 1)) 0 (omega arith),
          le-ltb (2 ^ 32 - (k + 1)) (2 ^ 31) (omega arith),
        )

    below-verdict : verdict limit run e n ≡ pick (leb (k + 1) 64 && leb run 6) Stale Restart
    unfolding verdict fits_above fits_below pick
    below-verdict = simp (h, ne_eqb (count_of n) 0 c, ne_eqb (k + 1) 0 (omega arith), lt-ltb 0 (k + 1) (omega arith))

    below : Right
    below =
        let l : leb 0xffff_ffc0 (2 ^ 32 - (k + 1)) ≡ leb (k + 1) 64
        = leb-is 0xffff_ffc0 (2 ^ 32 - (k + 1)) (k + 1) 64 (λ l. omega arith) (λ l. omega arith) in
        rw (below-told, l, seventh run) (below_as limit (leb (k + 1) 64) (leb run 6) ∙ sym below-verdict)

  by-distance : (d : ℤ) → n -ℤ e ≡ d → behind d ≤ 2 ^ 31 → ahead d < 2 ^ 31 → Right
  by-distance (pos k) h low high =
      elim (ℕ_discrete k 0) [
        | yes z ↦ same (h ∙ ap pos z)
        | no z ↦ elim (ℕ_discrete (count_of n) 0) [
          | yes c ↦ multiple (pos k) h (omega arith) (λ q. z (sym (less-above e n k h high) ∙ q)) c
          | no c ↦ above k h (omega arith) high c
        ]
      ]
  by-distance (negsuc k) h low high =
      elim (ℕ_discrete (count_of n) 0) [
        | yes c ↦ multiple (negsuc k) h (omega arith) (λ q. let l = less-below e n k h (omega arith) in omega arith) c
        | no c ↦ below k h (omega arith) c
      ]

  pub verdict-told : Near e n → Right
  verdict-told near = by-distance (n -ℤ e) refl near.low near.high

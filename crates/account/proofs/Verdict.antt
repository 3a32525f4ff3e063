-- What the verdict on an arrival says of its number. Assumes nothing.
use Rattle.std.specs.Prelude.{Option, Some, None}
use Prim.Native.Nat.{ℕ, ◌<◌}
use mathlib.Core.Path.{◌≡◌, refl, sym, ap, ◌∙◌}
use mathlib.Core.Logic.{◌↔◌}
use mathlib.Core.Bool.{Bool, true, false, ◌&&◌, ◌||◌}
use native.Mathlib.Omega.{arith}
use lib.Dec.{T, leb, ltb, eqb}
use lib.IntN.{ℤ, pos, negsuc, ◌-ℤ◌}
use borrow.Author.Tests.{ltb-true, eqb-true}
use Rattle.base.specs.Pick.{pick}
use Rattle.sequence.specs.declared.SeqEvent.{SeqEvent}
use Rattle.sequence.specs.declared.SeqEvent.TheVariants.{InOrder, Gap, Stale, Restart}
use Rattle.model.specs.Rules.{is_stale}
use Rattle.account.specs.Whole.{count_not_zero, ahead, behind, is_next, fits_above, fits_below, fits, verdict}
use Rattle.account.specs.Book.{fit_in, below_in}
use Rattle.account.specs.Exact.{verdict_in}

pub and_left : (a b : Bool) → a && b ≡ true → a ≡ true
and_left true b h = refl
and_left false b h = h

pub and_right : (a b : Bool) → a && b ≡ true → b ≡ true
and_right true b h = h
and_right false b h = cc

is-above : (limit : ℕ) (e n : ℤ) → fits_above limit e n ≡ true → 0 < ahead (n -ℤ e)
unfolding fits_above
is-above limit e n h =
    ltb-true 0 (ahead (n -ℤ e))
    (and_right (count_not_zero n) (ltb 0 (ahead (n -ℤ e))) (and_left (count_not_zero n && ltb 0 (ahead (n -ℤ e))) (leb (ahead (n -ℤ e)) limit) h))

is_below : (run : ℕ) (e n : ℤ) → fits_below run e n ≡ true → 0 < behind (n -ℤ e)
unfolding fits_below
is_below run e n h =
    let d = behind (n -ℤ e) in
    ltb-true 0 d
    (and_right (count_not_zero n) (ltb 0 d) (and_left (count_not_zero n && ltb 0 d) (leb d 64) (and_left (count_not_zero n && ltb 0 d && leb d 64) (leb run 6) h)))

is-next : (e n : ℤ) → is_next e n ≡ true → (ahead (n -ℤ e) ≡ 0) × (behind (n -ℤ e) ≡ 0)
is-next e n h =
    let a = ahead (n -ℤ e) in
    let b = behind (n -ℤ e) in
    (eqb-true a 0 (and_left (eqb a 0) (eqb b 0) h), eqb-true b 0 (and_right (eqb a 0) (eqb b 0) h))

-- not both above and below
one_side : (d : ℤ) → 0 < ahead d → behind d ≡ 0
one_side (pos d) h = refl
one_side (negsuc d) h = absurd (omega arith)

-- the distance, of how far above it is
pub as-above : (d : ℤ) → behind d ≡ 0 → d ≡ pos (ahead d)
as-above (pos d) h = refl
as-above (negsuc d) h = absurd (omega arith)

-- of an arrival told so: its distance, whether it fits, and whether below
abbrev pub Says : ℤ → SeqEvent → Bool → Bool → Type 0
Says d InOrder fit below = (d ≡ pos 0) × (fit ≡ true) × (below ≡ false)
Says d (Gap k) fit below = ((d ≡ pos k) × (0 < k)) × (fit ≡ true) × (below ≡ false)
Says d Stale fit below = (0 < behind d) × (fit ≡ true) × (below ≡ true)
Says d Restart fit below = Unit {0} × (fit ≡ false) × (below ≡ false)

module _ (limit run : ℕ) (e n : ℤ) where
  abbrev distance : ℤ
  distance = n -ℤ e

  cases : (a b c : Bool) → is_next e n ≡ a → fits_above limit e n ≡ b → fits_below run e n ≡ c → Says distance (pick a InOrder (pick b (Gap (ahead distance)) (pick c Stale Restart))) (a || b || c) c
  unfolding pick
  cases true b true p q r = let l = is_below run e n r in let q = is-next e n p in let z : ⊥ = omega (arith, q.1) in absurd z
  cases true b false p q r = let q = is-next e n p in (as-above distance q.1 ∙ ap pos q.0, refl, refl)
  cases false true true p q r =
      let k = one_side distance (is-above limit e n q) in let l = is_below run e n r in let z : ⊥ = omega arith in absurd z
  cases false true false p q r =
      let k = is-above limit e n q in ((as-above distance (one_side distance k), k), refl, refl)
  cases false false true p q r = (is_below run e n r, refl, refl)
  cases false false false p q r = (tt, refl, refl)

  pub says : Says distance (verdict limit run e n) (fits limit run e n) (fits_below run e n)
  unfolding verdict fits
  says = cases (is_next e n) (fits_above limit e n) (fits_below run e n) refl refl refl

-- whether it fits, and whether below, by what it is told
abbrev pub Rules : SeqEvent → Bool → Bool → Type 0
Rules InOrder fit below = (fit ≡ true) × (below ≡ false)
Rules (Gap k) fit below = (fit ≡ true) × (below ≡ false)
Rules Stale fit below = (fit ≡ true) × (below ≡ true)
Rules Restart fit below = (fit ≡ false) × (below ≡ false)

rules-of : (d : ℤ) (ev : SeqEvent) (f b : Bool) → Says d ev f b → Rules ev f b
rules-of d InOrder f b h = (h.1, h.2)
rules-of d (Gap k) f b h = (h.1, h.2)
rules-of d Stale f b h = (h.1, h.2)
rules-of d Restart f b h = (h.1, h.2)

pub rules : (o : Option ℤ) (limit run : ℕ) (n : ℤ) → Rules (verdict_in o limit run n) (fit_in o limit run n) (below_in o run n)
rules None limit run n = (refl, refl)
rules (Some e) limit run n = rules-of (n -ℤ e) (verdict limit run e n) (fits limit run e n) (fits_below run e n) (says limit run e n)

-- Restart exactly where it does not fit, Stale exactly where it fits below
pub restarts : (ev : SeqEvent) (f b : Bool) → Rules ev f b → (Some ev ≡ Some Restart) ↔ ¬ T f
restarts InOrder true b h = (λ e. let z : ◌≡◌ {A = ℕ} 0 1 = cc in absurd (omega arith), λ k. absurd (k tt))
restarts (Gap k) true b h = (λ e. let z : ◌≡◌ {A = ℕ} 0 1 = cc in absurd (omega arith), λ k. absurd (k tt))
restarts Stale true b h = (λ e. let z : ◌≡◌ {A = ℕ} 0 1 = cc in absurd (omega arith), λ k. absurd (k tt))
restarts Restart true b h = let z : ◌≡◌ {A = ℕ} 0 1 = cc in absurd (omega arith)
restarts InOrder false b h = let z : ◌≡◌ {A = ℕ} 0 1 = cc in absurd (omega arith)
restarts (Gap k) false b h = let z : ◌≡◌ {A = ℕ} 0 1 = cc in absurd (omega arith)
restarts Stale false b h = let z : ◌≡◌ {A = ℕ} 0 1 = cc in absurd (omega arith)
restarts Restart false b h = (λ e t. t, λ k. refl)

pub stales : (ev : SeqEvent) (f b : Bool) → Rules ev f b → (Some ev ≡ Some Stale) ↔ T b
stales InOrder f false h = (λ e. let z : ◌≡◌ {A = ℕ} 0 1 = cc in absurd (omega arith), λ k. absurd k)
stales (Gap k) f false h = (λ e. let z : ◌≡◌ {A = ℕ} 0 1 = cc in absurd (omega arith), λ k. absurd k)
stales Restart f false h = (λ e. let z : ◌≡◌ {A = ℕ} 0 1 = cc in absurd (omega arith), λ k. absurd k)
stales Stale f false h = let z : ◌≡◌ {A = ℕ} 0 1 = cc in absurd (omega arith)
stales InOrder f true h = let z : ◌≡◌ {A = ℕ} 0 1 = cc in absurd (omega arith)
stales (Gap k) f true h = let z : ◌≡◌ {A = ℕ} 0 1 = cc in absurd (omega arith)
stales Restart f true h = let z : ◌≡◌ {A = ℕ} 0 1 = cc in absurd (omega arith)
stales Stale f true h = (λ e. tt, λ k. refl)

-- what is told Stale fits below, and nothing else does
pub stale-is : (ev : SeqEvent) (f b : Bool) → Rules ev f b → is_stale ev ≡ b
stale-is InOrder f b h = sym h.1
stale-is (Gap k) f b h = sym h.1
stale-is Stale f b h = sym h.1
stale-is Restart f b h = sym h.1

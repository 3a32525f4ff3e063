-- `opening::settings::validate_protocol2` meets its contract: the rows in order. Assumes nothing.
use Rattle.std.specs.Prelude.{Option, Some, None, Err}
use Rattle.std.proofs.lemmas.Grind.{common_steps}
use Rattle.model.specs.declared.settings.SettingsError.TheVariants.{Rate}
use Prim.Native.Nat.{ℕ}
use mathlib.Core.Path.{◌≡◌, sym, ap, ◌∙◌}
use mathlib.Core.Bool.{Bool, true, not}
use mathlib.Core.List.{[], ◌∷◌}
use native.Mathlib.Omega.{arith}
use Rattle.base.specs.Told.{gives}
use Rattle.base.proofs.Picks.{pick-t}
use Rattle.base.proofs.Tests.{was}
use borrow.Author.Tests.{ne_eqb}
use lib.Ieee.{Float}
use Rattle.tuning.specs.Rate.{is_rate, khz_of, rate_told, rate_answer}
use Rattle.tuning.specs.Centre.{whole_centre, below_nyquist}
use Rattle.model.specs.Settings.{Tunable}
use Rattle.model.specs.declared.settings.Settings.{Settings}
use Rattle.tuning.proofs.Rates.{given-khz, refused-rate}
use Rattle.model.proofs.Rows.{one, past, row-4, row-19, row-6, plain-accepted}
use Rattle.opening.proofs.settings.validate_protocol2.Goals as goal

-- what the rate is, where it gave its kHz
rated : (x : Float) (khz : ℕ) (r : Option ℕ) → r ≡ Some khz → rate_answer r ≡ rate_told x → (is_rate x ≡ true) × (khz ≡ khz_of x)
rated x khz r e h = given-khz x khz (was (ap rate_answer e) h)

-- rows 1 to 5 leave the settings
tunable : (s : Settings) (khz : ℕ) (r : Option ℕ) (whole low : Bool) → s.ddc_count ≡ 1 → s.center_count ≡ 1 → r ≡ Some khz → rate_answer r ≡ rate_told s.sample_rate_hz
    → whole ≡ whole_centre s.center_freq_hz → whole ≡ true → low ≡ below_nyquist s.center_freq_hz → low ≡ true → Tunable s
tunable s khz r whole low one two e h w wt b bt =
    record { receivers = one; centres = two; rate = (rated s.sample_rate_hz khz r e h).0; whole = was w wt; below = was b bt }

pub returns-then-s-ne1 : goal.returns-then-s-ne1
returns-then-s-ne1 c = sym (past c.args.s 0 tt ∙ pick-t _ _ _ (ap not (ne_eqb _ 1 c.if-s-ne1.true)))

pub returns-then-s-ne1-2 : goal.returns-then-s-ne1-2
returns-then-s-ne1-2 c = sym (past c.args.s 1 (one c.if-s-ne1.false, tt) ∙ pick-t _ _ _ (ap not (ne_eqb _ 1 c.if-s-ne1-2.true)))

pub returns-in_err-khz : goal.returns-in_err-khz
returns-in_err-khz c =
    let n : c.rate_khz.result ≡ None = grind (arith, common_steps) in
    let e : c.from_residual.result ≡ Err Rate = grind (arith, common_steps) in
    let unrated = refused-rate c.args.s.sample_rate_hz (was (ap rate_answer n) c.rate_khz.ensures) in
    rw e (sym (past c.args.s 2 (one c.if-s-ne1.false, (one c.if-s-ne1-2.false, tt)) ∙ pick-t _ _ _ (ap not unrated)))

pub returns-then-not-whole_centre : goal.returns-then-not-whole_centre
returns-then-not-whole_centre c =
    let k : c.rate_khz.result ≡ Some c.in_ok-khz.khz = grind (arith, common_steps) in
    sym (row-4 c.args.s c.if-s-ne1.false c.if-s-ne1-2.false (rated _ _ _ k c.rate_khz.ensures).0 (was c.whole_centre.ensures c.if-not-whole_centre.true))

pub returns-then-not-below_nyquist : goal.returns-then-not-below_nyquist
returns-then-not-below_nyquist c =
    let k : c.rate_khz.result ≡ Some c.in_ok-khz.khz = grind (arith, common_steps) in
    let whole = was c.whole_centre.ensures c.if-not-whole_centre.false in
    let high = was c.below_nyquist.ensures c.if-not-below_nyquist.true in
    sym
    (past c.args.s 4 (one c.if-s-ne1.false, (one c.if-s-ne1-2.false, (ap not (rated _ _ _ k c.rate_khz.ensures).0, (ap not whole, tt))))
    ∙ pick-t _ _ _ (ap not high))

pub returns-then-s-eq0 : goal.returns-then-s-eq0
returns-then-s-eq0 c =
    let k : c.rate_khz.result ≡ Some c.in_ok-khz.khz = grind (arith, common_steps) in
    sym (row-19 c.args.s (tunable c.args.s _ _ _ _ c.if-s-ne1.false c.if-s-ne1-2.false k c.rate_khz.ensures c.whole_centre.ensures c.if-not-whole_centre.false c.below_nyquist.ensures c.if-not-below_nyquist.false) c.if-s-eq0.true)

pub returns-then-s-gt-MAX_PORT : goal.returns-then-s-gt-MAX_PORT
returns-then-s-gt-MAX_PORT c =
    let k : c.rate_khz.result ≡ Some c.in_ok-khz.khz = grind (arith, common_steps) in
    sym (row-6 c.args.s (tunable c.args.s _ _ _ _ c.if-s-ne1.false c.if-s-ne1-2.false k c.rate_khz.ensures c.whole_centre.ensures c.if-not-whole_centre.false c.below_nyquist.ensures c.if-not-below_nyquist.false) c.if-s-gt-MAX_PORT.true)

pub returns : goal.returns
returns c =
    let k : c.rate_khz.result ≡ Some c.in_ok-khz.khz = grind (arith, common_steps) in
    let set = c.if-s-eq0.false in
    let t = tunable c.args.s _ _ _ _ c.if-s-ne1.false c.if-s-ne1-2.false k c.rate_khz.ensures c.whole_centre.ensures c.if-not-whole_centre.false c.below_nyquist.ensures c.if-not-below_nyquist.false in
    ap (λ (khz : ℕ). gives (khz ∷ [])) (rated _ _ _ k c.rate_khz.ensures).1
    ∙ sym (plain-accepted c.args.s (record { tunable = t; lowest = omega arith; highest = c.if-s-gt-MAX_PORT.false }))

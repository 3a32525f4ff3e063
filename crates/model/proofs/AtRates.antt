-- What follows from the rate of accepted settings, by the laws of a whole rate: no rate is named. Assumes nothing.
use Rattle.std.proofs.Common.{ℕ, ◌+◌, ◌-◌, ◌*◌, ◌/◌, ◌^◌, ◌<◌, ◌≤◌, Bool, T, sym, ap, subst, le_trans, mul-le-mul, mul-pos, arith, lit<, lit≤}
use lib.Ieee.{Float}
use Rattle.base.specs.Pick.{pick}
use Rattle.stream.specs.Size.{per_datagram}
use Rattle.stream.specs.Elapsed.{restart_missing}
use Rattle.stream.specs.Rated.{Rated}
use Rattle.stream.proofs.Rates.{rated}
use Rattle.tuning.specs.Rate.{is_rate, khz_of}
use Rattle.tuning.proofs.Rates.{rate-whole, rate-most, khz-some, khz-fits}
use Rattle.model.specs.Rules.{added, pending_after}
use Rattle.model.specs.Parts.{with_missing, with_discontinuity}
use Rattle.model.specs.Settings.{accepts}
use Rattle.model.specs.AtRate.{hz_of, AtRate}
use Rattle.model.specs.declared.settings.Settings.{Settings}
use Rattle.model.proofs.Rows.{accepted-plain}

module _ (rate : Float) (t : T (is_rate rate)) where
  rated-here : Rated rate (hz_of rate)
  rated-here = rated rate (hz_of rate) (rate-whole rate t) (mul-pos (khz-some rate t) (lit< tt)) (few (khz_of rate) (khz-fits rate t))
    where
      few : (khz : ℕ) → khz < 65536 → khz * 1000 ≤ 1000000000
      few khz h = omega arith

  pub rate-follows : AtRate rate
  unfolding pending_after
  rate-follows =
      record {
        whole = rate-whole rate t;
        field = khz-fits rate t;
        rated = rated-here;
        gap = λ k p h. ap (λ (b : Bool). pick b (with_missing p (added p.missing (per_datagram * k))) (with_discontinuity p (added p.discontinuity (per_datagram * k)))) (rated-here.half k h);
      }

  -- at no reading is a restart's missing more than two samples from the whole-number formula
  pub within-two : (ns : ℕ) (h : ns < 2 ^ 64)
      → let n = (rate-follows.rated.restart ns h).samples - per_datagram in (n ≤ restart_missing ns rate + 2) × (restart_missing ns rate ≤ n + 2)
  within-two ns h =
      let o = rate-follows.rated.restart ns h in
      let l : (ns / 1000000000 + 1) * hz_of rate ≤ 2 ^ 55 = le_trans (mul-le-mul (seconds ns h) (rate-most rate t)) (lit≤ tt) in
      (o.least 1 (lit≤ tt) l, o.most 1 (lit≤ tt) l)
    where
      seconds : (ns : ℕ) → ns < 18446744073709551616 → ns / 1000000000 + 1 ≤ 18446744074
      seconds ns h = omega arith

-- the settings' rate
pub at-rate : (s : Settings) → T (accepts s) → AtRate s.sample_rate_hz
at-rate s ok = rate-follows s.sample_rate_hz (subst T (sym (accepted-plain s ok).tunable.rate) tt)

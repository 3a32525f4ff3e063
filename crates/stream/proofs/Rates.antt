-- What a whole rate gives: the claim, of every rate from one sample a second to one a nanosecond. Assumes nothing.
use Rattle.std.proofs.Common.{ℕ, ◌<◌, ◌≤◌, false, lt_of_le_of_lt, lit<}
use lib.Ieee.{Float}
use lib.Ieee.Exact.{HasValue}
use Rattle.stream.specs.Rated.{Rated}
use Rattle.stream.proofs.Halves.{half-line}
use Rattle.stream.proofs.Jumps.{limit, limit-rises}
use Rattle.stream.proofs.Restarts.{outage, restart-rises}
use Rattle.stream.proofs.Times.{account, account-rises, covered, covered-rises}

pub rated : (rate : Float) (r : ℕ) → HasValue rate false r 1 → 0 < r → r ≤ 1000000000 → Rated rate r
rated rate r v some few =
    record {
      half = λ k h. half-line k r rate h (lt_of_le_of_lt few (lit< tt)) v;
      limit = limit rate r v some few;
      limit_rises = limit-rises rate r v some few;
      restart = outage rate r v some few;
      restart_rises = restart-rises rate r v some few;
      account = account rate r v some few;
      account_rises = account-rises rate r v some few;
      covered = covered rate r v some few;
      covered_rises = covered-rises rate r v some few;
    }

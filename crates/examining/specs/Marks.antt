-- A session and its account, opened, after a call, and where the account is told. Definitions only.
use Rattle.std.specs.Prelude.{is_ok, ⊤, ℕ, ◌≡◌, Bool, true, false, List, length, Float, Result, Ok, Err, IfOk, IfErr}
use Rattle.encoding.specs.declared.check.ListError.{ListError}
use Rattle.base.specs.Pick.{pick}
use Rattle.model.specs.Settings.{settings_told, settings_number, accepts}
use Rattle.model.specs.Open.{opened}
use Rattle.model.specs.State.{State, left}
use Rattle.health.specs.Counters.{loss_total}
use Rattle.encoding.specs.Words.{words_at}
use Rattle.encoding.specs.Lists.{Lent}
use Rattle.answers.specs.Code.{answer_in}
use Rattle.opening.specs.Refusal.{number_of}
use Rattle.replay.specs.Runs.{Carries}
use Rattle.tally.specs.Table.{Noted, empty, fitting}
use Rattle.marking.specs.Noting.{note_of, table_of}
use Rattle.model.specs.declared.session.Session.{Session}
use Rattle.model.specs.declared.settings.Settings.{Settings}
use Rattle.tally.specs.declared.account.Account.{Account}
use Rattle.tally.specs.declared.rows.End.{End}
use Rattle.examining.specs.declared.sitting.Sitting.{Sitting}
use Rattle.examining.specs.declared.sitting.Unmarked.{Unmarked}
use Rattle.examining.specs.declared.sitting.Unmarked.TheVariants.{NotRun, Full}
use Rattle.examining.specs.declared.sitting.Unseated.{Unseated}

-- what Open gives, and nothing noted
abbrev pub just_opened : Settings → ℕ → Sitting
just_opened s opening = record { session = opened s opening; account = empty }

-- that, or the row of the settings that applies, with it beside
pub record Sits (r : Result Sitting Unseated) (s : Settings) (opening : ℕ) : Type 0 where
  pub opens : IfOk r (λ x. x ≡ just_opened s opening)
  pub accepted : is_ok r ≡ accepts s
  pub refused : IfErr r (λ u. settings_number u.error ≡ number_of (settings_told s))
  pub closed : IfErr r (λ u. u.closed ≡ just_opened s opening)

-- what became of a call: whether it was run, and noted
abbrev pub ran : Result ⊤ Unmarked → Result ⊤ ListError
ran (Ok u) = Ok tt
ran (Err Full) = Ok tt
ran (Err (NotRun e)) = Err e

abbrev pub fits : Result ⊤ Unmarked → Bool
fits (Ok u) = true
fits (Err Full) = false
fits (Err (NotRun e)) = true

-- what is noted of a call that was run, from its numbers and its answer's; of one that was not, nothing
unfoldable pub note_run : Result ⊤ ListError → Account → Lent → List ℕ → Noted
note_run outcome a l answers = pick (is_ok outcome) (note_of a (words_at l.calls 0) l.octets (answer_in answers)) (fitting a)

unfoldable pub table_run : Result ⊤ ListError → List ℕ → Account → Lent → List ℕ → List ℕ
table_run outcome t a l answers = pick (is_ok outcome) (table_of t a (words_at l.calls 0) l.octets (answer_in answers)) t

pub record Rooms (l : Lent) (answers : ℕ) : Type 0 where
  pub octets : length l.octets ≡ 2048
  pub numbers : length l.numbers ≡ 8193
  pub packets : length l.packets ≡ 8192
  pub places : length l.places ≡ 1024
  pub answer : answers ≡ 8

-- the session, the answer and the lent buffers after a call are those of the run of the list that it is (replay, Runs)
-- of a call that was run, by its numbers, its datagram and its answer's numbers
pub record Notes (r : Result ⊤ Unmarked) (call octets answers : List ℕ) (a a' : Account) (t t' : List ℕ) : Type 0 where
  pub run : ran r ≡ Ok tt
  pub account : record { account = a'; fits = fits r } ≡ note_of a (words_at call 0) octets (answer_in answers)
  pub table : t' ≡ table_of t a (words_at call 0) octets (answer_in answers)

pub record Marks (r : Result ⊤ Unmarked) (st : State) (l : Lent) (a a' : Account) (answers₀ answers packets : List ℕ) (places : List Float) (st' : State)
    (t t' : List ℕ) : Type 0 where
  -- one call, and the rooms that are lent for it
  pub one : length l.calls ≡ 8
  pub lent : Rooms l (length answers₀)
  pub carries : Carries (ran r) st l answers₀ answers packets places st'
  pub account : record { account = a'; fits = fits r } ≡ note_run (ran r) a l answers
  pub table : t' ≡ table_run (ran r) t a l answers

-- what is told of the session with its account: the pairs that wait, its counters, its loss total
abbrev pub end_of : Session → End
end_of s =
    record {
      waiting = left s.receiver;
      dropped = s.common.health.dropped_packets;
      gaps = s.common.health.gaps_detected;
      malformed = s.common.health.malformed_packets;
      loss = loss_total s.common.health;
    }

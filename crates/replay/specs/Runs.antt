-- What the run of a list of calls leaves. Definitions only.
use Rattle.std.specs.Prelude.{is_ok, ⊤, ℕ, ◌≡◌, List, [], ◌∷◌, ◌++◌, length, Float, Result, Ok}
use Rattle.encoding.specs.declared.check.ListError.{ListError}
use Rattle.base.specs.Pick.{pick}
use Rattle.octets.specs.Written.{written}
use Rattle.model.specs.Host.{Reply, Host, trace, final}
use Rattle.model.specs.State.{State}
use Rattle.model.specs.Session.{session}
use Rattle.answers.specs.Code.{numbers_in}
use Rattle.encoding.specs.Lists.{Lent, decoded, outcome_of}

-- the session as a host; what is lent beside it at first makes no difference to its calls
abbrev pub host : Host
host = session []

-- what f reads off each reply, one after another
abbrev pub all : {A : Type 0} → (Reply → List A) → List Reply → List A
all f [] = []
all f (r ∷ rs) = f r ++ all f rs

abbrev pub packets_in : Reply → List ℕ
packets_in r = r.packets

abbrev pub buffer_in : Reply → List Float
buffer_in r = r.buffer

pub record Left : Type 0 where
  pub outcome : Result ⊤ ListError
  pub answers : List ℕ
  pub packets : List ℕ
  pub places : List Float
  pub state : State

-- every answer; every packet and sample in its call's own part, and what follows the last part as it was
abbrev pub all_run : State → Lent → Left
all_run st l =
    let rs = trace host st (decoded l) in
    record {
      outcome = Ok tt;
      answers = all numbers_in rs;
      packets = written l.packets 0 (all packets_in rs);
      places = written l.places 0 (all buffer_in rs);
      state = final host st (decoded l);
    }

abbrev pub untouched : Result ⊤ ListError → State → Lent → List ℕ → Left
untouched outcome st l answers = record { outcome = outcome; answers = answers; packets = l.packets; places = l.places; state = st }

-- from any state
unfoldable pub carried : State → Lent → List ℕ → Left
carried st l answers =
    let outcome = outcome_of l (length answers) in
    pick (is_ok outcome) (all_run st l) (untouched outcome st l answers)

-- what the code left
pub record Carries (outcome : Result ⊤ ListError) (st : State) (l : Lent) (answers₀ answers packets : List ℕ) (places : List Float) (st' : State) : Type 0 where
  pub leaves : record { outcome = outcome; answers = answers; packets = packets; places = places; state = st' } ≡ carried st l answers₀

-- and of a list that was run
pub record RunsAll (st : State) (l : Lent) (answers packets : List ℕ) (places : List Float) (st' : State) : Type 0 where
  pub leaves : record { outcome = Ok tt; answers = answers; packets = packets; places = places; state = st' } ≡ all_run st l

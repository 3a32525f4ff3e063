-- A list run from a session just opened: what it leaves, and demand 3's account of what it wrote. Definitions only.
use Rattle.std.specs.Prelude.{⊤, ℕ, zero, suc, ◌+◌, ◌*◌, ◌/◌, ◌≡◌, List, [], ◌∷◌, length, get_or, drop, Float, ℤ, pos, Result, Ok, Err}
use Rattle.encoding.specs.declared.check.ListError.{ListError}
use Rattle.encoding.specs.declared.check.ListError.TheVariants.{NotOpened}
use Rattle.model.specs.declared.settings.SettingsError.{SettingsError}
use Rattle.base.specs.Pick.{pick}
use Rattle.model.specs.Host.{Call, Reply}
use Rattle.model.specs.Settings.{settings_answer, settings_told, accepts}
use Rattle.model.specs.State.{State, waiting_in}
use Rattle.model.specs.Open.{unopened}
use Rattle.model.specs.Session.{opened_with}
use Rattle.account.specs.Ledger.{Sent}
use Rattle.account.specs.Demand3.{Account}
use Rattle.model.specs.declared.settings.Settings.{Settings}
use Rattle.model.specs.Gives.{joined}
use Rattle.encoding.specs.Words.{words_at, taken_by, nothing}
use Rattle.answers.specs.Code.{answer_in, streams_in}
use Rattle.encoding.specs.Lists.{Lent, part, taken_with, decoded}
use Rattle.replay.specs.Runs.{Left, untouched, carried}
use Rattle.encoding.specs.declared.words.Amounts.{Amounts}

-- ---- what it wrote, read back

-- the i-th reply: its eight numbers, and its call's own parts of the buffers
abbrev pub reply_at : List ℕ → ℕ → Amounts → List ℕ → List ℕ → List Float → Reply
reply_at calls i taken answers packets places =
    let n = taken_by (words_at calls (8 * i)) in
    record {
      answer = answer_in (part (8 * i) 8 answers);
      streams = streams_in (part (8 * i) 8 answers);
      packets = part taken.packets n.packets packets;
      buffer = part taken.places n.places places;
    }

unfoldable pub replies_from : List ℕ → ℕ → ℕ → Amounts → List ℕ → List ℕ → List Float → List Reply
replies_from calls zero i taken answers packets places = []
replies_from calls (suc k) i taken answers packets places =
    reply_at calls i taken answers packets places ∷ replies_from calls k (i + 1) (taken_with calls i taken) answers packets places

abbrev pub replies_in : List ℕ → List ℕ → List ℕ → List Float → List Reply
replies_in calls answers packets places = replies_from calls (length calls / 8) 0 nothing answers packets places

-- the calls, each with a whole number, the i-th of the list; 0 past its end
abbrev pub numbered : List Call → List ℤ → List Sent
numbered [] ns = []
numbered (c ∷ cs) ns = record { call = c; number = get_or ns 0 (pos 0) } ∷ numbered cs (drop 1 ns)

-- ---- from a session just opened

-- where the settings are refused nothing is run, and the session is the one beside a refusal
unfoldable pub replayed : Settings → ℕ → List Float → Lent → List ℕ → Left
replayed s opening samples l answers =
    pick (accepts s) (carried (opened_with samples s opening) l answers) (untouched (Err NotOpened) (joined unopened samples) l answers)

pub record Replays (s : Settings) (opening : ℕ) (answer : Result ℕ SettingsError) (outcome : Result ⊤ ListError) (samples : List Float) (l : Lent) (answers₀ answers packets : List ℕ)
    (places : List Float) (st : State) : Type 0 where
  pub opens : settings_answer answer ≡ settings_told s
  pub leaves : record { outcome = outcome; answers = answers; packets = packets; places = places; state = st } ≡ replayed s opening samples l answers₀
  -- demand 3, for every numbering of the calls
  pub account : outcome ≡ Ok tt → (numbers : List ℤ)
      → Account s opening (numbered (decoded l) numbers) (replies_in l.calls answers packets places) (waiting_in st.session.receiver st.samples)

-- What `sit` and `mark` return, from what their parts were promised. Assumes nothing.
use Rattle.std.specs.Prelude.{is_ok, ⊤, Result, Ok, Err}
use Rattle.encoding.specs.declared.check.ListError.{ListError}
use Rattle.model.specs.declared.settings.SettingsError.{SettingsError}
use Prim.Native.Nat.{ℕ}
use mathlib.Core.Path.{◌≡◌, refl, sym, ap, subst, ◌∙◌}
use mathlib.Core.Bool.{Bool, true, false}
use mathlib.Core.List.{List}
use lib.ListN.{length}
use lib.Ieee.{Float}
use Rattle.base.proofs.Picks.{pick-t}
use Rattle.model.specs.Settings.{settings_answer, is_given, accepts}
use Rattle.model.specs.State.{State}
use Rattle.model.specs.declared.session.Session.{Session}
use Rattle.model.specs.declared.settings.Settings.{Settings}
use Rattle.opening.specs.Opens.{Opens}
use Rattle.opening.specs.Refusal.{number_of}
use Rattle.encoding.specs.Words.{words_at}
use Rattle.encoding.specs.Lists.{Lent}
use Rattle.answers.specs.Code.{answer_in}
use Rattle.replay.specs.Runs.{Carries}
use Rattle.tally.specs.Table.{empty}
use Rattle.marking.specs.Noting.{note_of, table_of}
use Rattle.tally.specs.declared.account.Account.{Account}
use Rattle.tally.specs.declared.account.Full as tally
use Rattle.base.specs.Pick.{pick}
use Rattle.model.specs.Open.{opened}
use Rattle.examining.specs.Marks.{just_opened, Sits, ran, Notes, note_run, table_run, Rooms, Marks}
use Rattle.examining.specs.declared.sitting.Sitting.{Sitting}
use Rattle.examining.specs.declared.sitting.Unmarked.{Unmarked}
use Rattle.examining.specs.declared.sitting.Unmarked.TheVariants.{NotRun, Full}

-- ---- opened

module _ (s : Settings) (opening : ℕ) (answer : Result ℕ SettingsError) (x : Session) (o : Opens (record { answer = answer; session = x }) s opening) where
  beside : (a : Account) → a ≡ empty → ◌≡◌ {A = Sitting} (record { session = x; account = a }) (just_opened s opening)
  beside a h = ap (λ (y : Session). record { session = y; account = a }) o.leaves ∙ ap (λ (b : Account). record { session = opened s opening; account = b }) h

  pub sits : (khz : ℕ) → answer ≡ Ok khz → (a : Account) → a ≡ empty → Sits (Ok (record { session = x; account = a })) s opening
  unfolding accepts
  sits khz e a h =
      record {
        opens = beside a h;
        accepted = sym (ap is_given (sym o.answers) ∙ ap (λ (r : Result ℕ SettingsError). is_given (settings_answer r)) e);
        refused = tt;
        closed = tt;
      }

  pub refuses : (e : SettingsError) → answer ≡ Err e → (a : Account) → a ≡ empty → Sits (Err (record { error = e; closed = record { session = x; account = a } })) s opening
  unfolding accepts
  refuses e h a n =
      record {
        opens = tt;
        accepted = sym (ap is_given (sym o.answers) ∙ ap (λ (r : Result ℕ SettingsError). is_given (settings_answer r)) h);
        refused = ap (λ (r : Result ℕ SettingsError). number_of (settings_answer r)) (sym h) ∙ ap number_of o.answers;
        closed = beside a n;
      }

-- ---- a call

module _ (st : State) (l : Lent) (a : Account) (answers₀ answers packets : List ℕ) (places : List Float) (st' : State) (t : List ℕ) (one : length l.calls ≡ 8)
    (lent : Rooms l (length answers₀)) where
  carried-as : (r s : Result ⊤ ListError) → r ≡ s → Carries r st l answers₀ answers packets places st' → Carries s st l answers₀ answers packets places st'
  carried-as r s e c = subst (λ (o : Result ⊤ ListError). Carries o st l answers₀ answers packets places st') e c

  pub not-run : (outcome : Result ⊤ ListError) (e : ListError) → outcome ≡ Err e → Carries outcome st l answers₀ answers packets places st'
      → Marks (Err (NotRun e)) st l a a answers₀ answers packets places st' t t
  unfolding note_run table_run pick
  not-run outcome e h c = record { one = one; lent = lent; carries = carried-as outcome (Err e) h c; account = refl; table = refl }

  pub was_run : (outcome : Result ⊤ ListError) {u : ⊤} → outcome ≡ Ok u → (r : Result ⊤ Unmarked) (a' : Account) (t' : List ℕ)
      → Carries outcome st l answers₀ answers packets places st' → Notes r l.calls l.octets answers a a' t t' → Marks r st l a a' answers₀ answers packets places st' t t'
  unfolding note_run table_run
  was_run outcome h r a' t' c n =
      let f = ap is_ok n.run in
      record {
        one = one;
        lent = lent;
        carries = carried-as outcome (ran r) (h ∙ sym n.run) c;
        account = n.account ∙ sym (pick-t _ _ _ f);
        table = n.table ∙ sym (pick-t _ _ _ f);
      }

-- what `note` answered
module _ (a a' : Account) (call octets answers t t' : List ℕ) (n : Result ⊤ tally.Full)
    (v : record { account = a'; fits = is_ok n } ≡ note_of a (words_at call 0) octets (answer_in answers))
    (f : t' ≡ table_of t a (words_at call 0) octets (answer_in answers)) where
  fits-so : (b : Bool) → is_ok n ≡ b → record { account = a'; fits = b } ≡ note_of a (words_at call 0) octets (answer_in answers)
  fits-so b e = ap (λ (y : Bool). record { account = a'; fits = y }) (sym e) ∙ v

  pub note-fits : {u : ⊤} → n ≡ Ok u → Notes (Ok tt) call octets answers a a' t t'
  note-fits e = record { run = refl; account = fits-so true (ap is_ok e); table = f }

  pub note-full : {e : tally.Full} → n ≡ Err e → Notes (Err Full) call octets answers a a' t t'
  note-full e = record { run = refl; account = fits-so false (ap is_ok e); table = f }

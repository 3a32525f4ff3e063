-- A list run in parts is the list run whole, and demand 3 holds of what was written. Assumes nothing.
use Rattle.std.specs.Prelude.{is_ok, ⊤, Result, Ok, Err}
use Rattle.encoding.specs.declared.check.ListError.{ListError}
use Rattle.encoding.specs.declared.check.ListError.TheVariants.{NotOpened, Lengths, NoCall, NoRoom}
use Prim.Native.Nat.{ℕ}
use mathlib.Core.Path.{◌≡◌, refl, sym, ap, subst, ◌∙◌}
use mathlib.Core.Bool.{Bool, true, false}
use mathlib.Core.List.{List, [], ◌∷◌, ◌++◌}
use lib.ListN.{length, drop}
use lib.Dec.{T}
use lib.Ieee.{Float}
use lib.IntN.{ℤ}
use native.Mathlib.Omega.{arith}
use Rattle.base.proofs.Picks.{pick-t, pick-f}
use Rattle.model.specs.Host.{Call, Reply, trace, final}
use Rattle.model.specs.Settings.{accepts}
use Rattle.model.specs.State.{State, waiting_in}
use Rattle.model.specs.Session.{step, opened_with, session}
use Rattle.account.specs.Ledger.{calls_of}
use Rattle.account.specs.Demand3.{Account}
use Rattle.model.proofs.Traces.{trace-append, final-append}
use Rattle.account.proofs.Demand3.{demand3}
use Rattle.model.specs.declared.settings.Settings.{Settings}
use Rattle.encoding.specs.Lists.{Lent, decoded, outcome_of}
use Rattle.replay.specs.Runs.{host, Left, all_run, carried, Carries}
use Rattle.replay.specs.Replay.{replies_in, numbered}
use Rattle.replay.specs.Chunks.{Runs}
use Rattle.encoding.proofs.Checks.{lengths}
use Rattle.replay.proofs.ReadBack.{read_back}

-- a run of a ++ b is the run of b after the run of a
pub runs_append : (st mid end : State) (a b : List Call) (ra rb : List Reply) → Runs st a ra mid → Runs mid b rb end → Runs st (a ++ b) (ra ++ rb) end
runs_append st mid end a b ra rb x y =
    record {
      outcome = rw (x.outcome, y.outcome, x.left) (sym (trace-append host st a b));
      left = y.left ∙ ap (λ (s : State). final host s b) x.left ∙ sym (final-append host st a b);
    }

-- what is lent beside a session at first makes no difference to its calls
pub trace-any : (samples : List Float) (st : State) (cs : List Call) → trace (session samples) st cs ≡ trace host st cs
trace-any samples st [] = refl
trace-any samples st (c ∷ cs) = ap (λ (l : List Reply). (step st c).reply ∷ l) (trace-any samples (step st c).state cs)

pub final-any : (samples : List Float) (st : State) (cs : List Call) → final (session samples) st cs ≡ final host st cs
final-any samples st [] = refl
final-any samples st (c ∷ cs) = final-any samples (step st c).state cs

pub calls-of : (cs : List Call) (ns : List ℤ) → calls_of (numbered cs ns) ≡ cs
calls-of [] ns = refl
calls-of (c ∷ cs) ns = ap (λ (l : List Call). c ∷ l) (calls-of cs (drop 1 ns))

-- demand 3 of a run from a session just opened, in however many parts, for every numbering
pub runs-account : (s : Settings) (opening : ℕ) (samples : List Float) (cs : List Call) (rs : List Reply) (st : State) → T (accepts s) → length samples ≡ 476
    → Runs (opened_with samples s opening) cs rs st → (numbers : List ℤ) → Account s opening (numbered cs numbers) rs (waiting_in st.session.receiver st.samples)
runs-account s opening samples cs rs st ok size r numbers =
    let st₀ = opened_with samples s opening in
    let n = numbered cs numbers in
    let t : rs ≡ trace (session samples) st₀ (calls_of n) =
    r.outcome ∙ sym (trace-any samples st₀ cs) ∙ ap (trace (session samples) st₀) (sym (calls-of cs numbers)) in
    let f : st ≡ final (session samples) st₀ (calls_of n) =
    r.left ∙ sym (final-any samples st₀ cs) ∙ ap (final (session samples) st₀) (sym (calls-of cs numbers)) in
    subst (λ (y : List Reply). Account s opening n y (waiting_in st.session.receiver st.samples)) (sym t)
    (subst (λ (y : State). Account s opening n (trace (session samples) st₀ (calls_of n)) (waiting_in y.session.receiver y.samples)) (sym f)
    (demand3 samples size s opening n ok))

-- ---- what the code left

pub ran-is : (t : Result ⊤ ListError) → is_ok t ≡ true → t ≡ Ok tt
ran-is (Ok u) h = refl
ran-is (Err NotOpened) h = let z : ◌≡◌ {A = ℕ} 0 1 = cc in absurd (omega arith)
ran-is (Err Lengths) h = let z : ◌≡◌ {A = ℕ} 0 1 = cc in absurd (omega arith)
ran-is (Err (NoCall i)) h = let z : ◌≡◌ {A = ℕ} 0 1 = cc in absurd (omega arith)
ran-is (Err (NoRoom i)) h = let z : ◌≡◌ {A = ℕ} 0 1 = cc in absurd (omega arith)

module _ (outcome : Result ⊤ ListError) (st : State) (l : Lent) (answers₀ answers packets : List ℕ) (places : List Float) (st' : State)
    (c : Carries outcome st l answers₀ answers packets places st') (e : outcome ≡ Ok tt) where
  -- it was run
  fine-list : outcome_of l (length answers₀) ≡ Ok tt
  unfolding carried
  fine-list = go (is_ok (outcome_of l (length answers₀))) refl
    where
      go : (b : Bool) → is_ok (outcome_of l (length answers₀)) ≡ b → outcome_of l (length answers₀) ≡ Ok tt
      go true h = ran-is _ h
      go false h =
          sym (ap (λ (x : Left). x.outcome) (c.leaves ∙ pick-f _ _ _ h)) ∙ e

  all_left : record { outcome = outcome; answers = answers; packets = packets; places = places; state = st' } ≡ all_run st l
  unfolding carried
  all_left = c.leaves ∙ pick-t _ _ _ (ap is_ok fine-list)

  pub carries-runs : Runs st (decoded l) (replies_in l.calls answers packets places) st'
  carries-runs =
      record {
        outcome =
            read_back l st answers packets places (lengths l (length answers₀) fine-list).2 (ap (λ (x : Left). x.answers) all_left)
            (ap (λ (x : Left). x.packets) all_left)
            (ap (λ (x : Left). x.places) all_left);
        left = ap (λ (x : Left). x.state) all_left;
      }

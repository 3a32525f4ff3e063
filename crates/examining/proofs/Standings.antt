-- An account stands when a session is opened, after each call that is run and noted, and is demand 3's. Assumes nothing.
use Rattle.std.specs.Prelude.{is_ok, ⊤, Result, Ok}
use Prim.Native.Nat.{ℕ, ◌+◌, ◌*◌, ◌/◌, ◌%◌, ◌^◌}
use mathlib.Core.Path.{◌≡◌, refl, sym, ap, subst, ◌∙◌}
use mathlib.Core.Bool.{true}
use mathlib.Core.List.{List, [], ◌∷◌, ◌++◌, append-nil, append_assoc}
use lib.ListN.{length, get_or}
use lib.Seq.{get_or-take}
use lib.Dec.{T}
use lib.Ieee.{Float}
use lib.IntN.{ℤ}
use native.Mathlib.Omega.{arith}
use Rattle.base.proofs.Picks.{pick-t}
use Rattle.model.specs.Answer.{Answer}
use Rattle.model.specs.Settings.{accepts}
use Rattle.model.specs.Host.{Call, Reply, trace, final}
use Rattle.model.specs.State.{State, left, waiting_in}
use Rattle.model.specs.Session.{step, opened_with, session}
use Rattle.model.specs.declared.settings.Settings.{Settings}
use Rattle.account.specs.Ledger.{calls_of}
use Rattle.encoding.specs.Words.{words_at, taken_by, nothing}
use Rattle.encoding.specs.Lists.{Lent, part, call_at, calls_from, decoded}
use Rattle.answers.specs.Code.{answer_of, answer_in}
use Rattle.replay.specs.Runs.{host}
use Rattle.replay.specs.Replay.{reply_at, replies_from, replies_in, numbered}
use Rattle.replay.specs.Chunks.{Runs}
use Rattle.replay.proofs.Chunks.{runs_append, trace-any, final-any, calls-of, carries-runs}
use Rattle.tally.specs.Stretches.{noted_all}
use Rattle.tally.specs.Table.{Noted, most_stretches, empty, ending_in, stretches_of}
use Rattle.marking.specs.Records.{record_of, pairs_of, records_of, pairs_in, stretches_told}
use Rattle.marking.specs.Key.{Key}
use Rattle.marking.specs.Noting.{note_of, table_of}
use Rattle.marking.proofs.Calls.{note-after, table-size}
use Rattle.marking.proofs.Whole.{key}
use Rattle.tally.specs.declared.record.Record.{Record}
use Rattle.tally.specs.declared.stretch.Stretch.{Stretch}
use Rattle.tally.specs.declared.account.Account.{Account}
use Rattle.examining.specs.Marks.{ran, fits, note_run, table_run, Marks}
use Rattle.examining.specs.Stands.{Stands}
use Rattle.examining.specs.declared.sitting.Unmarked.{Unmarked}

-- ---- opened

pub opened-stands : (s : Settings) (opening : ℕ) (samples : List Float) (t : List ℕ) → T (accepts s) → length samples ≡ 476 → length t ≡ 7 * most_stretches
    → Stands (opened_with samples s opening) t empty
unfolding ending_in
opened-stands s opening samples t ok size places =
    record {
      settings = s;
      opening = opening;
      lent = samples;
      calls = [];
      replies = [];
      accepted = ok;
      size = size;
      places = places;
      runs = record { outcome = refl; left = refl };
      stretches = refl;
      handed = refl;
    }

-- ---- what is kept of a list is kept of its parts

append-records : (xs ys : List Record) (ss : List Stretch) → noted_all ss (xs ++ ys) ≡ noted_all (noted_all ss xs) ys
append-records [] ys ss = refl
append-records (x ∷ xs) ys ss = append-records xs ys (noted_all ss (x ∷ []))

module _ (c : Call) (r : Reply) where
  records-then : (st : State) (cs : List Call) → records_of (cs ++ (c ∷ [])) (trace host st cs ++ (r ∷ [])) ≡ records_of cs (trace host st cs) ++ record_of c r.answer
  records-then st [] = append-nil (record_of c r.answer)
  records-then st (d ∷ cs) =
      ap (λ (l : List Record). record_of d (step st d).reply.answer ++ l) (records-then (step st d).state cs)
      ∙ sym (append_assoc (record_of d (step st d).reply.answer) (records_of cs (trace host (step st d).state cs)) (record_of c r.answer))

  pairs-then : (st : State) (cs : List Call) → pairs_in (cs ++ (c ∷ [])) (trace host st cs ++ (r ∷ [])) ≡ pairs_in cs (trace host st cs) + pairs_of c r.answer
  pairs-then st [] = omega arith
  pairs-then st (d ∷ cs) = let h = pairs-then (step st d).state cs in omega (arith, h)

-- ---- one call more

module _ (st : State) (t : List ℕ) (a : Account) (x : Stands st t a) (c : Call) (r : Reply) (st' : State) (run : Runs st (c ∷ []) (r ∷ []) st')
    (t' : List ℕ) (a' : Account) (places : length t' ≡ 7 * most_stretches)
    (told : stretches_of t' a' ≡ noted_all (stretches_of t a) (record_of c r.answer))
    (handed : a'.handed ≡ (pairs_in x.calls x.replies + pairs_of c r.answer) % 2 ^ 64) where
  abbrev start : State
  start = opened_with x.lent x.settings x.opening

  replies-then : x.replies ++ (r ∷ []) ≡ trace host start x.calls ++ (r ∷ [])
  replies-then = ap (λ (l : List Reply). l ++ (r ∷ [])) x.runs.outcome

  pub stands_on : Stands st' t' a'
  stands_on =
      record {
        settings = x.settings;
        opening = x.opening;
        lent = x.lent;
        calls = x.calls ++ (c ∷ []);
        replies = x.replies ++ (r ∷ []);
        accepted = x.accepted;
        size = x.size;
        places = places;
        runs = runs_append start st st' x.calls (c ∷ []) x.replies (r ∷ []) x.runs run;
        stretches =
            told
            ∙ ap (λ (l : List Stretch). noted_all l (record_of c r.answer)) x.stretches
            ∙ sym (append-records (records_of x.calls x.replies) (record_of c r.answer) [])
            ∙ ap (λ (l : List Reply). noted_all [] (records_of x.calls l ++ record_of c r.answer)) x.runs.outcome
            ∙ ap (noted_all []) (sym (records-then c r start x.calls))
            ∙ ap (λ (l : List Reply). stretches_told (x.calls ++ (c ∷ [])) l) (sym replies-then);
        handed =
            handed
            ∙ ap (λ (l : List Reply). (pairs_in x.calls l + pairs_of c r.answer) % 2 ^ 64) x.runs.outcome
            ∙ ap (λ (n : ℕ). n % 2 ^ 64) (sym (pairs-then c r start x.calls))
            ∙ ap (λ (l : List Reply). pairs_in (x.calls ++ (c ∷ [])) l % 2 ^ 64) (sym replies-then);
      }

-- ---- a list of one call

module _ (l : Lent) (size : length l.calls ≡ 8) where
  one-call : decoded l ≡ call_at l 0 nothing ∷ []
  unfolding calls_from
  one-call = ap (λ (n : ℕ). calls_from l (n / 8) 0 nothing) size

  one-reply : (answers packets : List ℕ) (places : List Float) → replies_in l.calls answers packets places ≡ reply_at l.calls 0 nothing answers packets places ∷ []
  unfolding replies_from
  one-reply answers packets places = ap (λ (n : ℕ). replies_from l.calls (n / 8) 0 nothing answers packets places) size

pub marked-stands : (r : Result ⊤ Unmarked) (st : State) (l : Lent) (a a' : Account) (answers₀ answers packets : List ℕ) (places : List Float) (st' : State) (t t' : List ℕ)
    → Marks r st l a a' answers₀ answers packets places st' t t' → r ≡ Ok tt → Stands st t a → Stands st' t' a'
unfolding note_run table_run
marked-stands r st l a a' answers₀ answers packets places st' t t' m noted x =
    let was-run : ran r ≡ Ok tt = ap ran noted in
    let has_room : fits r ≡ true = ap fits noted in
    let w = words_at l.calls 0 in
    let ans = answer_in answers in
    let e : record { account = a'; fits = fits r } ≡ note_of a w l.octets ans = m.account ∙ pick-t _ _ _ (ap is_ok was-run) in
    let f : t' ≡ table_of t a w l.octets ans = m.table ∙ pick-t _ _ _ (ap is_ok was-run) in
    let runs = carries-runs (ran r) st l answers₀ answers packets places st' m.carries was-run in
    let c = call_at l 0 nothing in
    let y = reply_at l.calls 0 nothing answers packets places in
    let one : Runs st (c ∷ []) (y ∷ []) st' =
    subst (λ (cs : List Call). Runs st cs (y ∷ []) st') (one-call l m.one)
    (subst (λ (rs : List Reply). Runs st (decoded l) rs st') (one-reply l m.one answers packets places) runs) in
    let told : y.answer ≡ ans = cc (ap (λ (v : ℕ). answer_of v (get_or (part 0 8 answers) 1 0)) (get_or-take 8 answers 0 0 (omega arith)), ap (λ (v : ℕ). answer_of (get_or answers 0 0) v) (get_or-take 8 answers 1 0 (omega arith))) in
    let n = note-after t x.places a w l.octets (part 0 (taken_by w).numbers l.numbers) (part 0 (taken_by w).packets l.packets) (part 0 (taken_by w).places l.places) ans (pairs_in x.calls x.replies) in
    stands_on st t a x c y st' one t' a' (ap length f ∙ table-size t a w l.octets ans x.places ∙ x.places)
    (ap (λ (u : List ℕ). stretches_of u a') f
    ∙ ap (λ (b : Noted). stretches_of (table_of t a w l.octets ans) b.account) e
    ∙ n.stretches (sym (ap (λ (b : Noted). b.fits) e) ∙ has_room)
    ∙ ap (λ (z : Answer). noted_all (stretches_of t a) (record_of c z)) (sym told))
    (ap (λ (b : Noted). b.account.handed) e ∙ n.handed x.handed ∙ ap (λ (z : Answer). (pairs_in x.calls x.replies + pairs_of c z) % 2 ^ 64) (sym told))

-- ---- what stands is demand 3's, for every numbering

pub stands-key : (st : State) (t : List ℕ) (a : Account) (x : Stands st t a) (numbers : List ℤ)
    → Key x.settings x.opening (numbered x.calls numbers) x.replies (waiting_in st.session.receiver st.samples) (left st.session.receiver)
stands-key st t a x numbers =
    let st₀ = opened_with x.lent x.settings x.opening in
    let n = numbered x.calls numbers in
    let cs : calls_of n ≡ x.calls = calls-of x.calls numbers in
    let rs : x.replies ≡ trace (session x.lent) st₀ (calls_of n) =
    x.runs.outcome ∙ sym (trace-any x.lent st₀ x.calls) ∙ ap (trace (session x.lent) st₀) (sym cs) in
    let end : st ≡ final (session x.lent) st₀ (calls_of n) =
    x.runs.left ∙ sym (final-any x.lent st₀ x.calls) ∙ ap (final (session x.lent) st₀) (sym cs) in
    subst (λ (y : List Reply). Key x.settings x.opening n y (waiting_in st.session.receiver st.samples) (left st.session.receiver)) (sym rs)
    (subst (λ (y : State). Key x.settings x.opening n (trace (session x.lent) st₀ (calls_of n)) (waiting_in y.session.receiver y.samples) (left y.session.receiver)) (sym end)
    (key x.lent x.size x.settings x.opening n x.accepted))

-- The account of a list of calls is demand 3's: for all accepted settings, opening readings, lists of calls and numberings. Assumes
-- nothing.
use Rattle.std.specs.Prelude.{Option, Some, None}
use Prim.Native.Nat.{ℕ, ◌+◌, ◌%◌, ◌<◌, ◌^◌}
use mathlib.Core.Path.{◌≡◌, refl, sym, ap, subst, ◌∙◌}
use mathlib.Core.Bool.{Bool, true, false, cond}
use mathlib.Core.List.{List, [], ◌∷◌, ◌++◌, map}
use lib.ListN.{length, length-append}
use lib.Dec.{T}
use lib.Ieee.{Float}
use lib.IntN.{ℤ}
use native.Mathlib.Omega.{arith}
use Rattle.base.specs.Each.{Each}
use Rattle.sequence.specs.declared.SeqEvent.{SeqEvent}
use Rattle.sequence.specs.declared.SeqEvent.TheVariants.{Restart}
use Rattle.model.specs.Settings.{accepts}
use Rattle.model.specs.Host.{Reply, trace, final}
use Rattle.model.specs.State.{State, left, waiting_in}
use Rattle.model.specs.Session.{opened_with, session}
use Rattle.model.specs.declared.settings.Settings.{Settings}
use Rattle.account.specs.Whole.{count_of}
use Rattle.account.specs.Book.{blank, limit_in}
use Rattle.account.specs.Ledger.{Sent, calls_of, paired, all_handed_out, Entry, ledger, fitting, late_entry, accepted_in, samples_of, missing_told}
use Rattle.account.specs.Demand3.{Lies, Agrees}
use Rattle.account.proofs.Verdict.{Rules, rules}
use Rattle.account.proofs.Stretches.{verdict_of, first-in, next_of}
use Rattle.account.proofs.Simulate.{accepted-append, samples-append}
use Rattle.account.proofs.Demand3.{demand3, tells_all}
use Rattle.tally.specs.Stretch.{plus_of, Even}
use Rattle.tally.specs.Stretches.{noted_all, no_sums, sums_from, sums_of}
use Rattle.tally.specs.declared.stretch.Stretch.{Stretch}
use Rattle.tally.specs.declared.stretch.Sums.{Sums}
use Rattle.marking.specs.Records.{stretches_told}
use Rattle.marking.specs.Spans.{Span, is_restart, Cut, broken, unbroken, cut, spans_of, arrivals_in, told_of}
use Rattle.marking.specs.Key.{Key}
use Rattle.marking.proofs.Streams.{records-are}
use Rattle.marking.proofs.Spans.{Fact, Chain, chained, stretches-are}
use Rattle.marking.proofs.Splits.{splits, sums-each}
use Rattle.marking.proofs.Handed.{all-sized, pairs-are, waits-are}
use Rattle.marking.proofs.Evens.{spans-bounded, told-evens, arrivals-few}

-- ---- what holds of each arrival holds of the first of each stretch

module _ (P : Entry → Type 0) where
  cut-firsts : (xs : List Entry) → Each P xs → Each (λ (p : Span). P p.first) (cut xs).spans
  cut-firsts [] h = tt
  cut-firsts (x ∷ xs) h = go (is_restart x.says.event) (cut-firsts xs h.1)
    where
      go : (b : Bool) → Each (λ (p : Span). P p.first) (cut xs).spans
          → Each (λ (p : Span). P p.first) (cond {A = Cut} b (broken x (cut xs)) (unbroken x (cut xs))).spans
      go true r = (h.0, r)
      go false r = r

  firsts : (xs : List Entry) → Each P xs → Each (λ (p : Span). P p.first) (spans_of xs)
  firsts [] h = tt
  firsts (x ∷ xs) h = (h.0, cut-firsts xs h.1)

each_counts : (xs : List Entry) → Each Lies xs → Each (λ (x : Entry). count_of x.number ≡ x.count) xs
each_counts [] l = tt
each_counts (x ∷ xs) l = (l.0.0, each_counts xs l.1)

-- ---- the first arrival of each stretch is accepted

module _ (s : Settings) where
  not_late : (x : Entry) → Fact s x → x.says.event ≡ Some Restart → late_entry x ≡ false
  not_late x f e =
      let v : verdict_of s x ≡ Restart = cc (f.event, e) in
      (subst (λ (w : SeqEvent). Rules w (fitting s x) (late_entry x)) v (rules x.book.expected (limit_in s x.book x.incoming.now) x.book.run x.number)).1

  each-not-late : (xs : List Entry) (o : Option ℤ) → Chain s o xs → Each (λ (x : Entry). x.says.event ≡ Some Restart → late_entry x ≡ false) xs
  each-not-late [] o k = tt
  each-not-late (x ∷ xs) o k = (not_late x k.1, each-not-late xs (next_of s x) k.2)

  begun-in : (ps : List Span) → Each (λ (p : Span). p.first.says.event ≡ Some Restart → late_entry p.first ≡ false) ps → Each (λ (p : Span). p.first.says.event ≡ Some Restart) ps
      → Each (λ (p : Span). late_entry p.first ≡ false) ps
  begun-in [] h b = tt
  begun-in (p ∷ ps) h b = (h.0 b.0, begun-in ps h.1 b.1)

  accepted-firsts : (xs : List Entry) → Chain s None xs → Each (λ (p : Span). late_entry p.first ≡ false) (spans_of xs)
  accepted-firsts [] k = tt
  accepted-firsts (x ∷ xs) k =
      (first-in x k.0, begun-in (cut xs).spans (cut-firsts (λ (y : Entry). y.says.event ≡ Some Restart → late_entry y ≡ false) xs (each-not-late xs (next_of s x) k.2)) (splits (x ∷ xs)).begun)

-- ---- the sum of the samples

adds : (a b c d : ℕ) → d ≡ b + c → ((a + b % 2 ^ 64) % 2 ^ 64 + c) % 2 ^ 64 ≡ (a + d) % 2 ^ 64
adds a b c d e = omega (arith, e)

accepted-in : (p : Span) (ps : List Span) → late_entry p.first ≡ false
    → length (samples_of (accepted_in (arrivals_in (p ∷ ps)))) ≡ length (samples_of (p.first ∷ accepted_in p.others)) + length (samples_of (accepted_in (arrivals_in ps)))
accepted-in p ps l =
    let a = accepted-append (p.first ∷ p.others) (arrivals_in ps) in
    let b = samples-append (accepted_in (p.first ∷ p.others)) (accepted_in (arrivals_in ps)) in
    let c : accepted_in (p.first ∷ p.others) ≡ p.first ∷ accepted_in p.others = rw l refl in
    ap (λ (xs : List Entry). length (samples_of xs)) a
    ∙ ap length b
    ∙ length-append (samples_of (accepted_in (p.first ∷ p.others))) (samples_of (accepted_in (arrivals_in ps)))
    ∙ ap (λ (xs : List Entry). length (samples_of xs) + length (samples_of (accepted_in (arrivals_in ps)))) c

sums-samples : (ps : List Span) (t : Sums) → t.samples < 2 ^ 64 → Each (λ (p : Span). late_entry p.first ≡ false) ps
    → (sums_from t (map told_of ps)).samples ≡ (t.samples + length (samples_of (accepted_in (arrivals_in ps)))) % 2 ^ 64
unfolding plus_of told_of
sums-samples [] t h l = omega (arith, h)
sums-samples (p ∷ ps) t h l =
    sums-samples ps (plus_of t (told_of p)) (omega arith) l.1
    ∙ adds t.samples (length (samples_of (p.first ∷ accepted_in p.others))) _ _ (accepted-in p ps l.0)

-- ---- the sums of what is missing

missing-append : (xs ys : List Entry) → missing_told (xs ++ ys) ≡ missing_told xs + missing_told ys
missing-append [] ys = omega arith
missing-append (x ∷ xs) ys = let h = missing-append xs ys in omega (arith, h)

-- what is cut at 2^64 makes no difference to a sum that is
uncut : (x y : ℕ) → (x % 2 ^ 64 + y) % 2 ^ 64 ≡ (x + y) % 2 ^ 64
uncut x y = omega arith

same : (x y : ℕ) → x ≡ y → x % 2 ^ 64 ≡ y % 2 ^ 64
same x y e = ap (λ (n : ℕ). n % 2 ^ 64) e

spread : (a b m r l v : ℕ) → v ≡ r + m + l → ((a + m % 2 ^ 64) % 2 ^ 64 + (b + r) % 2 ^ 64 + l) % 2 ^ 64 ≡ (a + b + v) % 2 ^ 64
spread a b m r l v e =
    let c : ℕ = m % 2 ^ 64 in
    let d : ℕ = (b + r) % 2 ^ 64 in
    same ((a + c) % 2 ^ 64 + d + l) ((a + c) % 2 ^ 64 + (d + l)) (omega arith)
    ∙ uncut (a + c) (d + l)
    ∙ same (a + c + (d + l)) (c + (a + (d + l))) (omega arith)
    ∙ uncut m (a + (d + l))
    ∙ same (m + (a + (d + l))) (d + (m + a + l)) (omega arith)
    ∙ uncut (b + r) (m + a + l)
    ∙ same (b + r + (m + a + l)) (a + b + v) (omega (arith, e))

sums-missing : (ps : List Span) (t : Sums)
    → ((sums_from t (map told_of ps)).missing + (sums_from t (map told_of ps)).restart) % 2 ^ 64 ≡ (t.missing + t.restart + missing_told (arrivals_in ps)) % 2 ^ 64
unfolding plus_of told_of
sums-missing [] t = omega arith
sums-missing (p ∷ ps) t =
    let v : missing_told (arrivals_in (p ∷ ps)) ≡ p.first.says.missing + missing_told p.others + missing_told (arrivals_in ps) =
    missing-append (p.first ∷ p.others) (arrivals_in ps) in
    sums-missing ps (plus_of t (told_of p))
    ∙ spread t.missing t.restart (missing_told p.others) p.first.says.missing (missing_told (arrivals_in ps)) _ v

calls-size : (calls : List Sent) → length (calls_of calls) ≡ length calls
calls-size [] = refl
calls-size (c ∷ calls) = let h = calls-size calls in omega (arith, h)

-- ---- the whole account

module _ (samples : List Float) (size : length samples ≡ 476) (s : Settings) (now : ℕ) (calls : List Sent) (ok : T (accepts s)) where
  abbrev replies : List Reply
  replies = trace (session samples) (opened_with samples s now) (calls_of calls)

  abbrev end : State
  end = final (session samples) (opened_with samples s now) (calls_of calls)

  abbrev entries : List Entry
  entries = ledger s (blank now) (paired s calls replies)

  pub key : Key s now calls replies (waiting_in end.session.receiver end.samples) (left end.session.receiver)
  key lies =
      let lines = tells_all samples size s now calls ok lies in
      let agrees : Agrees s (paired s calls replies) (waiting_in end.session.receiver end.samples) entries = demand3 samples size s now calls ok lies in
      let chain : Chain s None entries = chained s (blank now) (paired s calls replies) lines in
      let told : stretches_told (calls_of calls) replies ≡ map told_of (spans_of entries) =
      ap (noted_all []) (records-are s (blank now) calls replies lines) ∙ stretches-are s entries chain lies in
      let pairs = pairs-are samples s (opened_with samples s now) calls size in
      let waits = waits-are end.session.receiver end.samples (all-sized samples s (opened_with samples s now) (calls_of calls) size) in
      record {
        splits = splits entries;
        stretches = told;
        samples =
            ap (λ (l : List Stretch). (sums_of l).samples) told
            ∙ sums-samples (spans_of entries) no_sums (omega arith) (accepted-firsts s entries chain)
            ∙ ap (λ (l : List Entry). (0 + length (samples_of (accepted_in l))) % 2 ^ 64) (splits entries).all
            ∙ omega arith;
        missing =
            ap (λ (l : List Stretch). ((sums_of l).missing + (sums_of l).restart) % 2 ^ 64) told
            ∙ sums-missing (spans_of entries) no_sums
            ∙ ap (λ (l : List Entry). (0 + 0 + missing_told l) % 2 ^ 64) (splits entries).all
            ∙ omega arith;
        handed = pairs;
        waits = waits;
        flow =
            ap (λ (n : ℕ). n + left end.session.receiver) pairs
            ∙ ap (λ (n : ℕ). length (all_handed_out (paired s calls replies)) + n) waits
            ∙ sym (length-append (all_handed_out (paired s calls replies)) (waiting_in end.session.receiver end.samples))
            ∙ ap length agrees.samples;
        even = λ few.
            subst (λ (l : List Stretch). Each Even l) (sym told)
            (told-evens (length entries) (spans_of entries) (omega (arith, arrivals-few s (blank now) calls replies, calls-size calls)) (spans-bounded s entries chain lies)
            (firsts (λ (x : Entry). count_of x.number ≡ x.count) entries (each_counts entries lies))
            (sums-each entries agrees.sums));
      }

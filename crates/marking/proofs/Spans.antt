-- The stretches that are told are demand 3's, where every answer is the book's. Assumes nothing.
use Rattle.std.specs.Prelude.{Option, Some, None}
use Prim.Native.Nat.{ℕ, ◌*◌, ◌%◌, ◌<◌, ◌^◌}
use mathlib.Core.Path.{◌≡◌, refl, sym, ap, subst, ◌∙◌}
use mathlib.Core.Bool.{Bool, true, false, cond}
use mathlib.Core.List.{List, [], ◌∷◌, ◌++◌, map}
use lib.ListN.{length}
use lib.IntN.{ℤ, pos, negsuc, ◌+ℤ◌, ◌-ℤ◌}
use native.Mathlib.Nat.{zero-add}
use native.Mathlib.Omega.{arith}
use Rattle.stream.specs.Size.{per_datagram}
use Rattle.base.specs.Each.{Each}
use Rattle.sequence.specs.declared.SeqEvent.{SeqEvent}
use Rattle.sequence.specs.declared.SeqEvent.TheVariants.{InOrder, Gap, Stale, Restart}
use Rattle.model.specs.Answer.{Tells}
use Rattle.model.specs.declared.settings.Settings.{Settings}
use Rattle.account.specs.Whole.{count_of, ahead, behind, Near}
use Rattle.account.specs.Book.{News, Quiet, Began, Took, Came, Book, missing_in, missing, noted}
use Rattle.account.specs.Ledger.{Line, Entry, entry, ledger, fitting, late_entry, accepted_in, samples_of, missing_told}
use Rattle.account.specs.Demand3.{NearIn, Lies}
use Rattle.account.specs.Exact.{Exact, AllLines}
use Rattle.account.proofs.Numbers.{count_small}
use Rattle.account.proofs.Verdict.{Says}
use Rattle.account.proofs.Stretches.{past-e, verdict_of, next_of, next-is, says_at, first-in}
use Rattle.tally.specs.Stretch.{first_of, more_of}
use Rattle.tally.specs.Stretches.{after, noted_all}
use Rattle.tally.proofs.Notes.{noted-behind}
use Rattle.tally.specs.declared.record.Record.{Record}
use Rattle.tally.specs.declared.stretch.Stretch.{Stretch}
use Rattle.marking.specs.Records.{event_of}
use Rattle.marking.specs.Spans.{is_restart, Cut, broken, unbroken, cut, spans_of, told_of}
use Rattle.marking.proofs.Streams.{event_in, record_in}
use Rattle.marking.proofs.Onward.{samples-more, onward, Counts, onward-none, onward-stale, counts-on, onward-more}

cond-true : (b : Bool) (p q : Cut) → b ≡ true → cond b p q ≡ p
cond-true true p q h = refl
cond-true false p q h = let z : ◌≡◌ {A = ℕ} 0 1 = cc in absurd (omega arith)

cond-false : (b : Bool) (p q : Cut) → b ≡ false → cond b p q ≡ q
cond-false true p q h = let z : ◌≡◌ {A = ℕ} 0 1 = cc in absurd (omega arith)
cond-false false p q h = refl

-- ---- the first arrival of a stretch

pub counts-first : (x : Entry) → count_of x.number ≡ x.count → Counts (first_of (record_in x)) x.number
unfolding first_of
counts-first x e =
    let l = count_small x.number in
    record { high = omega (arith, l, e); many = omega arith; lost = omega arith; count = omega (arith, l, e) }

stretch-as : (s t : Stretch) (a b : ℕ) → a ≡ t.samples → b ≡ t.missing
    → s ≡ record { at = t.at; last = t.last; first = t.first; restart = t.restart; highest = t.highest; samples = a; missing = b } → s ≡ t
stretch-as s t a b ea eb e = e ∙ rw (ea, eb) refl

pub told-first : (x : Entry) (xs : List Entry) → told_of (record { first = x; others = xs }) ≡ onward (first_of (record_in x)) x.number xs
unfolding told_of first_of
told-first x xs =
    let n = samples-more x (accepted_in xs) in
    stretch-as _ _ (length (samples_of (x ∷ accepted_in xs)) % 2 ^ 64) (missing_told xs % 2 ^ 64) (ap (λ (i : ℕ). i % 2 ^ 64) n) (ap (λ (i : ℕ). i % 2 ^ 64) (sym (zero-add (missing_told xs)))) refl

-- a stale one misses nothing
stale-misses : (o : Option ℤ) (f : Bool) (r : ℕ) (e n : ℤ) → o ≡ Some e → f ≡ true → 0 < behind (n -ℤ e) → missing_in o f r n ≡ 0
stale-misses o f r e n eo ef below = rw (eo, ef) (nothing_above (n -ℤ e) below)
  where
    nothing_above : (d : ℤ) → 0 < behind d → per_datagram * ahead d ≡ 0
    nothing_above (pos d) h = absurd (omega arith)
    nothing_above (negsuc d) h = omega arith

-- one that lies as the demand says is less than 2^31 above e
pub near-above : (h : ℤ) (x : Entry) (k : ℕ) → x.book.expected ≡ Some (h +ℤ pos 1) → Lies x → x.number -ℤ (h +ℤ pos 1) ≡ pos k → k < 2 ^ 31
near-above h x k e lies d =
    let n : Near (h +ℤ pos 1) x.number = subst (λ (o : Option ℤ). NearIn o x.number) e lies.1 in
    let z = ap ahead d in
    omega (arith, n.high, z)

module _ (s : Settings) where
  -- ---- arrivals that are told as the book says, each after the one before

  pub record Fact (x : Entry) : Type 0 where
    pub event : x.says.event ≡ Some (verdict_of s x)
    pub gone : x.says.missing ≡ missing s x.book x.incoming x.number

  abbrev pub Chain : Option ℤ → List Entry → Type 0
  Chain o [] = Unit {0}
  Chain o (x ∷ xs) = (x.book.expected ≡ o) × Fact x × Chain (next_of s x) xs

  link : (b : Book) (w : News) (n : ℤ) (a : Tells) (rest : List Entry) → Exact s b w n a → Chain (noted s b w n).expected rest → Chain b.expected (entry b w n a ++ rest)
  link b Quiet n a rest e k = k
  link b (Began now) n a rest e k = k
  link b (Took now) n a rest e k = k
  link b (Came i count) n a rest e k =
      (refl, record { event = e.0; gone = e.1 }, rw (next-is s (record { book = b; incoming = i; count = count; number = n; says = a })) at k)

  pub chained : (b : Book) (ls : List Line) → AllLines s (Exact s) b ls → Chain b.expected (ledger s b ls)
  chained b [] h = tt
  chained b (l ∷ ls) h =
      link b l.news l.number l.says (ledger s (noted s b l.news l.number) ls) h.0 (chained (noted s b l.news l.number) ls h.1)

  -- ---- told on

  abbrev Claim : Stretch → ℤ → List Entry → Type 0
  Claim st h xs = noted_all (st ∷ []) (map record_in xs) ≡ onward st h (cut xs).front ∷ map told_of (cut xs).spans

  module _ (st : Stretch) (h : ℤ) (x : Entry) (xs : List Entry) (c : Counts st h) (e : x.book.expected ≡ Some (h +ℤ pos 1)) (f : Fact x) (lies : Lies x) where
    abbrev rest : List Record
    rest = map record_in xs

    abbrev shown : Cut → List Stretch
    shown u = onward st h u.front ∷ map told_of u.spans

    goes : (v : SeqEvent) → x.says.event ≡ Some v → noted_all (st ∷ []) (map record_in (x ∷ xs)) ≡ noted_all (after (event_of v) st (record_in x)) rest
    goes v ev = ap (λ (o : Option SeqEvent). noted_all (after (event_in o) st (record_in x)) rest) ev

    -- in order, or a gap
    accepted : (v : SeqEvent) (k : ℕ) → x.says.event ≡ Some v → is_restart (Some v) ≡ false → after (event_of v) st (record_in x) ≡ more_of st (record_in x) ∷ []
        → x.number -ℤ (h +ℤ pos 1) ≡ pos k → late_entry x ≡ false
        → ((t : Stretch) → Counts t x.number → late_entry x ≡ false → Claim t x.number xs) → Claim st h (x ∷ xs)
    accepted v k ev nr ar d l on =
        let up = past-e h x.number k d in
        let near = near-above h x k e lies d in
        goes v ev
        ∙ ap (λ (l : List Stretch). noted_all l rest) ar
        ∙ on (more_of st (record_in x)) (counts-on st h x k c up near lies.0) l
        ∙ ap (λ (t : Stretch). t ∷ map told_of (cut xs).spans) (onward-more st h x k c up near lies.0 (cut xs).front l)
        ∙ ap shown (sym (cond-false (is_restart x.says.event) (broken x (cut xs)) (unbroken x (cut xs)) (ap is_restart ev ∙ nr)))

    one : (v : SeqEvent) → x.says.event ≡ Some v → Says (x.number -ℤ (h +ℤ pos 1)) v (fitting s x) (late_entry x)
        → ((t : Stretch) → Counts t x.number → late_entry x ≡ false → Claim t x.number xs) → (late_entry x ≡ true → Claim st h xs) → Claim st h (x ∷ xs)
    one InOrder ev y on same = accepted InOrder 0 ev refl refl y.0 y.2 on
    one (Gap k) ev y on same = accepted (Gap k) k ev refl refl y.0.0 y.2 on
    one Stale ev y on same =
        let m : x.says.missing ≡ 0 = f.gone ∙ stale-misses _ _ _ (h +ℤ pos 1) x.number e y.1 y.0 in
        goes Stale ev
        ∙ same y.2
        ∙ ap (λ (t : Stretch). t ∷ map told_of (cut xs).spans) (sym (onward-stale st h x (cut xs).front y.2 m))
        ∙ ap shown (sym (cond-false (is_restart x.says.event) (broken x (cut xs)) (unbroken x (cut xs)) (ap is_restart ev)))
    one Restart ev y on same =
        goes Restart ev
        ∙ noted-behind st (first_of (record_in x)) [] rest
        ∙ ap (λ (l : List Stretch). st ∷ l) (on (first_of (record_in x)) (counts-first x lies.0) y.2)
        ∙ ap (λ (t : Stretch). t ∷ onward (first_of (record_in x)) x.number (cut xs).front ∷ map told_of (cut xs).spans) (sym (onward-none st h c))
        ∙ ap (λ (t : Stretch). onward st h [] ∷ t ∷ map told_of (cut xs).spans) (sym (told-first x (cut xs).front))
        ∙ ap shown (sym (cond-true (is_restart x.says.event) (broken x (cut xs)) (unbroken x (cut xs)) (ap is_restart ev)))

  pub after-accepted : (x : Entry) (xs : List Entry) → late_entry x ≡ false → Chain (next_of s x) xs → Chain (Some (x.number +ℤ pos 1)) xs
  after-accepted x xs l k = subst (λ (b : Bool). Chain (cond b x.book.expected (Some (x.number +ℤ pos 1))) xs) l k

  pub after-stale : (h : ℤ) (x : Entry) (xs : List Entry) → x.book.expected ≡ Some (h +ℤ pos 1) → late_entry x ≡ true → Chain (next_of s x) xs → Chain (Some (h +ℤ pos 1)) xs
  after-stale h x xs e l k =
      subst (λ (o : Option ℤ). Chain o xs) e (subst (λ (b : Bool). Chain (cond b x.book.expected (Some (x.number +ℤ pos 1))) xs) l k)

  told-on : (st : Stretch) (h : ℤ) (xs : List Entry) → Counts st h → Chain (Some (h +ℤ pos 1)) xs → Each Lies xs → Claim st h xs
  told-on st h [] c k l = ap (λ (t : Stretch). t ∷ []) (sym (onward-none st h c))
  told-on st h (x ∷ xs) c k l =
      one st h x xs c k.0 k.1 l.0 (verdict_of s x) k.1.event (says_at s h x k.0)
      (λ t d late. told-on t x.number xs d (after-accepted x xs late k.2) l.1)
      (λ late. told-on st h xs c (after-stale h x xs k.0 late k.2) l.1)

  -- from the first arrival on
  pub stretches-are : (xs : List Entry) → Chain None xs → Each Lies xs → noted_all [] (map record_in xs) ≡ map told_of (spans_of xs)
  stretches-are [] k l = refl
  stretches-are (x ∷ xs) k l =
      told-on (first_of (record_in x)) x.number xs (counts-first x l.0.0) (after-accepted x xs (first-in x k.0) k.2) l.1
      ∙ ap (λ (t : Stretch). t ∷ map told_of (cut xs).spans) (sym (told-first x (cut xs).front))

-- A host whose every call keeps a relation to the book, and tells and hands out right, meets demand 3. Assumes nothing.
use Rattle.std.specs.Prelude.{None}
use Prim.Native.Nat.{ℕ}
use mathlib.Core.Path.{◌≡◌, refl, sym, ◌∙◌, ap}
use mathlib.Core.Bool.{Bool, true, false, cond}
use mathlib.Core.List.{List, [], ◌∷◌, ◌++◌, append-nil, append_assoc}
use lib.IntN.{ℤ}
use Rattle.model.specs.Sample.{Sample}
use Rattle.model.specs.Host.{Call, Step, Host, trace, final}
use Rattle.account.specs.Book.{News, Quiet, Began, Took, Came, news, Book, blank, noted}
use Rattle.model.specs.Answer.{Tells, tells}
use Rattle.account.specs.Ledger.{Sent, calls_of, gave, Line, line_of, paired, all_handed_out, Entry, entry, ledger, late_entry, accepted_in, samples_in, samples_of}
use Rattle.base.specs.Each.{Each}
use Rattle.account.specs.Demand3.{Lies, Mute, Demand3}
use Rattle.account.specs.Exact.{AllLines}
use Rattle.model.specs.declared.settings.Settings.{Settings}
use Rattle.account.proofs.Stretches.{Right, Chained, next-is, each, stretches}

-- ---- lists

each-front : (P : Entry → Type 0) (xs ys : List Entry) → Each P (xs ++ ys) → Each P xs
each-front P [] ys h = tt
each-front P (x ∷ xs) ys h = (h.0, each-front P xs ys h.1)

each_back : (P : Entry → Type 0) (xs ys : List Entry) → Each P (xs ++ ys) → Each P ys
each_back P [] ys h = h
each_back P (x ∷ xs) ys h = each_back P xs ys h.1

cond-append : (t : Bool) (x : Entry) (l m k : List Entry) → l ≡ m ++ k → cond t l (x ∷ l) ≡ (cond t m (x ∷ m)) ++ k
cond-append true x l m k e = e
cond-append false x l m k e = ap (λ (z : List Entry). x ∷ z) e

pub accepted-append : (xs ys : List Entry) → accepted_in (xs ++ ys) ≡ accepted_in xs ++ accepted_in ys
accepted-append [] ys = refl
accepted-append (x ∷ xs) ys = cond-append (late_entry x) x (accepted_in (xs ++ ys)) (accepted_in xs) (accepted_in ys) (accepted-append xs ys)

pub samples-append : (xs ys : List Entry) → samples_of (xs ++ ys) ≡ samples_of xs ++ samples_of ys
samples-append [] ys = refl
samples-append (x ∷ xs) ys = rw (samples-append xs ys) (sym (append_assoc (samples_in x) (samples_of xs) (samples_of ys)))

joined : (g h f v t w u : List Sample) → h ++ f ≡ v ++ t → g ++ v ≡ w ++ u → (g ++ h) ++ f ≡ w ++ (u ++ t)
joined g h f v t w u p q = cc (append_assoc g h f, append_assoc g v t, append_assoc w u t)

module _ (s : Settings) where
  -- ---- one call

  chain-of : (b : Book) (w : News) (n : ℤ) (a : Tells) (rest : List Entry) → Each (Right s) (entry b w n a) → Chained s (noted s b w n).expected rest → Chained s b.expected (entry b w n a ++ rest)
  chain-of b Quiet n a rest r k = k
  chain-of b (Began now) n a rest r k = k
  chain-of b (Took now) n a rest r k = k
  chain-of b (Came i count) n a rest r k =
      (refl, r.0, rw (next-is s (record { book = b; incoming = i; count = count; number = n; says = a })) at k)

  module _ (S : Type 0) (waiting : S → List Sample) (R : Book → S → Type 0) (P : Book → News → ℤ → Tells → Type 0) where
    -- what one call keeps, that came with the number n, and gave st
    pub record Keeps (b : Book) (at : S) (c : Call) (n : ℤ) (st : Step S) : Type 0 where
      pub same : R (noted s b (news s c (tells st.reply.answer).refusal) n) st.state
      pub right : Each (Right s) (entry b (news s c (tells st.reply.answer).refusal) n (tells st.reply.answer))
      pub also : P b (news s c (tells st.reply.answer).refusal) n (tells st.reply.answer)
      pub flow : gave c st.reply ++ waiting st.state ≡ waiting at ++ samples_of (accepted_in (entry b (news s c (tells st.reply.answer).refusal) n (tells st.reply.answer)))

    -- the same, where its arrival lies as the demand says
    pub record Kept (b : Book) (at : S) (c : Call) (n : ℤ) (st : Step S) : Type 0 where
      pub keep : Each Lies (entry b (news s c (tells st.reply.answer).refusal) n (tells st.reply.answer)) → Keeps b at c n st

  -- ---- the whole list

  abbrev lines : (h : Host) → h.State → List Sent → List Line
  lines h at cs = paired s cs (trace h at (calls_of cs))

  pub record Whole (h : Host) (P : Book → News → ℤ → Tells → Type 0) (b : Book) (at : h.State) (cs : List Sent) : Type 0 where
    pub chain : Chained s b.expected (ledger s b (lines h at cs))
    pub also : AllLines s P b (lines h at cs)
    pub flow : all_handed_out (lines h at cs) ++ h.waiting (final h at (calls_of cs)) ≡ h.waiting at ++ samples_of (accepted_in (ledger s b (lines h at cs)))

  -- one call more
  module _ (h : Host) (b : Book) (at : h.State) (c : Sent) (cs : List Sent) where
    abbrev st : Step h.State
    st = h.step at c.call

    abbrev line : Line
    line = line_of s c st.reply

    abbrev book : Book
    book = noted s b line.news line.number

    abbrev here : List Entry
    here = entry b line.news line.number line.says

    abbrev rest : List Entry
    rest = ledger s book (lines h st.state cs)

    more : (R : Book → h.State → Type 0) (P : Book → News → ℤ → Tells → Type 0) → Keeps h.State h.waiting R P b at c.call c.number st → Whole h P book st.state cs → Whole h P b at (c ∷ cs)
    more R P k w =
        record {
          chain = chain-of b line.news line.number line.says rest k.right w.chain;
          also = (k.also, w.also);
          flow =
              rw (accepted-append here rest, samples-append (accepted_in here) (accepted_in rest))
              (joined line.out (all_handed_out (lines h st.state cs)) (h.waiting (final h st.state (calls_of cs))) (h.waiting st.state)
              (samples_of (accepted_in rest))
              (h.waiting at)
              (samples_of (accepted_in here))
              w.flow
              k.flow);
        }

  module _ (h : Host) (R : Book → h.State → Type 0) (P : Book → News → ℤ → Tells → Type 0) (keeps : (b : Book) (at : h.State) (n : ℤ) → R b at → (c : Call) → Kept h.State h.waiting R P b at c n (h.step at c)) where
    whole : (b : Book) (at : h.State) (cs : List Sent) → R b at → Each Lies (ledger s b (lines h at cs)) → Whole h P b at cs
    whole b at [] r l = record { chain = tt; also = tt; flow = sym (append-nil (h.waiting at)) }
    whole b at (c ∷ cs) r l =
        let k : Keeps h.State h.waiting R P b at c.call c.number (h.step at c.call) = (keeps b at c.number r c.call).keep (each-front Lies (here h b at c cs) (rest h b at c cs) l) in
        more h b at c cs R P k (whole (book h b at c cs) (h.step at c.call).state cs k.same (each_back Lies (here h b at c cs) (rest h b at c cs) l))

    -- where what is kept of a call says that one without an arrival tells nothing, so do all lines
    others-of : ((b : Book) (w : News) (n : ℤ) (a : Tells) → P b w n a → Mute w a) → (b : Book) (ls : List Line) → AllLines s P b ls → Each (λ l. Mute l.news l.says) ls
    others-of mute b [] l = tt
    others-of mute b (x ∷ xs) l = (mute b x.news x.number x.says l.0, others-of mute (noted s b x.news x.number) xs l.1)

    module _ (now : ℕ) (at_first : R (blank now) (h.opened s now)) (none-waits : h.waiting (h.opened s now) ≡ []) (calls : List Sent) where
      pub meets : ((b : Book) (w : News) (n : ℤ) (a : Tells) → P b w n a → Mute w a) → Demand3 h s now calls
      meets mute lies =
          let w : Whole h P (blank now) (h.opened s now) calls = whole (blank now) (h.opened s now) calls at_first lies in
          let entries : List Entry = ledger s (blank now) (lines h (h.opened s now) calls) in
          record {
            each = each s None entries w.chain;
            others = others-of mute (blank now) (lines h (h.opened s now) calls) w.also;
            samples = w.flow ∙ ap (λ (l : List Sample). l ++ samples_of (accepted_in entries)) none-waits;
            sums = stretches s entries w.chain;
          }

      pub all_lines : Each Lies (ledger s (blank now) (lines h (h.opened s now) calls)) → AllLines s P (blank now) (lines h (h.opened s now) calls)
      all_lines lies = (whole (blank now) (h.opened s now) calls at_first lies).also

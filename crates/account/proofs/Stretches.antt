-- Of arrivals that are told what the whole numbers say: the sums of each stretch. Assumes nothing.
use Rattle.std.specs.Prelude.{Option, Some, None}
use Prim.Native.Nat.{ℕ, ◌+◌, ◌*◌}
use mathlib.Core.Path.{◌≡◌, refl, sym, ◌∙◌, ap, subst}
use mathlib.Core.Logic.{◌≢◌, ◌⊎◌, inl, inr}
use mathlib.Core.Bool.{Bool, true, false, cond}
use mathlib.Core.List.{List, [], ◌∷◌, ◌++◌, cons-ne-nil}
use native.Mathlib.Omega.{arith}
use lib.ListN.{length, length-append}
use lib.Dec.{T}
use lib.IntN.{ℤ, pos, ◌+ℤ◌, ◌-ℤ◌, +ℤ_assoc, +ℤ_comm, +ℤ_idr, +ℤ-neg_ℤ_cancel}
use borrow.Author.Tests.{lt-ltb}
use Rattle.base.specs.Pick.{pick}
use Rattle.account.specs.Whole.{Below, higher}
use Rattle.account.proofs.Numbers.{from-distance}
use Rattle.sequence.specs.declared.SeqEvent.{SeqEvent}
use Rattle.sequence.specs.declared.SeqEvent.TheVariants.{InOrder, Gap, Stale, Restart}
use Rattle.account.specs.Book.{Book, limit_in, booked}
use Rattle.account.specs.Ledger.{Entry, fitting, late_entry, accepted_in, samples_in, samples_of, missing_told, highest}
use Rattle.base.specs.Each.{Each}
use Rattle.account.specs.Demand3.{Judged, Stretch, Rising, Sums}
use Rattle.account.specs.Exact.{verdict_in}
use Rattle.model.specs.declared.settings.Settings.{Settings}
use Rattle.account.proofs.Verdict.{Says, says, Rules, rules, restarts, stales}

-- what an arrival told so misses, where that is known from the numbers
abbrev pub Lost : SeqEvent → ℕ → Type 0
Lost InOrder m = m ≡ 0
Lost (Gap k) m = m ≡ 238 * k
Lost Stale m = m ≡ 0
Lost Restart m = Unit {0}

cond-expected : (t : Bool) (p q : Book) → (cond t p q).expected ≡ cond t p.expected q.expected
cond-expected true p q = refl
cond-expected false p q = refl

-- ---- the next accepted number, k + 1 past h

-- e is h + 1, and n is k past e
pub past-e : (h n : ℤ) (k : ℕ) → n -ℤ (h +ℤ pos 1) ≡ pos k → n ≡ h +ℤ pos (k + 1)
past-e h n k d =
    from-distance (h +ℤ pos 1) n (pos k) d ∙ +ℤ_assoc h (pos 1) (pos k) ∙ ap (λ (j : ℕ). h +ℤ pos j) (omega arith)

pub distance-of : (h n : ℤ) (k : ℕ) → n ≡ h +ℤ pos k → n -ℤ h ≡ pos k
distance-of h n k e = ap (λ (z : ℤ). z -ℤ h) (e ∙ +ℤ_comm h (pos k)) ∙ +ℤ-neg_ℤ_cancel (pos k) h

pub is-higher : (h n : ℤ) (k : ℕ) → n ≡ h +ℤ pos (k + 1) → higher h n ≡ n
unfolding pick
is-higher h n k e = rw (distance-of h n (k + 1) e, lt-ltb 0 (k + 1) (omega arith)) refl

is-above : (h n : ℤ) (k : ℕ) → n ≡ h +ℤ pos (k + 1) → Below h n
is-above h n k e = rw (distance-of h n (k + 1) e) (omega arith)

-- what is to be shown of the accepted entries after the number h, with m missing: they rise to a number that is so many past h
abbrev AddUp : ℤ → List Entry → ℕ → Type 0
AddUp h l m = (j : ℕ) × Rising h l × (highest h l ≡ h +ℤ pos j) × (length (samples_of l) + m ≡ 238 * j)

abbrev Adds : ℤ → List Entry → Type 0
Adds h xs = AddUp h (accepted_in xs) (missing_told xs)

more : (h : ℤ) (x : Entry) (l : List Entry) (m j k : ℕ) → x.number ≡ h +ℤ pos (k + 1) → m ≡ 238 * k → length (samples_in x) ≡ 238 → AddUp x.number l j → AddUp h (x ∷ l) (m + j)
more h x l m j k up eq w a = (
  k + 1 + a.0,
  (is-above h x.number k up, a.1),
  rw (is-higher h x.number k up) (a.2 ∙ ap (λ (z : ℤ). z +ℤ pos a.0) up ∙ +ℤ_assoc h (pos (k + 1)) (pos a.0)),
  simp length-append (omega (arith, a.3)),
)

-- an accepted entry, and those after it
kept : (h : ℤ) (x : Entry) (ys : List Entry) (k : ℕ) → late_entry x ≡ false → x.number ≡ h +ℤ pos (k + 1) → x.says.missing ≡ 238 * k → length (samples_in x) ≡ 238 → Adds x.number ys → Adds h (x ∷ ys)
kept h x ys k l up m w a = rw l (more h x (accepted_in ys) x.says.missing (missing_told ys) k up m w a)

-- a stale one
skipped : (h : ℤ) (x : Entry) (ys : List Entry) → late_entry x ≡ true → x.says.missing ≡ 0 → Adds h ys → Adds h (x ∷ ys)
skipped h x ys l m a = rw l (a.0, a.1, a.2, rw m (omega (arith, a.3)))

-- one told Restart is accepted
not_late : (ev : SeqEvent) (f b : Bool) → Rules ev f b → ¬ T f → b ≡ false
not_late InOrder f b h e = h.1
not_late (Gap k) f b h e = h.1
not_late Stale true b h e = absurd (e tt)
not_late Stale false b h e = cc
not_late Restart f b h e = h.1

-- and so is the first
pub first-in : (x : Entry) → x.book.expected ≡ None → late_entry x ≡ false
first-in x e = rw e refl

module _ (s : Settings) where
  abbrev pub verdict_of : Entry → SeqEvent
  verdict_of x = verdict_in x.book.expected (limit_in s x.book x.incoming.now) x.book.run x.number

  -- the entry is told as the demand says, and tells the missing of what the whole numbers say
  pub record Right (x : Entry) : Type 0 where
    pub told : Judged s x
    pub gone : Lost (verdict_of x) x.says.missing
    pub whole : length (samples_in x) ≡ 238

  abbrev pub next_of : Entry → Option ℤ
  next_of x = cond (late_entry x) x.book.expected (Some (x.number +ℤ pos 1))

  -- each entry is right, and expects the number after the last accepted one
  abbrev pub Chained : Option ℤ → List Entry → Type 0
  Chained o [] = Unit {0}
  Chained o (x ∷ xs) = (x.book.expected ≡ o) × Right x × Chained (next_of x) xs

  -- it is what the book expects after the entry
  pub next-is : (x : Entry) → (booked s x.book x.incoming x.number).expected ≡ next_of x
  next-is x = cond-expected (late_entry x) _ _

  rules-at : (x : Entry) → Rules (verdict_of x) (fitting s x) (late_entry x)
  rules-at x = rules x.book.expected (limit_in s x.book x.incoming.now) x.book.run x.number

  first_of : (o : Option ℤ) (lim run : ℕ) (n : ℤ) → o ≡ None → verdict_in o lim run n ≡ InOrder
  first_of None lim run n e = refl
  first_of (Some e) lim run n h = let z : ◌≡◌ {A = ℕ} 0 1 = cc in absurd (omega arith)

  -- what is told so is judged so
  pub judged-of : (x : Entry) → x.says.event ≡ Some (verdict_of x) → Judged s x
  judged-of x e =
      record {
        restart = rw e (restarts (verdict_of x) (fitting s x) (late_entry x) (rules-at x));
        stale = rw e (stales (verdict_of x) (fitting s x) (late_entry x) (rules-at x));
        first = λ h. e ∙ ap (λ (v : SeqEvent). Some v) (first_of x.book.expected _ _ _ h);
      }

  abbrev Going : Entry → Type 0
  Going x = x.says.event ≢ Some Restart

  module _ (h : ℤ) (x : Entry) (ys : List Entry) (e : x.book.expected ≡ Some (h +ℤ pos 1)) (r : Right x) (going : Going x) where
    one-step : (ev : SeqEvent) → Lost ev x.says.missing → Says (x.number -ℤ (h +ℤ pos 1)) ev (fitting s x) (late_entry x) →
        (late_entry x ≡ false → Adds x.number ys) → (late_entry x ≡ true → Adds h ys) → Adds h (x ∷ ys)
    one-step InOrder m s a b = kept h x ys 0 s.2 (past-e h x.number 0 s.0) m r.whole (a s.2)
    one-step (Gap k) m s a b = kept h x ys k s.2 (past-e h x.number k s.0.0) m r.whole (a s.2)
    one-step Stale m s a b = skipped h x ys s.2 m (b s.2)
    one-step Restart m s a b = absurd (going (r.told.restart.1 (rw s.1 (λ t. t))))

  pub says_at : (h : ℤ) (x : Entry) → x.book.expected ≡ Some (h +ℤ pos 1) → Says (x.number -ℤ (h +ℤ pos 1)) (verdict_of x) (fitting s x) (late_entry x)
  says_at h x e = rw e (says (limit_in s x.book x.incoming.now) x.book.run (h +ℤ pos 1) x.number)

  adds : (h : ℤ) (xs : List Entry) → Chained (Some (h +ℤ pos 1)) xs → Each Going xs → Adds h xs
  adds h [] c g = (0, tt, sym (+ℤ_idr h), omega arith)
  adds h (x ∷ ys) c g =
      one-step h x ys c.0 c.1 g.0 (verdict_of x) c.1.gone (says_at h x c.0)
      (λ l. adds x.number ys (rw l at c.2) g.1)
      (λ l. adds h ys (rw (l, c.0) at c.2) g.1)

  -- ---- a stretch of chained entries

  -- the entries past some of them are chained too
  past : (o : Option ℤ) (xs ys : List Entry) → Chained o (xs ++ ys) → (p : Option ℤ) × Chained p ys
  past o [] ys c = (o, c)
  past o (x ∷ xs) ys c = past (next_of x) xs ys c.2

  front : (o : Option ℤ) (xs ys : List Entry) → Chained o (xs ++ ys) → Chained o xs
  front o [] ys c = tt
  front o (x ∷ xs) ys c = (c.0, c.1, front (next_of x) xs ys c.2)

  restarted : (x : Entry) → Right x → x.says.event ≡ Some Restart → late_entry x ≡ false
  restarted x r e = not_late (verdict_of x) (fitting s x) (late_entry x) (rules-at x) (r.told.restart.0 e)

  sums : (x : Entry) (xs rest : List Entry) → Right x → late_entry x ≡ false → Chained (next_of x) (xs ++ rest) → Each Going xs → Sums x xs
  sums x xs rest r l c g =
      let a : Adds x.number xs = adds x.number xs (front (Some (x.number +ℤ pos 1)) xs rest (rw l at c)) g in
      let e : length (samples_of (x ∷ accepted_in xs)) + missing_told xs ≡ 238 * (a.0 + 1) = simp length-append (omega (arith, a.3, r.whole)) in
      record {
        rising = a.1;
        sum = rw (distance-of x.number (highest x.number (accepted_in xs)) a.0 a.2) (ap pos e);
      }

  starts : (before : List Entry) (x : Entry) (ys : List Entry) → Chained None (before ++ (x ∷ ys)) → (before ≡ []) ⊎ (x.says.event ≡ Some Restart) → late_entry x ≡ false
  starts [] x ys c (inl e) = first-in x c.0
  starts (y ∷ before) x ys c (inl e) = absurd (cons-ne-nil y before e)
  starts before x ys c (inr e) = let q = past None before (x ∷ ys) c in restarted x q.1.1 e

  pub stretches : (entries : List Entry) → Chained None entries → (before : List Entry) (x : Entry) (xs rest : List Entry) → Stretch entries before x xs rest → Sums x xs
  stretches entries c before x xs rest t =
      let c' : Chained None (before ++ (x ∷ (xs ++ rest))) = subst (λ (l : List Entry). Chained None l) t.0 c in
      let q = past None before (x ∷ (xs ++ rest)) c' in
      sums x xs rest q.1.1 (starts before x (xs ++ rest) c' t.1) q.1.2 t.2

  pub each : (o : Option ℤ) (entries : List Entry) → Chained o entries → Each (Judged s) entries
  each o [] c = tt
  each o (x ∷ xs) c = (c.1.told, each (next_of x) xs c.2)

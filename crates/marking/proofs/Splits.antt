-- A list of arrivals is cut where demand 3's stretches begin, and each of these is one of its stretches. Assumes nothing.
use Rattle.std.specs.Prelude.{Option, Some, None}
use Prim.Native.Nat.{ℕ}
use mathlib.Core.Path.{◌≡◌, refl, sym, ap, subst, ◌∙◌}
use mathlib.Core.Logic.{◌≢◌, inl, inr}
use mathlib.Core.Bool.{Bool, true, false, cond}
use mathlib.Core.List.{List, [], ◌∷◌, ◌++◌, append_assoc}
use native.Mathlib.Omega.{arith}
use Rattle.base.specs.Each.{Each}
use Rattle.sequence.specs.declared.SeqEvent.{SeqEvent}
use Rattle.sequence.specs.declared.SeqEvent.TheVariants.{InOrder, Gap, Stale, Restart}
use Rattle.account.specs.Ledger.{Entry}
use Rattle.account.specs.Demand3.{Stretch, Sums}
use Rattle.marking.specs.Spans.{Span, is_restart, Cut, broken, unbroken, cut, spans_of, arrivals_in, Steady, Begun, Splits}

restarted : (o : Option SeqEvent) → is_restart o ≡ true → o ≡ Some Restart
restarted None h = let z : ◌≡◌ {A = ℕ} 0 1 = cc in absurd (omega arith)
restarted (Some InOrder) h = let z : ◌≡◌ {A = ℕ} 0 1 = cc in absurd (omega arith)
restarted (Some (Gap k)) h = let z : ◌≡◌ {A = ℕ} 0 1 = cc in absurd (omega arith)
restarted (Some Stale) h = let z : ◌≡◌ {A = ℕ} 0 1 = cc in absurd (omega arith)
restarted (Some Restart) h = refl

going : (o : Option SeqEvent) → is_restart o ≡ false → o ≢ Some Restart
going o h e = let z : ◌≡◌ {A = ℕ} 0 1 = let k : is_restart (Some Restart) ≡ false = subst (λ (p : Option SeqEvent). is_restart p ≡ false) e h in cc in absurd (omega arith)

-- of a list that is cut: nothing is lost, the stretches are begun by Restart, and none is told within one
pub record Right (u : Cut) (xs : List Entry) : Type 0 where
  pub all : u.front ++ arrivals_in u.spans ≡ xs
  pub begun : Each (λ q. q.first.says.event ≡ Some Restart) u.spans
  pub steady : Each Steady u.spans
  pub goes : Each (λ y. y.says.event ≢ Some Restart) u.front

step : (x : Entry) (xs : List Entry) (u : Cut) (b : Bool) → is_restart x.says.event ≡ b → Right u xs
    → Right (cond b (broken x u) (unbroken x u)) (x ∷ xs)
step x xs u true h r =
    record {
      all = ap (λ (l : List Entry). x ∷ l) r.all;
      begun = (restarted x.says.event h, r.begun);
      steady = (r.goes, r.steady);
      goes = tt;
    }
step x xs u false h r =
    record { all = ap (λ (l : List Entry). x ∷ l) r.all; begun = r.begun; steady = r.steady; goes = (going x.says.event h, r.goes) }

pub cut_right : (xs : List Entry) → Right (cut xs) xs
cut_right [] = record { all = refl; begun = tt; steady = tt; goes = tt }
cut_right (x ∷ xs) = step x xs (cut xs) (is_restart x.says.event) refl (cut_right xs)

pub splits : (xs : List Entry) → Splits xs (spans_of xs)
splits [] = record { all = refl; begun = tt; steady = tt }
splits (x ∷ xs) =
    let r = cut_right xs in
    record { all = ap (λ (l : List Entry). x ∷ l) r.all; begun = r.begun; steady = (r.goes, r.steady) }

-- ---- each is one of demand 3's

module _ (entries : List Entry) (sums : (before : List Entry) (x : Entry) (xs past : List Entry) → Stretch entries before x xs past → Sums x xs) where
  later : (before : List Entry) (ps : List Span) → entries ≡ before ++ arrivals_in ps → Each (λ q. q.first.says.event ≡ Some Restart) ps → Each Steady ps
      → Each (λ q. Sums q.first q.others) ps
  later before [] e b u = tt
  later before (p ∷ ps) e b u = (
    sums before p.first p.others (arrivals_in ps) (e, inr b.0, u.0),
    later (before ++ (p.first ∷ p.others)) ps (e ∙ sym (append_assoc before (p.first ∷ p.others) (arrivals_in ps))) b.1 u.1,
  )

  from_first : (ps : List Span) → entries ≡ arrivals_in ps → Begun ps → Each Steady ps → Each (λ q. Sums q.first q.others) ps
  from_first [] e b u = tt
  from_first (p ∷ ps) e b u =
      (sums [] p.first p.others (arrivals_in ps) (e, inl refl, u.0), later (p.first ∷ p.others) ps e b u.1)

  pub sums-each : Each (λ q. Sums q.first q.others) (spans_of entries)
  sums-each = let r = splits entries in from_first (spans_of entries) (sym r.all) r.begun r.steady

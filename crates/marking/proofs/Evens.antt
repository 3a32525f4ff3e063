-- In each stretch that is told of at most 2^25 calls, samples and missing add up. Assumes nothing.
use Rattle.std.specs.Prelude.{Some, None}
use Prim.Native.Nat.{ℕ, ◌+◌, ◌-◌, ◌*◌, ◌%◌, ◌≤◌, ◌<◌, ◌^◌}
use mathlib.Core.Path.{◌≡◌, refl, sym, ap, subst, ◌∙◌}
use mathlib.Core.Bool.{Bool, true, false, cond}
use mathlib.Core.List.{List, [], ◌∷◌, ◌++◌, map}
use lib.ListN.{length}
use lib.IntN.{ℤ, pos, ◌+ℤ◌, ◌-ℤ◌, ◌*ℤ◌, +ℤ_idr}
use native.Mathlib.Omega.{arith}
use Rattle.base.specs.Each.{Each}
use Rattle.base.proofs.Eaches.{each-then}
use Rattle.sequence.specs.declared.SeqEvent.{SeqEvent}
use Rattle.sequence.specs.declared.SeqEvent.TheVariants.{InOrder, Gap, Stale, Restart}
use Rattle.model.specs.Host.{Reply}
use Rattle.model.specs.declared.settings.Settings.{Settings}
use Rattle.account.specs.Whole.{count_of, ahead}
use Rattle.account.specs.Book.{News, Quiet, Began, Took, Came, Book, noted}
use Rattle.account.specs.Ledger.{Sent, Line, paired, Entry, entry, ledger, fitting, late_entry, accepted_in, samples_of, missing_told, highest}
use Rattle.account.specs.Demand3.{Lies, Sums}
use Rattle.account.proofs.Numbers.{count_small}
use Rattle.account.proofs.Verdict.{Says}
use Rattle.account.proofs.Stretches.{past-e, distance-of, verdict_of, says_at, first-in}
use Rattle.tally.specs.Stretch.{Even}
use Rattle.marking.specs.Spans.{Span, is_restart, Cut, broken, unbroken, cut, spans_of, told_of}
use Rattle.marking.proofs.Onward.{highest-on, rises_by}
use Rattle.marking.proofs.Spans.{near-above, Fact, Chain, after-accepted, after-stale}

-- ---- how far a stretch can rise

-- n numbers from h on, of which each is at most 2^31 past the one before
abbrev Within : ℕ → ℤ → List Entry → Type 0
Within n h l = ahead (highest h l -ℤ h) ≤ 2 ^ 31 * n

abbrev pub Spanned : ℕ → Span → Type 0
Spanned n p = Within n p.first.number (accepted_in p.others)

-- of a list that is cut
pub record Bounds (n : ℕ) (h : ℤ) (u : Cut) : Type 0 where
  pub front : Within n h (accepted_in u.front)
  pub spans : Each (Spanned n) u.spans

each-wider : (n m : ℕ) (ps : List Span) → n ≤ m → Each (Spanned n) ps → Each (Spanned m) ps
each-wider n m ps h = each-then (Spanned n) (Spanned m) (λ p e. omega (arith, e, h)) ps

stays : (h : ℤ) → ahead (h -ℤ h) ≡ 0
stays h = ap ahead (distance-of h h 0 (sym (+ℤ_idr h)))

module _ (s : Settings) where
  module _ (h : ℤ) (x : Entry) (xs : List Entry) (n : ℕ) where
    abbrev Bound : Type 0
    Bound = Bounds (n + 1) h (cut (x ∷ xs))

    by-test : (b : Bool) → is_restart x.says.event ≡ b → Bounds (n + 1) h (cond b (broken x (cut xs)) (unbroken x (cut xs))) → Bound
    by-test b e r = subst (λ (t : Bool). Bounds (n + 1) h (cond t (broken x (cut xs)) (unbroken x (cut xs)))) (sym e) r

    risen : (k : ℕ) → x.number ≡ h +ℤ pos (k + 1) → k < 2 ^ 31 → late_entry x ≡ false → Within n x.number (accepted_in (cut xs).front) → Within (n + 1) h (accepted_in (x ∷ (cut xs).front))
    risen k up near l w = rw l (let e = rises_by h x.number k (accepted_in (cut xs).front) up in omega (arith, e, near, w))

    one : (v : SeqEvent) → x.says.event ≡ Some v → x.book.expected ≡ Some (h +ℤ pos 1) → Lies x → Fact s x → Says (x.number -ℤ (h +ℤ pos 1)) v (fitting s x) (late_entry x)
        → (late_entry x ≡ false → Bounds n x.number (cut xs)) → (late_entry x ≡ true → Bounds n h (cut xs)) → Bound
    one InOrder ev e lies f y a b =
        let r = a y.2 in
        by-test false (ap is_restart ev)
        (record { front = risen 0 (past-e h x.number 0 y.0) (omega arith) y.2 r.front; spans = each-wider n (n + 1) (cut xs).spans (omega arith) r.spans })
    one (Gap k) ev e lies f y a b =
        let r = a y.2 in
        by-test false (ap is_restart ev)
        (record {
          front = risen k (past-e h x.number k y.0.0) (near-above h x k e lies y.0.0) y.2 r.front;
          spans = each-wider n (n + 1) (cut xs).spans (omega arith) r.spans;
        })
    one Stale ev e lies f y a b =
        let r = b y.2 in
        by-test false (ap is_restart ev) (record { front = rw y.2 (omega (arith, r.front)); spans = each-wider n (n + 1) (cut xs).spans (omega arith) r.spans })
    one Restart ev e lies f y a b =
        let r = a y.2 in
        by-test true (ap is_restart ev)
        (record { front = omega (arith, stays h); spans = (omega (arith, r.front), each-wider n (n + 1) (cut xs).spans (omega arith) r.spans) })

  bounded : (h : ℤ) (xs : List Entry) → Chain s (Some (h +ℤ pos 1)) xs → Each Lies xs → Bounds (length xs) h (cut xs)
  bounded h [] k l = record { front = omega (arith, stays h); spans = tt }
  bounded h (x ∷ xs) k l =
      subst (λ (n : ℕ). Bounds n h (cut (x ∷ xs))) (omega arith)
      (one h x xs (length xs) (verdict_of s x) k.1.event k.0 l.0 k.1 (says_at s h x k.0)
      (λ late. bounded x.number xs (after-accepted s x xs late k.2) l.1)
      (λ late. bounded h xs (after-stale s h x xs k.0 late k.2) l.1))

  pub spans-bounded : (xs : List Entry) → Chain s None xs → Each Lies xs → Each (Spanned (length xs)) (spans_of xs)
  spans-bounded [] k l = tt
  spans-bounded (x ∷ xs) k l =
      let r = bounded x.number xs (after-accepted s x xs (first-in x k.0) k.2) l.1 in
      (omega (arith, r.front), each-wider (length xs) (length (x ∷ xs)) (cut xs).spans (omega arith) r.spans)

-- ---- a stretch adds up as it is told

product : (j : ℕ) → pos 238 *ℤ (pos j +ℤ pos 1) ≡ pos (238 * (j + 1))
product j = refl

pos-is : (a b : ℕ) → pos a ≡ pos b → a ≡ b
pos-is a b e = cc

even-of : (c j a b : ℕ) → c < 2 ^ 32 → j ≤ 2 ^ 56 → a + b ≡ 238 * (j + 1)
    → (c ≤ (c + j) % 2 ^ 64) × (a % 2 ^ 64 + b % 2 ^ 64 ≡ 238 * ((c + j) % 2 ^ 64 - c + 1))
even-of c j a b hc hj e =
    let h : (c + j) % 2 ^ 64 ≡ c + j = omega arith in
    let ea : a % 2 ^ 64 ≡ a = omega arith in
    let eb : b % 2 ^ 64 ≡ b = omega arith in
    (omega (arith, h), rw (h, ea, eb) (omega (arith, e)))

told-even : (p : Span) (n : ℕ) → n ≤ 2 ^ 25 → Spanned n p → count_of p.first.number ≡ p.first.count → Sums p.first p.others → Even (told_of p)
unfolding told_of
told-even p n few w c t =
    let x = p.first in
    let j = highest-on x.number (accepted_in p.others) in
    let d : highest x.number (accepted_in p.others) -ℤ x.number ≡ pos j.0 = distance-of x.number _ j.0 j.1 in
    let e : length (samples_of (x ∷ accepted_in p.others)) + missing_told p.others ≡ 238 * (j.0 + 1) =
    pos-is _ _ (t.sum ∙ ap (λ (z : ℤ). pos 238 *ℤ (z +ℤ pos 1)) d ∙ product j.0) in
    let a : ahead (highest x.number (accepted_in p.others) -ℤ x.number) ≡ j.0 = ap ahead d in
    let r = even-of x.count j.0 _ _ (omega (arith, count_small x.number, c)) (omega (arith, few, w, a)) e in
    record { rises = rw a r.0; adds = rw a r.1 }

pub told-evens : (n : ℕ) (ps : List Span) → n ≤ 2 ^ 25 → Each (Spanned n) ps → Each (λ p. count_of p.first.number ≡ p.first.count) ps → Each (λ p. Sums p.first p.others) ps
    → Each Even (map told_of ps)
told-evens n [] few w c t = tt
told-evens n (p ∷ ps) few w c t = (told-even p n few w.0 c.0 t.0, told-evens n ps few w.1 c.1 t.1)

-- ---- there are no more arrivals than calls

entries-few : (s : Settings) (b : Book) (ls : List Line) → length (ledger s b ls) ≤ length ls
entries-few s b [] = omega arith
entries-few s b (l ∷ ls) = one l.news (entries-few s (noted s b l.news l.number) ls)
  where
    one : (w : News) → length (ledger s (noted s b w l.number) ls) ≤ length ls → length (entry b w l.number l.says ++ ledger s (noted s b w l.number) ls) ≤ length (l ∷ ls)
    one Quiet h = omega (arith, h)
    one (Began now) h = omega (arith, h)
    one (Took now) h = omega (arith, h)
    one (Came i count) h = omega (arith, h)

lines-few : (s : Settings) (calls : List Sent) (rs : List Reply) → length (paired s calls rs) ≤ length calls
lines-few s [] rs = omega arith
lines-few s (c ∷ calls) [] = omega arith
lines-few s (c ∷ calls) (r ∷ rs) = let h = lines-few s calls rs in omega (arith, h)

pub arrivals-few : (s : Settings) (b : Book) (calls : List Sent) (rs : List Reply) → length (ledger s b (paired s calls rs)) ≤ length calls
arrivals-few s b calls rs = let a = entries-few s b (paired s calls rs) in let c = lines-few s calls rs in omega (arith, a, c)

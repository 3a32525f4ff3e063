-- What the code notes of a call's numbers is what is kept of that call. Assumes nothing.
use Prim.Native.Nat.{ℕ, ◌+◌, ◌*◌, ◌%◌, ◌^◌}
use mathlib.Core.Path.{◌≡◌, refl, sym, ap, ◌∙◌}
use mathlib.Core.Logic.{◌≢◌}
use mathlib.Core.Bool.{true}
use mathlib.Core.List.{List, [], ◌∷◌}
use lib.ListN.{length}
use lib.Ieee.{Float}
use native.Mathlib.Omega.{arith}
use native.Mathlib.Decide.{ℕ_discrete}
use borrow.Author.Tests.{eqb-true, eq-eqb, ne_eqb}
use Rattle.base.proofs.Picks.{pick-t, pick-f, pick-either}
use Rattle.model.specs.Answer.{Answer, refused, done, heard, took, slot, flag}
use Rattle.model.specs.Host.{Call, Arrival, Take}
use Rattle.encoding.specs.Words.{sender_of, taken_by, call_of}
use Rattle.encoding.specs.Lists.{part}
use Rattle.encoding.specs.declared.words.Words.{Words}
use Rattle.tally.specs.Stretches.{noted_all}
use Rattle.tally.specs.Table.{Noted, most_stretches, stretches_of, fitting}
use Rattle.tally.proofs.Notes.{note-holds, note-handed, note-size}
use Rattle.tally.specs.declared.record.Record.{Record}
use Rattle.tally.specs.declared.account.Account.{Account}
use Rattle.marking.specs.Records.{heard_as, record_of, pairs_of}
use Rattle.marking.specs.Noting.{noted_by, table_noted, handed_by, note_of, table_of}

-- ---- the call of these numbers

module _ (w : Words) (o n p : List ℕ) (q : List Float) where
  is-arrival : w.kind ≡ 2 → call_of w o n p q ≡ Arrival (record { now = w.reading; later = w.later; from = sender_of w.address w.port; octets = o; waiting = n }) p
  unfolding call_of
  is-arrival e =
      pick-f _ _ _ (ne_eqb w.kind 0 (λ z. omega arith)) ∙ pick-f _ _ _ (ne_eqb w.kind 1 (λ z. omega arith)) ∙ pick-t _ _ _ (eq-eqb w.kind 2 e)

  is-take : w.kind ≡ 3 → call_of w o n p q ≡ Take w.reading q
  unfolding call_of
  is-take e =
      pick-f _ _ _ (ne_eqb w.kind 0 (λ z. omega arith))
      ∙ pick-f _ _ _ (ne_eqb w.kind 1 (λ z. omega arith))
      ∙ pick-f _ _ _ (ne_eqb w.kind 2 (λ z. omega arith))
      ∙ pick-t _ _ _ (eq-eqb w.kind 3 e)

  -- of any other kind nothing is kept
  keeps-none : (P : Call → Type 0) → w.kind ≢ 2 → w.kind ≢ 3 → ((c : Call) → ((a : Answer) → (record_of c a ≡ []) × (pairs_of c a ≡ 0)) → P c) → P (call_of w o n p q)
  unfolding call_of
  keeps-none P not2 not3 f =
      pick-either _ _ _ P (λ _. f _ (λ a. (refl, refl)))
      (λ _. pick-either _ _ _ P (λ _. f _ (λ a. (refl, refl)))
      (λ _. pick-either _ _ _ P (λ e. absurd (not2 (eqb-true w.kind 2 e)))
      (λ _. pick-either _ _ _ P (λ e. absurd (not3 (eqb-true w.kind 3 e)))
      (λ _. pick-either _ _ _ P (λ _. f _ (λ a. (refl, refl)))
      (λ _. pick-either _ _ _ P (λ _. f _ (λ a. (refl, refl)))
      (λ _. pick-either _ _ _ P (λ _. f _ (λ a. (refl, refl))) (λ _. f _ (λ a. (refl, refl)))))))))

-- an Arrival's own octets
own-octets : (w : Words) (octets : List ℕ) → w.kind ≡ 2 → part 0 (taken_by w).octets octets ≡ part 0 w.octets octets
unfolding taken_by
own-octets w octets e = ap (λ (n : ℕ). part 0 n octets) (pick-t _ _ _ (eq-eqb w.kind 2 e))

-- ---- the table keeps its places

heard-size : (t : List ℕ) (a : Account) (reading number : ℕ) (ans : Answer) → length t ≡ 7 * most_stretches → length (table_noted t a (heard_as reading number ans)) ≡ length t
heard-size t a reading number (heard e m) size = note-size t a _ size
heard-size t a reading number (refused k) size = refl
heard-size t a reading number (done word) size = refl
heard-size t a reading number (took n) size = refl
heard-size t a reading number (slot held) size = refl
heard-size t a reading number (flag stalled) size = refl

pub table-size : (t : List ℕ) (a : Account) (w : Words) (octets : List ℕ) (ans : Answer) → length t ≡ 7 * most_stretches → length (table_of t a w octets ans) ≡ length t
unfolding table_of
table-size t a w octets ans size = pick-either _ _ _ (λ (u : List ℕ). length u ≡ length t) (λ _. heard-size t a _ _ ans size) (λ _. refl)

-- ---- records

module _ (t : List ℕ) (size : length t ≡ 7 * most_stretches) (a : Account) where
  by-holds : (xs : Record) (ys : List Record) → ys ≡ [] → (noted_by a (xs ∷ ys)).fits ≡ true → stretches_of (table_noted t a (xs ∷ ys)) (noted_by a (xs ∷ ys)).account ≡ noted_all (stretches_of t a) (xs ∷ ys)
  by-holds x ys e f = note-holds t size a x f ∙ ap (noted_all (noted_all (stretches_of t a) (x ∷ []))) (sym e)

  heard-holds : (reading number : ℕ) (ans : Answer) → (noted_by a (heard_as reading number ans)).fits ≡ true
      → stretches_of (table_noted t a (heard_as reading number ans)) (noted_by a (heard_as reading number ans)).account ≡ noted_all (stretches_of t a) (heard_as reading number ans)
  heard-holds reading number (heard e m) f = by-holds _ [] refl f
  heard-holds reading number (refused k) f = refl
  heard-holds reading number (done word) f = refl
  heard-holds reading number (took n) f = refl
  heard-holds reading number (slot held) f = refl
  heard-holds reading number (flag stalled) f = refl

  heard-handed : (reading number : ℕ) (ans : Answer) → (noted_by a (heard_as reading number ans)).account.handed ≡ a.handed
  heard-handed reading number (heard e m) = note-handed a _
  heard-handed reading number (refused k) = refl
  heard-handed reading number (done word) = refl
  heard-handed reading number (took n) = refl
  heard-handed reading number (slot held) = refl
  heard-handed reading number (flag stalled) = refl

  take-holds : (ans : Answer) → stretches_of t (handed_by a ans) ≡ stretches_of t a
  take-holds (took n) = refl
  take-holds (heard e m) = refl
  take-holds (refused k) = refl
  take-holds (done word) = refl
  take-holds (slot held) = refl
  take-holds (flag stalled) = refl

  -- so many were handed out before
  take-handed : (before : ℕ) (now : ℕ) (q : List Float) (ans : Answer) → a.handed ≡ before % 2 ^ 64 → (handed_by a ans).handed ≡ (before + pairs_of (Take now q) ans) % 2 ^ 64
  take-handed before now q (took n) h = omega (arith, h)
  take-handed before now q (heard e m) h = omega (arith, h)
  take-handed before now q (refused k) h = omega (arith, h)
  take-handed before now q (done word) h = omega (arith, h)
  take-handed before now q (slot held) h = omega (arith, h)
  take-handed before now q (flag stalled) h = omega (arith, h)

  module _ (w : Words) (octets numbers packets : List ℕ) (places : List Float) (ans : Answer) where
    abbrev call : Call
    call = call_of w (part 0 (taken_by w).octets octets) numbers packets places

    -- the account after it holds the stretches after it, and the pairs
    pub record After (t' : List ℕ) (r : Noted) (c : Call) (before : ℕ) : Type 0 where
      pub stretches : r.fits ≡ true → stretches_of t' r.account ≡ noted_all (stretches_of t a) (record_of c ans)
      pub handed : a.handed ≡ before % 2 ^ 64 → r.account.handed ≡ (before + pairs_of c ans) % 2 ^ 64

    arrival-after : (before : ℕ) → w.kind ≡ 2 → After (table_of t a w octets ans) (note_of a w octets ans) call before
    unfolding note_of table_of
    arrival-after before e =
        let z = eq-eqb w.kind 2 e in
        let c = is-arrival w (part 0 (taken_by w).octets octets) numbers packets places e in
        let o = own-octets w octets e in
        rw (c, pick-t _ _ _ z, pick-t _ _ _ z, o)
        (record { stretches = heard-holds _ _ ans; handed = λ h. heard-handed _ _ ans ∙ omega (arith, h) })

    take_after : (before : ℕ) → w.kind ≡ 3 → After (table_of t a w octets ans) (note_of a w octets ans) call before
    unfolding note_of table_of
    take_after before e =
        let z = ne_eqb w.kind 2 (λ y. omega arith) in
        let c = is-take w (part 0 (taken_by w).octets octets) numbers packets places e in
        rw (c, pick-f _ _ _ z, pick-f _ _ _ z, pick-t _ _ _ (eq-eqb w.kind 3 e))
        (record { stretches = λ f. take-holds ans; handed = take-handed before w.reading places ans })

    other_after : (before : ℕ) → w.kind ≢ 2 → w.kind ≢ 3 → After (table_of t a w octets ans) (note_of a w octets ans) call before
    unfolding note_of table_of
    other_after before e f =
        let z = ne_eqb w.kind 2 e in
        rw (pick-f _ _ _ z, pick-f _ _ _ z, pick-f _ _ _ (ne_eqb w.kind 3 f))
        (keeps-none w _ numbers packets places (λ (c : Call). After t (fitting a) c before) e f
        (λ c k. record { stretches = λ _. ap (noted_all (stretches_of t a)) (sym (k ans).0); handed = λ h. let y = (k ans).1 in omega (arith, h, y) }))

    pub note-after : (before : ℕ) → After (table_of t a w octets ans) (note_of a w octets ans) call before
    note-after before =
        elim (ℕ_discrete w.kind 2) [
          | yes e ↦ arrival-after before e
          | no e ↦ elim (ℕ_discrete w.kind 3) [ yes f ↦ take_after before f | no f ↦ other_after before e f ]
        ]

-- What an answer's code says, and what the code makes of it. Assumes nothing.
use Rattle.std.specs.Prelude.{Option, Some, None}
use Prim.Native.Nat.{ℕ, ◌≤◌, ◌<◌}
use mathlib.Core.Path.{◌≡◌, refl, sym, ap, ◌∙◌}
use mathlib.Core.Logic.{◌≢◌}
use mathlib.Core.List.{List, [], ◌∷◌}
use native.Mathlib.Omega.{arith}
use borrow.Author.Tests.{eq-eqb, ne_eqb}
use Rattle.base.specs.Pick.{pick}
use Rattle.base.proofs.Picks.{pick-t, pick-f}
use Rattle.model.specs.Answer.{Answer}
use Rattle.answers.specs.Code.{answer_of}
use Rattle.answers.proofs.Decodes.{answer-cases}
use Rattle.encoding.specs.declared.words.Words.{Words}
use Rattle.tally.specs.Table.{Noted, fitting, handing}
use Rattle.tally.specs.declared.record.Event.{Event}
use Rattle.tally.specs.declared.record.Event.TheVariants.{InOrder, Gap, Stale, Restart}
use Rattle.tally.specs.declared.record.Record.{Record}
use Rattle.tally.specs.declared.account.Account.{Account}
use Rattle.marking.specs.Records.{heard_as}
use Rattle.marking.specs.Noting.{said_of, SaidBy, noted_by, table_noted, handed_by, heard_in, note_of, table_of}

-- ---- what is said

pub said-gap : (c : ℕ) → 19 ≤ c → SaidBy c (Some Gap)
said-gap c h =
    record {
      says = λ v.
          answer-cases (λ a. Some Gap ≡ said_of a) c v (λ e. absurd (omega arith)) (λ l w. absurd (omega arith)) (λ e. absurd (omega arith)) (λ e. absurd (omega arith))
          (λ e. absurd (omega arith)) (λ e. absurd (omega arith)) (λ e. absurd (omega arith)) (λ e. absurd (omega arith)) (λ e. absurd (omega arith)) (λ e. absurd (omega arith))
          (λ l. refl);
    }

pub said-in-order : (c : ℕ) → c ≡ 11 → SaidBy c (Some InOrder)
unfolding pick
said-in-order c e = record { says = λ v. rw e refl }

pub said-stale : (c : ℕ) → c ≡ 12 → SaidBy c (Some Stale)
unfolding pick
said-stale c e = record { says = λ v. rw e refl }

pub said-restart : (c : ℕ) → c ≡ 13 → SaidBy c (Some Restart)
unfolding pick
said-restart c e = record { says = λ v. rw e refl }

pub said-rest : (c : ℕ) → c < 19 → c ≢ 11 → c ≢ 12 → c ≢ 13 → SaidBy c None
said-rest c h a b d =
    record {
      says = λ v.
          answer-cases (λ x. None ≡ said_of x) c v (λ e. refl) (λ l w. refl) (λ e. absurd (a e)) (λ e. absurd (b e)) (λ e. absurd (d e)) (λ e. refl) (λ e. refl) (λ e. refl)
          (λ e. refl) (λ e. refl) (λ l. absurd (omega arith));
    }

-- the record of an arrival that is told this
abbrev pub record_said : ℕ → ℕ → ℕ → Option Event → List Record
record_said reading number value None = []
record_said reading number value (Some e) = record { reading = reading; number = number; event = e; missing = value } ∷ []

heard-said : (reading number c v : ℕ) → heard_as reading number (answer_of c v) ≡ record_said reading number v (said_of (answer_of c v))
heard-said reading number c v =
    answer-cases (λ a. heard_as reading number a ≡ record_said reading number v (said_of a)) c v (λ e. refl) (λ h w. refl) (λ e. refl) (λ e. refl) (λ e. refl) (λ e. refl) (λ e. refl)
    (λ e. refl) (λ e. refl) (λ e. refl) (λ h. refl)

-- ---- what is made of it

module _ (t : List ℕ) (a : Account) (reading number c v : ℕ) where
  pub event-said : (w : Event) → Some w ≡ said_of (answer_of c v) → (r : Noted) (t' : List ℕ)
      → (r ≡ noted_by a (record_said reading number v (Some w))) × (t' ≡ table_noted t a (record_said reading number v (Some w)))
      → (r ≡ noted_by a (heard_as reading number (answer_of c v))) × (t' ≡ table_noted t a (heard_as reading number (answer_of c v)))
  event-said w e r t' h = let z = heard-said reading number c v ∙ ap (record_said reading number v) (sym e) in (rw z h.0, rw z h.1)

pub not-took : (a : Account) (c v : ℕ) → c ≢ 14 → a ≡ handed_by a (answer_of c v)
not-took a c v n =
    answer-cases (λ x. a ≡ handed_by a x) c v (λ e. refl) (λ h w. refl) (λ e. refl) (λ e. refl) (λ e. refl) (λ e. absurd (n e)) (λ e. refl) (λ e. refl) (λ e. refl) (λ e. refl)
    (λ h. refl)

pub is-took : (a : Account) (c v : ℕ) → c ≡ 14 → handing a v ≡ handed_by a (answer_of c v)
unfolding pick
is-took a c v e = rw e refl

-- ---- by the kind of the call

module _ (t : List ℕ) (a : Account) (w : Words) (octets : List ℕ) (answer : Answer) (r : Noted) where
  pub of-arrival : w.kind ≡ 2 → (t' : List ℕ) → (r ≡ noted_by a (heard_in w octets answer)) × (t' ≡ table_noted t a (heard_in w octets answer))
      → (r ≡ note_of a w octets answer) × (t' ≡ table_of t a w octets answer)
  unfolding note_of table_of
  of-arrival k t' h = let z = eq-eqb w.kind 2 k in (h.0 ∙ sym (pick-t _ _ _ z), h.1 ∙ sym (pick-t _ _ _ z))

  pub of-take : w.kind ≡ 3 → r ≡ fitting (handed_by a answer) → (r ≡ note_of a w octets answer) × (t ≡ table_of t a w octets answer)
  unfolding note_of table_of
  of-take k h =
      let z = ne_eqb w.kind 2 (λ e. omega arith) in
      (h ∙ sym (pick-t _ _ _ (eq-eqb w.kind 3 k)) ∙ sym (pick-f _ _ _ z), sym (pick-f _ _ _ z))

  pub of_other : w.kind ≢ 2 → w.kind ≢ 3 → r ≡ fitting a → (r ≡ note_of a w octets answer) × (t ≡ table_of t a w octets answer)
  unfolding note_of table_of
  of_other k l h =
      let z = ne_eqb w.kind 2 k in
      (h ∙ sym (pick-f _ _ _ (ne_eqb w.kind 3 l)) ∙ sym (pick-f _ _ _ z), sym (pick-f _ _ _ z))

-- A call that a line was read as is always run: its numbers are within the rooms that are lent for it. Assumes nothing.
use Rattle.std.specs.Prelude.{is_ok, ⊤, Result, Ok}
use Rattle.encoding.specs.declared.check.ListError.{ListError}
use Prim.Native.Nat.{ℕ, ◌/◌, ◌%◌, ◌≤◌, ◌^◌}
use mathlib.Core.Path.{◌≡◌, refl, sym, ap, ◌∙◌}
use mathlib.Core.Bool.{Bool, true, ◌&&◌}
use mathlib.Core.List.{List}
use lib.ListN.{length}
use lib.Dec.{eqb}
use lib.Ieee.{Float}
use native.Mathlib.Omega.{arith}
use borrow.Author.Tests.{le-leb, eq-eqb, eqb-true}
use Rattle.base.proofs.Picks.{pick-t, pick-either}
use Rattle.model.specs.State.{State}
use Rattle.encoding.specs.Words.{words_at, is_call, lends_packets, if_used, taken_by, nothing, within}
use Rattle.encoding.specs.Lists.{Lent, room, taken_with, check_from, outcome_in, outcome_of}
use Rattle.replay.specs.Runs.{Left, carried, Carries}
use Rattle.encoding.specs.declared.words.Words.{Words}
use Rattle.examining.specs.Marks.{Rooms}
use Rattle.lines.specs.Call.{Fit}

both : (a b : Bool) → a ≡ true → b ≡ true → a && b ≡ true
both a b e f = rw (e, f) refl

used-most : (b : Bool) (n most : ℕ) → (b ≡ true → n ≤ most) → if_used b n ≤ most
used-most b n most h = pick-either _ _ _ (λ (k : ℕ). k ≤ most) h (λ _. omega arith)

module _ (l : Lent) (answers : ℕ) (one : length l.calls ≡ 8) (r : Rooms l answers) (h : Fit l.calls) where
  abbrev w : Words
  w = words_at l.calls 0

  is-call : is_call w ≡ true
  is-call = both _ _ (le-leb w.kind 7 h.kind) (both _ _ (le-leb w.address (2 ^ 32) h.address) (le-leb w.port 65535 (omega (arith, h.port))))

  has_room : within (taken_with l.calls 0 nothing) (room l) ≡ true
  unfolding taken_by
  has_room =
      let o = used-most (eqb w.kind 2) w.octets 2048 (λ _. h.octets) in
      let n = used-most (eqb w.kind 2) w.numbers 8193 (λ _. h.waiting) in
      let p = used-most (lends_packets w.kind) w.places 8192 (λ _. h.places) in
      let q = used-most (eqb w.kind 3) w.places 1024 (λ e. h.taken (eqb-true w.kind 3 e)) in
      both _ _ (le-leb _ (length l.octets) (omega (arith, o, r.octets)))
      (both _ _ (le-leb _ (length l.numbers) (omega (arith, n, r.numbers)))
      (both _ _ (le-leb _ (length l.packets) (omega (arith, p, r.packets))) (le-leb _ (length l.places) (omega (arith, q, r.places)))))

  checked : check_from l.calls (room l) 1 0 nothing ≡ Ok tt
  unfolding check_from
  checked = pick-t _ _ _ is-call ∙ pick-t _ _ _ has_room

  fit-runs : outcome_of l answers ≡ Ok tt
  unfolding outcome_in
  fit-runs =
      pick-t _ _ _ (ap (λ (n : ℕ). eqb (n % 8) 0) one)
      ∙ pick-t _ _ _ (eq-eqb answers (length l.calls) (r.answer ∙ sym one))
      ∙ ap (λ (n : ℕ). check_from l.calls (room l) (n / 8) 0 nothing) one
      ∙ checked

-- what the code says became of it
pub fit-ran : (outcome : Result ⊤ ListError) (st : State) (l : Lent) (answers₀ answers packets : List ℕ) (places : List Float) (st' : State)
    → Carries outcome st l answers₀ answers packets places st' → length l.calls ≡ 8 → Rooms l (length answers₀) → Fit l.calls → outcome ≡ Ok tt
unfolding carried
fit-ran outcome st l answers₀ answers packets places st' c one r h =
    ap (λ (x : Left). x.outcome) (c.leaves ∙ pick-t _ _ _ (ap is_ok (fit-runs l (length answers₀) one r h)))

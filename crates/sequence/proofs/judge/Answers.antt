-- `sequence::judge` meets its contract: the tests in 01's order. Assumes nothing.
use borrow.Author.Rules.{rules}
use Rattle.std.proofs.Common.{◌≡◌, ℕ, ◌+◌, ◌-◌, ◌%◌, ◌^◌, ◌<◌, sym, ap, ◌∙◌}
use Rattle.sequence.specs.Tracker.{less, meant}
use Rattle.sequence.proofs.Meanings.{less-is, in_order, at_zero, gap, far, one-too-many, stale}
use Rattle.sequence.proofs.judge.Goals as goal

-- how far the number lies past the expected one, as a wrapping subtract has it
abbrev past : ℕ → ℕ → ℕ
past seq expected = (seq + (2 ^ 32 - expected)) % 2 ^ 32

-- what the difference means is what the number does
so : (seq expected run : ℕ) → expected < 2 ^ 32 → meant (past seq expected) run seq ≡ meant (less seq expected) run seq
so seq expected run k = ap (λ (d : ℕ). meant d run seq) (less-is expected seq k)

pub returns-then-d-eq0 : goal.returns-then-d-eq0
returns-then-d-eq0 c =
    let a = c.args in
    in_order (past a.seq a.expected) a.run a.seq c.if-d-eq0.true
    ∙ so a.seq a.expected a.run (search rules)

pub returns-then-zero_restarts : goal.returns-then-zero_restarts
returns-then-zero_restarts c =
    let a = c.args in
    at_zero (past a.seq a.expected) a.run a.seq c.if-d-eq0.false (sym c.zero_restarts.ensures ∙ c.if-zero_restarts.true)
    ∙ so a.seq a.expected a.run (search rules)

pub returns-then-d-lt2147483648 : goal.returns-then-d-lt2147483648
returns-then-d-lt2147483648 c =
    let a = c.args in
    gap (past a.seq a.expected) a.run a.seq c.if-d-eq0.false (sym c.zero_restarts.ensures ∙ c.if-zero_restarts.false) c.if-d-lt2147483648.true
    ∙ so a.seq a.expected a.run (search rules)

pub returns-then-d-lt-STALE_FROM : goal.returns-then-d-lt-STALE_FROM
returns-then-d-lt-STALE_FROM c =
    let a = c.args in
    far (past a.seq a.expected) a.run a.seq c.if-d-eq0.false (sym c.zero_restarts.ensures ∙ c.if-zero_restarts.false) c.if-d-lt2147483648.false
    c.if-d-lt-STALE_FROM.true
    ∙ so a.seq a.expected a.run (search rules)

pub returns-then-run : goal.returns-then-run
returns-then-run c =
    let a = c.args in
    one-too-many (past a.seq a.expected) a.run a.seq c.if-d-eq0.false (sym c.zero_restarts.ensures ∙ c.if-zero_restarts.false) c.if-d-lt2147483648.false
    c.if-d-lt-STALE_FROM.false c.if-run.true
    ∙ so a.seq a.expected a.run (search rules)

pub returns : goal.returns
returns c =
    let a = c.args in
    stale (past a.seq a.expected) a.run a.seq c.if-d-eq0.false (sym c.zero_restarts.ensures ∙ c.if-zero_restarts.false) c.if-d-lt2147483648.false
    c.if-d-lt-STALE_FROM.false c.if-run.false
    ∙ so a.seq a.expected a.run (search rules)

-- `marking::note::said_by` meets its contract. Assumes nothing.
use native.Mathlib.Omega.{arith}
use Rattle.marking.proofs.Codes.{said-gap, said-in-order, said-stale, said-restart, said-rest}
use Rattle.marking.proofs.note.said_by.Goals as goal

pub returns-then-code-ge-GAP : goal.returns-then-code-ge-GAP
returns-then-code-ge-GAP c = said-gap _ c.if-code-ge-GAP.true

pub returns-then-code-eq-IN_ORDER : goal.returns-then-code-eq-IN_ORDER
returns-then-code-eq-IN_ORDER c = said-in-order _ c.if-code-eq-IN_ORDER.true

pub returns-then-code-eq-STALE : goal.returns-then-code-eq-STALE
returns-then-code-eq-STALE c = said-stale _ c.if-code-eq-STALE.true

pub returns-then-code-eq-RESTART : goal.returns-then-code-eq-RESTART
returns-then-code-eq-RESTART c = said-restart _ c.if-code-eq-RESTART.true

pub returns : goal.returns
returns c = said-rest _ (omega arith) c.if-code-eq-IN_ORDER.false c.if-code-eq-STALE.false c.if-code-eq-RESTART.false

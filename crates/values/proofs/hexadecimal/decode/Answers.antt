-- `values::hexadecimal::decode` reads a pair of digits a turn. Assumes nothing.
use Prim.Native.Nat.{ℕ, ◌+◌, ◌*◌}
use mathlib.Core.Path.{refl, sym, ap, ◌∙◌}
use mathlib.Core.List.{List}
use lib.ListN.{set, length-set}
use native.Mathlib.Omega.{arith}
use Rattle.octets.proofs.Tables.{tab-none, tab-more}
use Rattle.text.proofs.Runs.{passed_none}
use Rattle.values.specs.Octets.{octet_at}
use Rattle.values.proofs.Hexadecimals.{first-bad, second-bad, pair_read, all_digits, all-stored}
use borrow.Author.Rules.{rules}
use Rattle.values.proofs.hexadecimal.decode.Goals as goal

pub loop-i-init : goal.loop-i-init
loop-i-init c = (search rules, refl, passed_none _ _, tab-none _ _)

pub returns-then-a-ge16 : goal.returns-then-a-ge16
returns-then-a-ge16 c =
    let h = first-bad c.args.w.now c.loop-i.i c.args.count c.requires.0 c.loop-i.invariant.2 (search rules) (omega (arith, c.digit-a.ensures.0)) in
    (sym h.0, all-stored _ _ _ _ h.1 c.loop-i.invariant.3)

pub returns-then-b-ge16 : goal.returns-then-b-ge16
returns-then-b-ge16 c =
    let h = second-bad c.args.w.now c.loop-i.i c.args.count c.requires.0 c.loop-i.invariant.2 (search rules) (omega (arith, c.digit-a.ensures.0)) (omega (arith, c.digit-b.ensures.0)) in
    (sym h.0, all-stored _ _ _ _ h.1 c.loop-i.invariant.3)

pub loop-i-preserved : goal.loop-i-preserved
loop-i-preserved c =
    let l = c.loop-i in
    (omega arith, simp length-set l.invariant.1, pair_read c.args.w.now c.loop-i.i c.args.count c.requires.0 c.loop-i.invariant.2 (search rules) (omega (arith, c.digit-a.ensures.0)) (omega (arith, c.digit-b.ensures.0)), ap (λ (m : List ℕ). set m l.i (16 * c.digit-a.result + c.digit-b.result)) l.invariant.3 ∙ tab-more _ (octet_at c.args.w.now) _ _ 0 (omega arith) (rw (c.digit-a.ensures.0, c.digit-b.ensures.0)))

pub returns : goal.returns
returns c =
    let h = all_digits c.args.w.now c.loop-i.i c.args.count c.requires.0 c.loop-i.invariant.2 (search rules) in
    (sym h.0, all-stored _ _ _ _ h.1 c.loop-i.invariant.3)

-- `encoding::check::check_each` meets its contract: each turn of the loop is one call on. Assumes nothing.
use Prim.Native.Nat.{◌+◌, ◌-◌, ◌/◌, ◌<◌}
use mathlib.Core.Path.{◌≡◌, sym, ap, subst, ◌∙◌}
use lib.ListN.{length}
use native.Mathlib.Omega.{arith}
use Rattle.encoding.specs.Words.{Within}
use Rattle.encoding.specs.Lists.{check_from}
use Rattle.encoding.specs.declared.words.Amounts.{Amounts}
use Rattle.encoding.proofs.Fitting.{within-says}
use Rattle.encoding.proofs.Checks.{was-call, now-taken, had-room, no_call, no_room, goes_on, all-checked}
use Rattle.encoding.proofs.check.check_each.Goals as goal

pub returns-then-not-is_call : goal.returns-then-not-is_call
returns-then-not-is_call c = let l = c.loop-i in let a = c.args in let n = length a.calls.now / 8 in let h : l.i < n = omega arith in no_call a.calls.now a.room n l.i l.taken h (was-call a.calls.now a.room n l.i l.taken h _ _ _ c.words_at-w.ensures c.is_call.ensures c.if-not-is_call.true) ∙ l.invariant.1

pub returns-then-not-has_room : goal.returns-then-not-has_room
returns-then-not-has_room c = let l = c.loop-i in let a = c.args in let n = length a.calls.now / 8 in let h : l.i < n = omega arith in no_room a.calls.now a.room n l.i l.taken h (was-call a.calls.now a.room n l.i l.taken h _ _ _ c.words_at-w.ensures c.is_call.ensures c.if-not-is_call.false) (had-room a.calls.now a.room n l.i l.taken h _ _ _ _ c.words_at-w.ensures c.taken_by-need.ensures c.has_room.ensures c.if-not-has_room.true) ∙ l.invariant.1

pub loop-i-preserved : goal.loop-i-preserved
loop-i-preserved c = let l = c.loop-i in let a = c.args in let n = length a.calls.now / 8 in let h : l.i < n = omega arith in let e = now-taken a.calls.now a.room n l.i l.taken h _ _ _ c.words_at-w.ensures c.taken_by-need.ensures c.plus-taken.ensures.sum in let f = (had-room a.calls.now a.room n l.i l.taken h _ _ _ _ c.words_at-w.ensures c.taken_by-need.ensures c.has_room.ensures c.if-not-has_room.false) in (subst (λ (t : Amounts). Within t a.room) (sym e) (within-says _ _ f), ap (check_from a.calls.now a.room (n - (l.i + 1)) (l.i + 1)) e ∙ sym (goes_on a.calls.now a.room n l.i l.taken h (was-call a.calls.now a.room n l.i l.taken h _ _ _ c.words_at-w.ensures c.is_call.ensures c.if-not-is_call.false) f) ∙ l.invariant.1)

pub returns : goal.returns
returns c = let l = c.loop-i in let a = c.args in let n = length a.calls.now / 8 in let e : n - l.i ≡ 0 = omega arith in all-checked a.calls.now a.room l.i l.taken _ e ∙ l.invariant.1

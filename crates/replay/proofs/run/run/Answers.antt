-- `replay::run::run` meets its contract: each turn of the loop is one call of the list. Assumes nothing.
use Prim.Native.Nat.{◌/◌, ◌<◌}
use mathlib.Core.Path.{refl, sym, ap, subst, ◌∙◌}
use lib.ListN.{length}
use native.Mathlib.Omega.{arith}
use Rattle.model.specs.Gives.{joined}
use Rattle.encoding.specs.Words.{is_call, plus, Within}
use Rattle.encoding.specs.Lists.{lent_with, room}
use Rattle.encoding.specs.declared.words.Amounts.{Amounts}
use Rattle.encoding.proofs.Checks.{lengths, now-taken}
use Rattle.replay.proofs.Walks.{at_first, is-call, has_room, turned, ran}
use Rattle.replay.proofs.run.run.Goals as goal

pub loop-i-init : goal.loop-i-init
loop-i-init c = let a = c.args in let e = lengths (lent_with a.list a.packets.now a.places.now) (length a.answers.now) c.requires in (refl, refl, refl, at_first (joined a.s.now a.samples.now) (lent_with a.list a.packets.now a.places.now) a.answers.now (length a.list.words.now / 8) _ c.nothing-taken.ensures e.2)

pub plus-next-requires : goal.plus-next-requires
plus-next-requires c = let a = c.args in let l = c.loop-i in let n = length a.list.words.now / 8 in let h : l.i < n = omega arith in let r = room (lent_with a.list a.packets.now a.places.now) in subst (λ (y : Amounts). Within (plus l.taken c.taken_by.result) y) (sym c.room_of-room.ensures) (subst (λ (t : Amounts). Within t r) (sym (now-taken a.list.words.now r n l.i l.taken h _ _ _ c.words_at-words.ensures c.taken_by.ensures refl)) (has_room (joined a.s.now a.samples.now) (lent_with a.list a.packets.now a.places.now) a.answers.now (length a.list.words.now / 8) l.i l.taken (joined l.s l.samples) l.answers l.packets l.places h l.invariant.3))

pub turn_at-requires : goal.turn_at-requires
turn_at-requires c = let a = c.args in let l = c.loop-i in let n = length a.list.words.now / 8 in let h : l.i < n = omega arith in let r = room (lent_with a.list a.packets.now a.places.now) in let e = lengths (lent_with a.list a.packets.now a.places.now) (length a.answers.now) c.requires in let below : Within c.plus-next.result r = subst (λ (y : Amounts). Within c.plus-next.result y) c.room_of-room.ensures c.plus-next.ensures.below in (ap is_call c.words_at-words.ensures ∙ is-call (joined a.s.now a.samples.now) (lent_with a.list a.packets.now a.places.now) a.answers.now (length a.list.words.now / 8) l.i l.taken (joined l.s l.samples) l.answers l.packets l.places h l.invariant.3, omega (arith, e.0, e.1, l.invariant.2), c.plus-next.ensures.above, below.octets, below.numbers, omega (arith, below.packets, l.invariant.0), omega (arith, below.places, l.invariant.1))

pub loop-i-preserved : goal.loop-i-preserved
loop-i-preserved c = let a = c.args in let l = c.loop-i in let n = length a.list.words.now / 8 in let h : l.i < n = omega (arith, c.loop-i-test.true) in let r = room (lent_with a.list a.packets.now a.places.now) in (omega arith, omega arith, omega arith, turned (joined a.s.now a.samples.now) (lent_with a.list a.packets.now a.places.now) a.answers.now (length a.list.words.now / 8) l.i l.taken (joined l.s l.samples) l.answers l.packets l.places h l.invariant.3 _ _ _ _ _ _ c.words_at-words.ensures (now-taken a.list.words.now r n l.i l.taken h _ _ _ c.words_at-words.ensures c.taken_by.ensures c.plus-next.ensures.sum) c.turn_at.ensures)

pub returns : goal.returns
returns c = let l = c.loop-i in let a = c.args in let e = lengths (lent_with a.list a.packets.now a.places.now) (length a.answers.now) c.requires in ran (joined a.s.now a.samples.now) (lent_with a.list a.packets.now a.places.now) a.answers.now (length a.list.words.now / 8) l.i l.taken (joined l.s l.samples) l.answers l.packets l.places (omega arith) refl (omega (arith, e.0, e.1)) l.invariant.3

-- `radio_packets::datagram::all_24` meets its contract: the loop's invariant is that all numbers passed are in the range. Assumes nothing.
use borrow.Author.Rules.{rules}
use lib.IntN.{pos}
use lib.ListN.{get_or}
use native.Mathlib.Omega.{arith}
use Rattle.radio_packets.proofs.Signed.{tested, all_more, all-not}
use Rattle.radio_packets.proofs.datagram.all_24.Goals as goal

pub returns-then-not-is_24 : goal.returns-then-not-is_24
returns-then-not-is_24 c =
    let s = c.args.samples.now in
    let i = c.loop-x.x-index in
    all-not s i (pos 0) (omega arith) (tested (get_or s i (pos 0)) (search rules) c.is_24.ensures c.if-not-is_24.true)

pub loop-x-preserved : goal.loop-x-preserved
loop-x-preserved c =
    let s = c.args.samples.now in
    let i = c.loop-x.x-index in
    all_more s i (pos 0) (omega arith) c.loop-x.invariant (tested (get_or s i (pos 0)) (search rules) c.is_24.ensures c.if-not-is_24.false)

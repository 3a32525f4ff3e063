-- `radio_packets::datagram::put_samples` writes three octets a turn. Assumes nothing.
use borrow.Author.Rules.{rules}
use mathlib.Core.Path.{refl}
use lib.IntN.{pos}
use lib.ListN.{get_or}
use native.Mathlib.Omega.{arith}
use Rattle.radio_packets.proofs.Signed.{copied, ranged, all-at}
use Rattle.radio_packets.proofs.Datagrams.{samples-none, samples-more}
use Rattle.radio_packets.proofs.datagram.put_samples.Goals as goal

pub loop-i-init : goal.loop-i-init
loop-i-init c = (refl, samples-none c.args.out.now c.args.samples.now)

pub bits_of-requires : goal.bits_of-requires
bits_of-requires c =
    let s = c.args.samples.now in
    ranged (get_or s c.loop-i.i (pos 0)) (search rules) (all-at s c.loop-i.i (pos 0) (omega (arith, c.requires.1)) c.requires.2)

pub loop-i-preserved : goal.loop-i-preserved
loop-i-preserved c =
    let s = c.args.samples.now in
    let i = c.loop-i.i in (
      omega arith,
      samples-more c.args.out.now c.loop-i.out c.put_u24.new.p s i c.bits_of.result (pos 0) (omega (arith, c.requires.1)) (omega (arith, c.requires.0, c.requires.1)) c.loop-i.invariant.1
          (copied (get_or s i (pos 0)) (search rules) c.bits_of.ensures) c.put_u24.ensures,
    )

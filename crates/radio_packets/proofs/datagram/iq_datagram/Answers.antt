-- `radio_packets::datagram::iq_datagram` meets its contract: refused by its values or for room, or written. Assumes nothing.
use mathlib.Core.Path.{sym, ap, ◌∙◌}
use mathlib.Core.Bool.{not}
use native.Mathlib.Omega.{arith}
use Rattle.radio_packets.proofs.Signed.{pairs-are}
use Rattle.radio_packets.proofs.Datagrams.{datagram-front}
use Rattle.radio_packets.proofs.Wrotes.{wrote-bad, wrote-no-room, wrote}
use Rattle.radio_packets.proofs.datagram.iq_datagram.Goals as goal

pub returns-then-not-is_pairs : goal.returns-then-not-is_pairs
returns-then-not-is_pairs c = wrote-bad _ 1444 _ _ (ap not (sym c.is_pairs.ensures ∙ c.if-not-is_pairs.true))

pub returns-then-out-lt-IQ_DATAGRAM_LEN : goal.returns-then-out-lt-IQ_DATAGRAM_LEN
returns-then-out-lt-IQ_DATAGRAM_LEN c = wrote-no-room _ 1444 _ _ (ap not (sym c.is_pairs.ensures ∙ c.if-not-is_pairs.false)) (omega arith)

pub put_samples-requires : goal.put_samples-requires
put_samples-requires c =
    let is = pairs-are c.args.samples.now (sym c.is_pairs.ensures ∙ c.if-not-is_pairs.false) in
    (omega arith, is.0, is.1)

pub returns : goal.returns
returns c =
    let a = c.args in
    let e = sym c.is_pairs.ensures ∙ c.if-not-is_pairs.false in
    wrote _ 1444 _ _ (ap not e) _ (omega arith)
    (datagram-front a.seq a.samples.now a.out.now _ _ (pairs-are a.samples.now e).0 (omega arith) c.put_header.ensures c.put_samples.ensures)

-- `sending::send::put_packet` meets its contract: each stream by its writer. Assumes nothing.
use Rattle.model.specs.Sending as Sending
use Rattle.wire.specs.declared.command.Stream.TheVariants.{General, RxSpecific, TxSpecific, HighPriority}
use Rattle.sending.proofs.Progresses.{put_as, at_level}
use Rattle.sending.proofs.send.put_packet.Goals as goal

pub returns-in-General : goal.returns-in-General
unfolding Sending.packet_of
returns-in-General c = let a = c.args in put_as a.stream General a.run a.c _ _ _ c.in-General.is c.requires c.general_packet.ensures

pub returns-in-RxSpecific : goal.returns-in-RxSpecific
unfolding Sending.packet_of
returns-in-RxSpecific c = let a = c.args in put_as a.stream RxSpecific a.run a.c _ _ _ c.in-RxSpecific.is c.requires c.rx_specific_packet.ensures

pub returns-in-TxSpecific : goal.returns-in-TxSpecific
unfolding Sending.packet_of
returns-in-TxSpecific c = let a = c.args in put_as a.stream TxSpecific a.run a.c _ _ _ c.in-TxSpecific.is c.requires c.tx_specific_packet.ensures

pub returns-in-HighPriority : goal.returns-in-HighPriority
unfolding Sending.packet_of
returns-in-HighPriority c =
    let a = c.args in
    put_as a.stream HighPriority a.run a.c _ _ _ c.in-HighPriority.is c.requires
    (at_level (Sending.count_of HighPriority a.c) a.run a.c.tuning.phase_word a.c.tuning.alex.alex0 a.c.tuning.alex.alex1 _ _ _ _ _ c.level-db.ensures c.high_priority_packet.ensures)

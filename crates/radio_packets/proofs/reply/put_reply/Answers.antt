-- `radio_packets::reply::put_reply` meets its contract: refused for room, or four fields stored in a cleared front, then the address.
-- Assumes nothing.
use Prim.Native.Nat.{ℕ}
use mathlib.Core.Path.{refl, ap, ◌∙◌}
use lib.ListN.{set}
use native.Mathlib.Omega.{arith}
use Rattle.octets.proofs.Packets.{singly}
use Rattle.radio_packets.specs.Reply.{reply_fields}
use Rattle.radio_packets.proofs.Wrotes.{wrote-no-room, wrote}
use Rattle.radio_packets.proofs.Replies.{reply-front}
use Rattle.radio_packets.proofs.reply.put_reply.Goals as goal

pub returns-then-out-lt-PROTOCOL2_REPLY_LEN : goal.returns-then-out-lt-PROTOCOL2_REPLY_LEN
returns-then-out-lt-PROTOCOL2_REPLY_LEN c = wrote-no-room _ 60 _ _ refl (omega arith)

pub returns : goal.returns
returns c =
    let a = c.args in
    wrote _ 60 _ _ refl _ (omega arith)
    (reply-front a.status a.board a.firmware a.receivers a.out.now _ _ a.mac.now c.ranges.board.fits c.ranges.firmware.fits c.ranges.receivers.fits (omega arith) c.requires
    (ap (λ (v : ℕ). set (set (set (set c.clear.new.p 4 v) 11 a.board) 13 a.firmware) 20 a.receivers) c.status_octet.ensures
    ∙ ap (singly (reply_fields a.status a.board a.firmware a.receivers)) c.clear.ensures)
    c.put_mac.ensures)

-- `wire::packet::high_priority_packet` meets its contract: refused for room, or six fields stored after the count. Assumes nothing.
use Prim.Native.Nat.{min}
use mathlib.Core.Path.{◌≡◌, ap, ◌∙◌}
use mathlib.Core.Bool.{cond}
use mathlib.Core.List.{[], ◌∷◌}
use lib.ListN.{set, length-set}
use native.Mathlib.Omega.{arith}
use Rattle.octets.specs.Packet.{field, stored}
use Rattle.octets.proofs.Writes.{set-be}
use Rattle.wire.specs.Packet.{high_packet}
use Rattle.wire.proofs.Writers.{no_room, sent-fields, run-octet}
use Rattle.wire.proofs.packet.high_priority_packet.Goals as goal
use Rattle.wire.proofs.packet.high_priority_packet.Goals.{then-run, else-run, then-db-lt-MAX_STEP_ATTENUATION_DB, else-db-lt-MAX_STEP_ATTENUATION_DB}

pub returns-then-out-lt-HIGH_PRIORITY_LEN : goal.returns-then-out-lt-HIGH_PRIORITY_LEN
returns-then-out-lt-HIGH_PRIORITY_LEN c = no_room 1444 _ _ (omega arith)

pub returns : goal.returns
unfolding high_packet
returns c =
    let a = c.args in
    let bit : c.if-run.out ≡ cond a.run 1 0 = elim c.if-run.branch [ then-run w ↦ rw w.if-run.true w.out-is | else-run w ↦ rw w.if-run.false w.out-is ] in
    let capped : c.if-db-lt-MAX_STEP_ATTENUATION_DB.out ≡ min a.db 31 = elim c.if-db-lt-MAX_STEP_ATTENUATION_DB.branch [ then-db-lt-MAX_STEP_ATTENUATION_DB w ↦ omega arith | else-db-lt-MAX_STEP_ATTENUATION_DB w ↦ omega arith ] in
    let last = field 1443 1 (min a.db 31) ∷ [] in
    let from4 = field 1432 4 a.alex0 ∷ last in
    let from3 = field 1428 4 a.alex1 ∷ from4 in
    let from2 = field 329 4 a.phase ∷ from3 in
    let from1 = field 9 4 a.phase ∷ from2 in
    sent-fields 1444 a.seq (field 4 1 (cond a.run 1 0) ∷ from1) _ _ _ (omega arith) tt tt c.start.ensures
    (ap (set c.put_u32-4.new.p 1443) capped
    ∙ set-be _ 1443 _ (omega (arith, simp length-set at c.put_u32.auto.p)) (omega arith)
    ∙ ap (stored last) c.put_u32-4.ensures
    ∙ ap (stored from4) c.put_u32-3.ensures
    ∙ ap (stored from3) c.put_u32-2.ensures
    ∙ ap (stored from2) c.put_u32.ensures
    ∙ ap (stored from1) (ap (set c.start.new.p 4) bit ∙ set-be _ 4 _ (omega arith) (run-octet a.run)))

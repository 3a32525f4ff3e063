-- `radio::listen::read_commands` meets its contract: what is read of the packets passed, and what is left of them, is all of them.
-- Assumes nothing.
use Prim.Native.Nat.{ℕ, ◌+◌, min}
use mathlib.Core.Path.{sym, ap, ◌∙◌}
use lib.ListN.{length, drop}
use native.Mathlib.Omega.{arith}
use Rattle.radio.specs.Answer.{command_answer, outcome_of}
use Rattle.radio.specs.Listen.{cut, received}
use Rattle.radio.proofs.Listens.{onward, at_first, at_most_one, onward-end, onward-nowhere, onward-more}
use Rattle.radio.proofs.listen.read_commands.Goals as goal

pub returns-in_default : goal.returns-in_default
returns-in_default c =
    let a = c.args in
    onward-nowhere a.offsets.now a.packets.now c.loop-offset.offset-index c.loop-offset.at c.loop-offset.next c.loop-offset.accepted (omega arith) (sym (sym c.in_default.is ∙ c.stream_at.ensures))
    ∙ sym c.loop-offset.invariant.2
    ∙ sym (at_first a.radio (received a.radio (cut a.offsets.now a.packets.now)))

pub loop-offset-preserved : goal.loop-offset-preserved
loop-offset-preserved c =
    let a = c.args in
    let r = c.read_command-heard in (
      omega arith,
      omega (arith, at_most_one (command_answer r.result.answer)),
      c.loop-offset.invariant.2
          ∙ onward-more a.offsets.now a.packets.now c.loop-offset.offset-index c.loop-offset.at c.loop-offset.next c.loop-offset.accepted (omega arith) c.in-Some.stream (outcome_of r.result) c.end_of-end.result
          (sym c.stream_at.ensures ∙ c.in-Some.is) (omega arith) (c.end_of-end.ensures ∙ ap (λ (n : ℕ). min (c.loop-offset.at + n) (length a.packets.now)) c.packet_len.ensures) r.ensures
          ∙ ap (λ (n : ℕ). onward r.result.radio (c.loop-offset.accepted + n) (received r.result.radio (cut (drop (c.loop-offset.offset-index + 1) a.offsets.now) (drop c.end_of-end.result a.packets.now)))) (sym c.count-accepted.ensures),
    )

pub returns : goal.returns
returns c =
    let a = c.args in
    onward-end a.offsets.now a.packets.now c.loop-offset.offset-index c.loop-offset.at c.loop-offset.next c.loop-offset.accepted (omega arith)
    ∙ sym c.loop-offset.invariant.2
    ∙ sym (at_first a.radio (received a.radio (cut a.offsets.now a.packets.now)))

-- `calls::practice::heard` reads the packets of the streams that the answer lists. Assumes nothing.
use mathlib.Core.Path.{refl}
use Rattle.calls.proofs.Listens.{not_more, heard-is}
use Rattle.calls.proofs.practice.heard.Goals as goal

pub overflow_sub-refused : goal.overflow_sub-refused
overflow_sub-refused c = not_more c.args.p c.args.packets.now c.args.answers.now _ _ _ c.offsets_of-offsets.ensures c.count_of-n.ensures c.read_commands-got.ensures

pub returns : goal.returns
returns c = heard-is c.args.p c.args.packets.now c.args.answers.now _ _ _ c.offsets_of-offsets.ensures c.count_of-n.ensures c.read_commands-got.ensures _ refl

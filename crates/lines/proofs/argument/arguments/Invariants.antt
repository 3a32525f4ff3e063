-- `lines::argument::arguments` reads the words of a form one by one. Assumes nothing.
use Rattle.lines.specs.Name.{form}
use Rattle.lines.proofs.Fillings.{Filling}
use Rattle.lines.proofs.argument.arguments.Given as goal

abbrev pub invariant-loop-j : goal.invariant-loop-j
invariant-loop-j l = Filling (form l.fn.name).words l.fn.s l.initial.values l.initial.room l.left l.j l.values l.room

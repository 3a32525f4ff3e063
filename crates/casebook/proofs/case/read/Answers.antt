-- `casebook::case::read`: each word stands in what is left of the line. Assumes nothing.
use Rattle.std.proofs.lemmas.Option.{IfSome_then}
use Rattle.text.specs.Part.{Behind}
use Rattle.text.proofs.Parts.{behind-all, behind-then, stands-behind}
use Rattle.casebook.proofs.Parts.{word-stands, left-behind}
use Rattle.casebook.proofs.case.read.Goals as goal
use Rattle.casebook.proofs.case.read.Goals.{then-is_some, else-is_some}

pub returns-clause-name : goal.returns-clause-name
returns-clause-name c = let s = c.args.line.now in word-stands s s c.split_word.result.0.now (behind-all s) c.split_word.ensures.word

pub returns-clause-expected : goal.returns-clause-expected
returns-clause-expected c =
    let s = c.args.line.now in
    let b = left-behind s s c.split_word.result.1.now (behind-all s) c.split_word.ensures.rest in
    let l = behind-then s c.split_word.result.1.now c.leading-count.result.2.now b c.leading-count.ensures in
    let r = left-behind s c.leading-count.result.2.now c.split_word-2.result.1.now l c.split_word-2.ensures.rest in
    let left : Behind s c.if-is_some.rest.now = elim c.if-is_some.branch [ then-is_some w ↦ rw w.rest-is r | else-is_some w ↦ rw w.rest-is l ] in
    IfSome_then c.expected.result c.expected.ensures (λ w i. stands-behind s c.if-is_some.rest.now w.now left i)

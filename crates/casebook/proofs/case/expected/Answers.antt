-- `casebook::case::expected`: the word is the one behind the sign. Assumes nothing.
use Rattle.text.specs.Part.{StandsIn}
use Rattle.text.proofs.Parts.{behind-all}
use Rattle.casebook.proofs.Parts.{word-stands, left-behind, if-then_some}
use Rattle.casebook.proofs.case.expected.Goals as goal

pub returns : goal.returns
returns c =
    let s = c.args.s.now in
    let t = c.split_word.result.1.now in
    let b = left-behind s s t (behind-all s) c.split_word.ensures.rest in
    let i = word-stands s t c.split_word-2.result.0.now b c.split_word-2.ensures.word in
    rw c.then_some.ensures (if-then_some (λ word. StandsIn s word.now) c.if-not-is_empty.then_some c.split_word-2.result.0 i)

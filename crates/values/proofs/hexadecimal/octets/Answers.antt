-- `values::hexadecimal::octets` tells a word's octets by its length and its digits. Assumes nothing.
use mathlib.Core.Path.{◌≡◌, sym, ap, ◌∙◌}
use lib.ListN.{length}
use native.Mathlib.Omega.{arith}
use Rattle.octets.specs.Written.{written}
use Rattle.text.specs.Name.{ascii}
use Rattle.text.proofs.Names.{same-equal, eq-told}
use Rattle.values.proofs.Hexadecimals.{odd, dash-count, too_long, not-hex, hex-count, unseen-long, unseen-odd, seen-pairs}
use borrow.Author.Rules.{rules}
use Rattle.values.proofs.hexadecimal.octets.Goals as goal

pub returns-then-eq : goal.returns-then-eq
returns-then-eq c =
    let e = same-equal _ _ (sym (eq-told c.args.w.now (ascii "-") _ (search rules)) ∙ c.if-eq.true) in
    (dash-count _ (sym (eq-told c.args.w.now (ascii "-") _ (search rules)) ∙ c.if-eq.true), unseen-odd c.args.w.now _ (λ z. let l : length c.args.w.now ≡ 1 = ap length e in omega arith))

pub returns-then-w-gt4096 : goal.returns-then-w-gt4096
returns-then-w-gt4096 c = (too_long _ (sym (eq-told c.args.w.now (ascii "-") _ (search rules)) ∙ c.if-eq.false) c.if-w-gt4096.true, unseen-long _ _ c.if-w-gt4096.true)

pub returns-then-count-w : goal.returns-then-count-w
returns-then-count-w c = (not-hex _ (sym (eq-told c.args.w.now (ascii "-") _ (search rules)) ∙ c.if-eq.false) (odd c.args.w.now (λ z. c.if-count-w.true (omega arith))), unseen-odd c.args.w.now _ (λ z. c.if-count-w.true (omega arith)))

pub returns-then-decode : goal.returns-then-decode
returns-then-decode c = (hex-count _ (sym (eq-told c.args.w.now (ascii "-") _ (search rules)) ∙ c.if-eq.false) _ (search rules) (sym c.decode.ensures.0 ∙ c.if-decode.true) c.if-count-w.false, c.decode.ensures.1 ∙ ap (written c.args.room.now 0) (seen-pairs _ (search rules) (omega arith)))

pub returns : goal.returns
returns c = (not-hex _ (sym (eq-told c.args.w.now (ascii "-") _ (search rules)) ∙ c.if-eq.false) (sym c.decode.ensures.0 ∙ c.if-decode.false), c.decode.ensures.1 ∙ ap (written c.args.room.now 0) (seen-pairs _ (search rules) (omega arith)))

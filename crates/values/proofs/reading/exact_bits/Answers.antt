-- `values::reading::exact_bits` casts a number that is a double exactly. Assumes nothing.
use mathlib.Core.Path.{◌≡◌, sym, ap, ◌∙◌}
use lib.Dec.{le→leb}
use lib.Ieee.{in_float}
use borrow.Author.Rules.{rules}
use Rattle.std.specs.Prelude.{None}
use Rattle.std.specs.Option.{option_map}
use Rattle.values.specs.Value.{exact}
use Rattle.values.proofs.Values.{number-most, whole-no-nan}
use Rattle.values.proofs.reading.exact_bits.Goals as goal

pub returns-in_err-n : goal.returns-in_err-n
unfolding exact
returns-in_err-n c =
    let e : c.from_residual.result ≡ None = search rules in
    e ∙ sym (ap (option_map _) (sym c.number.ensures ∙ c.in_err-n.was))

pub int_to_float-result : goal.int_to_float-result
unfolding in_float
int_to_float-result c = le→leb c.in_ok-n.n 9007199254740992 (number-most _ _ _ (sym c.number.ensures ∙ c.in_ok-n.was))

pub float_to_bits-result : goal.float_to_bits-result
float_to_bits-result c = whole-no-nan _ (number-most _ _ _ (sym c.number.ensures ∙ c.in_ok-n.was))

pub returns : goal.returns
unfolding exact
returns c = sym (ap (option_map _) (sym c.number.ensures ∙ c.in_ok-n.was))

-- `iq::sample` meets its contract: the offset number is cast, lessened and divided with nothing rounded. Assumes nothing.
use lib.Ieee.{of_bits}
use Rattle.iq.proofs.Samples.{sample-is}
use borrow.Author.Rules.{rules}
use Rattle.iq.proofs.sample.Goals as goal

pub returns : goal.returns
unfolding of_bits
returns c = sample-is c.args.v (search rules)

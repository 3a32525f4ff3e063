-- `tally::account::store` meets its contract. Assumes nothing.
use Rattle.octets.proofs.Writes.{stores-written}
use Rattle.tally.specs.Table.{numbers_of}
use Rattle.tally.proofs.account.store.Goals as goal

pub returns : goal.returns
returns c = stores-written c.args.table.now c.args.at (numbers_of c.args.s) c.requires

-- `calls::run::run_lines`: through every line the account stands, where it is said to, so that what is told is the account of the calls
-- that were run. Assumes nothing.
use denote.Param.Always.{mut_by}
use borrow.Author.Rules.{rules}
use Rattle.holding.specs.Held.{Holds}
use Rattle.holding.proofs.Keeps.{holds-none}
use Rattle.calls.proofs.run.run_lines.Goals as goal

pub run_lines-is_whole-requires : goal.run_lines-is_whole-requires
run_lines-is_whole-requires g c = mut_by _ (λ s. Holds s.0.now s.1.now.samples s.1.now.table) (λ s a i. search rules) (λ s a r t i e. search rules) _ (holds-none _ _)

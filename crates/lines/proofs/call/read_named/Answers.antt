-- `lines::call::read_named` reads the call's words, then its options, and writes what they say. Assumes nothing.
use mathlib.Core.Path.{sym, ◌∙◌}
use mathlib.Core.Bool.{true≢false}
use denote.Enum.Bare.{same_true}
use Rattle.lines.specs.contracts.Read.{the_type}
use Rattle.lines.proofs.Bounds.{small}
use Rattle.lines.proofs.Calls.{not-read, untaken, asked, held-words, held-keys, done}
use borrow.Author.Rules.{rules}
use Rattle.lines.proofs.call.read_named.Goals as goal

pub returns-in-Some : goal.returns-in-Some
returns-in-Some c = rw c.expected_word.ensures (not-read _ _ _ _ _ _ _ _ c.arguments-given.ensures _ c.in-Some.is)

pub returns-in-Err : goal.returns-in-Err
returns-in-Err c = rw c.expected.ensures (untaken _ _ _ _ _ _ _ _ c.arguments-given.ensures c.in_default.is _ c.keys_end-end.ensures _ _ _ c.options-run.ensures.0 _ c.in-Err.is)

pub put_datagram-requires : goal.put_datagram-requires
put_datagram-requires c = small _ _ (held-words _ c.args.radio c.args.asked.now _ _ _ _ _ c.arguments-given.ensures c.in_default.is _ c.keys_end-end.ensures _ _ _ c.options-run.ensures.0 c.in_default-took.is) (held-keys _ c.args.radio c.args.asked.now _ _ _ _ _ c.arguments-given.ensures c.in_default.is _ c.keys_end-end.ensures _ _ _ c.options-run.ensures.0 c.in_default-took.is)

pub returns-then-eq : goal.returns-then-eq
returns-then-eq c = done _ _ _ _ _ _ _ _ c.arguments-given.ensures c.in_default.is _ c.keys_end-end.ensures _ _ _ c.options-run.ensures.0 c.in_default-took.is (sym c.asks-asks.ensures ∙ same_true the_type (search rules) _ _ (sym c.eq.ensures ∙ c.if-eq.true)) (search rules) _ _ c.call_of-asked.ensures c.put_datagram.ensures

pub returns : goal.returns
returns c = asked _ _ _ _ _ _ _ _ c.arguments-given.ensures c.in_default.is _ c.keys_end-end.ensures _ _ _ c.options-run.ensures.0 c.in_default-took.is _ c.asks-asks.ensures (λ q. true≢false (rw q at (sym c.eq.ensures ∙ c.if-eq.false)))

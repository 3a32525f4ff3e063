-- `encoding::words::taken_by` meets its contract: by the kind. Assumes nothing.
use Rattle.std.proofs.Common.{◌∙◌}
use mathlib.Core.Logic.{inl, inr}
use Rattle.encoding.specs.declared.kind.Kind.TheVariants as kind
use Rattle.encoding.proofs.Takings.{by-name, by-none}
use Rattle.encoding.proofs.words.taken_by.Goals as goal

pub returns-in_default : goal.returns-in_default
returns-in_default c = c.nothing.ensures ∙ by-none c.args.w (c.of.ensures.none c.in_default.is)

pub returns-in-Arrival : goal.returns-in-Arrival
returns-in-Arrival c = by-name c.args.w _ kind.Arrival c.in-Some.ensures.some c.in-Arrival.is

pub returns-in-Pass : goal.returns-in-Pass
returns-in-Pass c =
    rw c.nothing-in-Pass.ensures
    (elim c.in-Pass.is [
      | inl e ↦ by-name c.args.w _ kind.Pass c.in-Some.ensures.some e
      | inr e ↦ by-name c.args.w _ kind.Close c.in-Some.ensures.some e
    ])

pub returns-in-Take : goal.returns-in-Take
returns-in-Take c = rw c.nothing-in-Take.ensures (by-name c.args.w _ kind.Take c.in-Some.ensures.some c.in-Take.is)

pub returns-in-Begin : goal.returns-in-Begin
returns-in-Begin c =
    c.nothing-in-Begin.ensures
    ∙ elim c.in-Begin.is [
      | inl e ↦ by-name c.args.w _ kind.Begin c.in-Some.ensures.some e
      | inr (inl e) ↦ by-name c.args.w _ kind.TakeMissing c.in-Some.ensures.some e
      | inr (inr (inl e)) ↦ by-name c.args.w _ kind.TakeDiscontinuity c.in-Some.ensures.some e
      | inr (inr (inr e)) ↦ by-name c.args.w _ kind.TakeStalled c.in-Some.ensures.some e
    ]

-- `values::waiting::waiting` reads the parts one by one. Assumes nothing.
use Prim.Native.Nat.{ℕ, ◌+◌}
use mathlib.Core.Path.{◌≡◌, sym, ap, subst, ◌∙◌}
use mathlib.Core.List.{List, [], ◌∷◌}
use native.Mathlib.Omega.{arith}
use borrow.Author.Rules.{rules}
use denote.Ref.{Bor}
use Rattle.std.specs.Prelude.{None}
use Rattle.std.specs.Slice.Iter as slice
use Rattle.std.proofs.Common.{tests}
use Rattle.std.proofs.lemmas.List.{map-append}
use Rattle.text.specs.Run.{is}
use Rattle.values.proofs.Pieces.{part-comes, no-part}
use Rattle.values.proofs.Spans.{Listed, span_fits, listed-none, bad-span, too_many, listed-all, listed_more}
use Rattle.values.proofs.waiting.waiting.Goals as goal

pub loop-part-init : goal.loop-part-init
loop-part-init c = listed-none _

pub returns-in_err-first : goal.returns-in_err-first
returns-in_err-first c =
    let e = c.into_iter-part-iterator.ensures.into_iter_gives in
    let k = part-comes _ _ c.next.new.self _ c.loop-part.yielded_by c.in-Some.part c.in-Some.ensures.steps (is 44) c.args.w.now (ap slice.split_rest e ∙ c.split-part-items.ensures.rest) (ap slice.split_done e ∙ c.split-part-items.ensures.done) (ap slice.split_callee e ∙ c.split-part-items.ensures.closure) (λ x b q k. search (rules, tests)) in
    let r : c.from_residual.result ≡ None = search rules in
    let h = bad-span c.args.w.now _ _ _ _ c.loop-part.invariant _ _ k.1 (sym c.span_of.ensures ∙ c.in_err-first.was) in (r ∙ h.0, h.1)

pub overflow_add-n : goal.overflow_add-n
overflow_add-n c = let h = span_fits _ _ _ (sym c.span_of.ensures ∙ c.in_ok-first.was) in omega (arith, c.loop-part.invariant.most)

pub returns-then-n-k : goal.returns-then-n-k
returns-then-n-k c =
    let e = c.into_iter-part-iterator.ensures.into_iter_gives in
    let k = part-comes _ _ c.next.new.self _ c.loop-part.yielded_by c.in-Some.part c.in-Some.ensures.steps (is 44) c.args.w.now (ap slice.split_rest e ∙ c.split-part-items.ensures.rest) (ap slice.split_done e ∙ c.split-part-items.ensures.done) (ap slice.split_callee e ∙ c.split-part-items.ensures.closure) (λ x b q k. search (rules, tests)) in
    too_many c.args.w.now _ _ _ _ c.loop-part.invariant _ _ k.1 _ _ (sym c.span_of.ensures ∙ c.in_ok-first.was) c.if-n-k.true

pub fill-requires : goal.fill-requires
fill-requires c = let h = span_fits _ _ _ (sym c.span_of.ensures ∙ c.in_ok-first.was) in (omega (arith, c.loop-part.invariant.same_length), omega arith)

pub loop-part-preserved : goal.loop-part-preserved
loop-part-preserved c =
    subst (λ (ys : List (List ℕ)). Listed ys c.args.numbers.now c.fill.new.numbers (c.loop-part.n + c.in_ok-first.k)) (sym (map-append (λ (x : Bor (List ℕ)). x.now) c.loop-part.yielded (c.in-Some.part ∷ [])))
    (listed_more c.args.w.now _ _ _ _ c.loop-part.invariant c.in-Some.part.now c.in_ok-first.first c.in_ok-first.k (sym c.span_of.ensures ∙ c.in_ok-first.was) c.if-n-k.false _ c.fill.ensures (search rules) c.fill.auto.numbers)

pub returns : goal.returns
returns c =
    let e = c.into_iter-part-iterator.ensures.into_iter_gives in
    listed-all c.args.w.now _ _ _ _ c.loop-part.invariant (no-part _ _ c.next.new.self _ c.loop-part.yielded_by c.in-None.ensures.steps (is 44) c.args.w.now (ap slice.split_rest e ∙ c.split-part-items.ensures.rest) (ap slice.split_done e ∙ c.split-part-items.ensures.done) (ap slice.split_callee e ∙ c.split-part-items.ensures.closure) (λ x b q k. search (rules, tests)))

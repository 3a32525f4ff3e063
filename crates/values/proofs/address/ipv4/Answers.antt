-- `values::address::ipv4` reads the parts one by one. Assumes nothing.
use Prim.Native.Nat.{ℕ}
use mathlib.Core.Path.{◌≡◌, sym, ap, ◌∙◌}
use mathlib.Core.List.{List, [], ◌∷◌, ◌++◌}
use denote.Ref.{Bor}
use Rattle.values.specs.Value.{octets_after}
use native.Mathlib.Omega.{arith}
use borrow.Author.Rules.{rules}
use Rattle.std.specs.Prelude.{None}
use Rattle.std.specs.Slice.Iter as slice
use Rattle.std.proofs.Common.{tests}
use Rattle.std.proofs.lemmas.List.{map-append}
use Rattle.text.specs.Run.{is}
use Rattle.values.proofs.Values.{number-most}
use Rattle.values.proofs.Pieces.{part-comes, no-part}
use Rattle.values.proofs.Addresses.{bound-fits, bound-pred, too_many, not-a-part, four-parts, too_few, next-octet}
use Rattle.values.proofs.address.ipv4.Goals as goal

pub returns-then-left-eq0 : goal.returns-then-left-eq0
returns-then-left-eq0 c =
    let e = c.into_iter-part-iterator.ensures.into_iter_gives in
    let k = part-comes _ _ c.next.new.self _ c.loop-part.yielded_by c.in-Some.part c.in-Some.ensures.steps (is 46) c.args.w.now (ap slice.split_rest e ∙ c.split-part-items.ensures.rest) (ap slice.split_done e ∙ c.split-part-items.ensures.done) (ap slice.split_callee e ∙ c.split-part-items.ensures.closure) (λ x b q k. search (rules, tests)) in
    too_many _ _ _ _ c.loop-part.invariant.gives _ _ k.1 c.if-left-eq0.true

pub returns-in_err-n : goal.returns-in_err-n
returns-in_err-n c =
    let e = c.into_iter-part-iterator.ensures.into_iter_gives in
    let k = part-comes _ _ c.next.new.self _ c.loop-part.yielded_by c.in-Some.part c.in-Some.ensures.steps (is 46) c.args.w.now (ap slice.split_rest e ∙ c.split-part-items.ensures.rest) (ap slice.split_done e ∙ c.split-part-items.ensures.done) (ap slice.split_callee e ∙ c.split-part-items.ensures.closure) (λ x b q k. search (rules, tests)) in
    let r : c.from_residual.result ≡ None = search rules in
    r ∙ not-a-part _ _ _ _ c.loop-part.invariant.gives _ _ k.1 c.if-left-eq0.false (sym c.number.ensures ∙ c.in_err-n.was)

pub overflow_add-n : goal.overflow_add-n
overflow_add-n c = let h = number-most _ _ _ (sym c.number.ensures ∙ c.in_ok-n.was) in omega (arith, bound-fits c.loop-part.left c.loop-part.n c.loop-part.invariant.fits)

pub loop-part-preserved : goal.loop-part-preserved
loop-part-preserved c =
    let i = c.loop-part.invariant in
    let r = sym c.number.ensures ∙ c.in_ok-n.was in
    record {
      most = omega (arith, i.most);
      fits = bound-pred _ _ _ (omega arith) i.most i.fits (number-most _ _ _ r);
      gives = λ ps. ap (λ (ys : List (List ℕ)). octets_after 4 0 (ys ++ ps)) (map-append (λ (x : Bor (List ℕ)). x.now) c.loop-part.yielded (c.in-Some.part ∷ [])) ∙ next-octet c.args.w.now _ _ _ i.gives _ _ (omega arith) r ps;
    }

pub returns-then-left-eq0-2 : goal.returns-then-left-eq0-2
returns-then-left-eq0-2 c =
    let e = c.into_iter-part-iterator.ensures.into_iter_gives in
    four-parts _ _ _ _ c.loop-part.invariant.gives (no-part _ _ c.next.new.self _ c.loop-part.yielded_by c.in-None.ensures.steps (is 46) c.args.w.now (ap slice.split_rest e ∙ c.split-part-items.ensures.rest) (ap slice.split_done e ∙ c.split-part-items.ensures.done) (ap slice.split_callee e ∙ c.split-part-items.ensures.closure) (λ x b q k. search (rules, tests))) c.if-left-eq0-2.true

pub returns : goal.returns
returns c =
    let e = c.into_iter-part-iterator.ensures.into_iter_gives in
    too_few _ _ _ _ c.loop-part.invariant.gives (no-part _ _ c.next.new.self _ c.loop-part.yielded_by c.in-None.ensures.steps (is 46) c.args.w.now (ap slice.split_rest e ∙ c.split-part-items.ensures.rest) (ap slice.split_done e ∙ c.split-part-items.ensures.done) (ap slice.split_callee e ∙ c.split-part-items.ensures.closure) (λ x b q k. search (rules, tests))) c.if-left-eq0-2.false

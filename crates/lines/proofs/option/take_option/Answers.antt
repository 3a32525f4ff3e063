-- `lines::option::take_option` goes by the word's key, then its value. Assumes nothing.
use Prim.Native.Nat.{ℕ, ◌+◌}
use mathlib.Core.Path.{◌≡◌, refl, sym, ap, ◌∙◌}
use mathlib.Core.List.{List}
use lib.ListN.{take}
use native.Mathlib.Omega.{arith}
use Rattle.std.specs.Prelude.{Some, None, Err}
use Rattle.std.proofs.lemmas.Grind.{common_steps}
use Rattle.lines.specs.declared.option.Untaken.TheVariants.{Unknown, Unreadable}
use Rattle.text.specs.Name.{found}
use Rattle.text.proofs.Splits.{to_the_end}
use Rattle.lines.specs.Option.{value_of, numbers_seen_for}
use Rattle.lines.proofs.Names.{key-names, no-key-found}
use Rattle.text.proofs.Names.{found-place}
use Rattle.lines.proofs.Options.{no-equals, no-key, key_below, key_above, said-before, unread-value, taken}
use borrow.Author.Rules.{rules}
use Rattle.lines.proofs.option.take_option.Goals as goal

pub returns-then-w-equals : goal.returns-then-w-equals
returns-then-w-equals c = no-equals _ _ _ _ _ _ _ c.find-equals.ensures.0 c.if-w-equals.true

pub returns-in_err-key : goal.returns-in_err-key
returns-in_err-key c =
    let n : c.place_of.result ≡ None = grind (arith, common_steps) in
    let e : c.from_residual.result ≡ Err Unknown = grind (arith, common_steps) in
    rw e (no-key _ _ _ _ _ _ _ c.find-equals.ensures.0 (search rules) _ refl (search rules) (no-key-found _ (sym (c.place_of.ensures ∙ ap (found (take c.find-equals.result c.args.w.now)) key-names) ∙ n)))

pub returns-then-key-from : goal.returns-then-key-from
returns-then-key-from c =
    let k : c.place_of.result ≡ Some c.in_ok-key.key = grind (arith, common_steps) in
    key_below _ _ _ _ _ _ _ c.find-equals.ensures.0 (search rules) _ ((found-place _ _ _ (sym (c.place_of.ensures ∙ ap (found (take c.find-equals.result c.args.w.now)) key-names) ∙ k)).0) c.if-key-from.true

pub returns-then-to-key : goal.returns-then-to-key
returns-then-to-key c =
    let k : c.place_of.result ≡ Some c.in_ok-key.key = grind (arith, common_steps) in
    key_above _ _ _ _ _ _ _ c.find-equals.ensures.0 (search rules) _ ((found-place _ _ _ (sym (c.place_of.ensures ∙ ap (found (take c.find-equals.result c.args.w.now)) key-names) ∙ k)).0) c.if-key-from.false c.if-to-key.true

pub returns-then-is_some : goal.returns-then-is_some
returns-then-is_some c =
    let k : c.place_of.result ≡ Some c.in_ok-key.key = grind (arith, common_steps) in
    said-before _ _ _ _ _ _ _ c.find-equals.ensures.0 (search rules) _ ((found-place _ _ _ (sym (c.place_of.ensures ∙ ap (found (take c.find-equals.result c.args.w.now)) key-names) ∙ k)).0) c.if-key-from.false c.if-to-key.false (sym c.is_some.ensures ∙ c.if-is_some.true)

pub returns-in_err-v : goal.returns-in_err-v
returns-in_err-v c =
    let k : c.place_of.result ≡ Some c.in_ok-key.key = grind (arith, common_steps) in
    let t = to_the_end c.args.w.now (c.find-equals.result + 1) in
    let n : c.value.result ≡ None = grind (arith, common_steps) in
    let e : c.from_residual-in_err-v.result ≡ Err (Unreadable c.in_ok-key.key) = grind (arith, common_steps) in
    rw e (unread-value _ _ _ _ _ _ _ c.find-equals.ensures.0 (search rules) _ ((found-place _ _ _ (sym (c.place_of.ensures ∙ ap (found (take c.find-equals.result c.args.w.now)) key-names) ∙ k)).0) c.if-key-from.false c.if-to-key.false (sym c.is_some.ensures ∙ c.if-is_some.false) _ (c.value.ensures.1 ∙ ap (λ (v : List ℕ). numbers_seen_for c.in_ok-key.key v c.args.numbers.now) t) (sym (c.value.ensures.0 ∙ ap (value_of c.in_ok-key.key) t) ∙ n))

pub returns : goal.returns
returns c =
    let k : c.place_of.result ≡ Some c.in_ok-key.key = grind (arith, common_steps) in
    let t = to_the_end c.args.w.now (c.find-equals.result + 1) in
    let y : c.value.result ≡ Some c.in_ok-v.v = grind (arith, common_steps) in
    taken _ _ _ _ _ _ _ c.find-equals.ensures.0 (search rules) _ ((found-place _ _ _ (sym (c.place_of.ensures ∙ ap (found (take c.find-equals.result c.args.w.now)) key-names) ∙ k)).0) c.if-key-from.false c.if-to-key.false (sym c.is_some.ensures ∙ c.if-is_some.false) _ (c.value.ensures.1 ∙ ap (λ (v : List ℕ). numbers_seen_for c.in_ok-key.key v c.args.numbers.now) t) _ (sym (c.value.ensures.0 ∙ ap (value_of c.in_ok-key.key) t) ∙ y) refl

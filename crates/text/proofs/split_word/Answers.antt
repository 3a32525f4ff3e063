-- `text::split_word` passes the blanks, and splits what is left where the word ends. Assumes nothing.
use mathlib.Core.Path.{◌≡◌, sym, ap, ◌∙◌}
use Prim.Native.Nat.{ℕ, ◌-◌}
use borrow.Author.Rules.{rules}
use lib.ListN.{length, take, drop}
use Rattle.text.proofs.Splits.{no_word, one_word, to_the_end}
use Rattle.text.proofs.split_word.Goals as goal

pub returns-then-is_empty : goal.returns-then-is_empty
returns-then-is_empty c =
    let s = c.args.s.now in
    let e = to_the_end s c.past_blanks.result ∙ ap (λ (k : ℕ). drop k s) c.past_blanks.ensures.0 in
    no_word s (rw (sym e) (let z : length (take (length s - c.past_blanks.result) (drop c.past_blanks.result s)) ≡ 0 = search rules in z))

pub returns : goal.returns
returns c =
    let s = c.args.s.now in
    let e = to_the_end s c.past_blanks.result ∙ ap (λ (k : ℕ). drop k s) c.past_blanks.ensures.0 in
    rw (c.split_at.ensures.front, c.split_at.ensures.back) (one_word s _ e (λ z. search rules) _ c.find_blank.ensures.0 c.find_blank.ensures.1)

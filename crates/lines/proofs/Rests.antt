-- A line's first word, and where its reading stops: what each way through gives. Assumes nothing.
use mathlib.Core.Path.{◌≡◌, refl, sym, ap, ◌∙◌}
use mathlib.Core.List.{List, []}
use Prim.Native.Nat.{ℕ}
use lib.ListN.{get_or}
use Rattle.base.proofs.Picks.{pick-t, pick-f}
use Rattle.text.specs.Split.{words, FirstWord}
use Rattle.lines.specs.Key.{buffer_key, settings, key_count, unread_words, unsaid}
use Rattle.lines.specs.declared.name.Name.{Name}
use Rattle.lines.specs.declared.name.Name.TheVariants.{Open}
use Rattle.lines.specs.Name.{is, form, text_of, Begins}
use mathlib.Core.Bool.{true, false}
use Rattle.std.specs.Prelude.{is_some, Option, Some, None}
use Rattle.lines.specs.declared.argument.Kind.{Kind}
use Rattle.lines.specs.Argument.{unread, if_read, arguments_rest, Arguments}
use Rattle.lines.specs.Option.{options_rest}
use Rattle.lines.specs.Call.{options_of}
use Rattle.lines.specs.Found.{rest_named, rest_as, rest_words, found_in, first_in}

-- ---- whether every word of a form was read

pub some-unread : (r : Option Kind) → is_some r ≡ true → (t : Kind) × (r ≡ Some t)
some-unread None e = cc
some-unread (Some t) e = (t, refl)

pub none-unread : (r : Option Kind) → is_some r ≡ false → r ≡ None
none-unread None e = refl
none-unread (Some t) e = cc

-- ---- among the words after a name

module _ (name : Name) (ws : List (List ℕ)) where
  pub at-setting : is name Open ≡ true → options_rest settings key_count unsaid ws ≡ rest_named name ws
  unfolding rest_named
  at-setting e = sym (pick-t _ _ _ e)

  module _ (f : is name Open ≡ false) (d : List ℕ) (r : Option Kind) (left m e : List ℕ) (g : Arguments (form name).words unread_words d ws r left m e) where
    pub at-word : (t : Kind) → r ≡ Some t → words left ≡ rest_named name ws
    unfolding rest_named
    at-word t h = let u : unread (form name).words ws ≡ Some t = sym g.told ∙ h in g.rest ∙ sym (pick-f _ _ _ f ∙ rw u)

    pub at_option : r ≡ None → (to : ℕ) → to ≡ (form name).keys_end → options_rest buffer_key to unsaid (words left) ≡ rest_named name ws
    unfolding rest_named
    at_option h to k =
        ap (λ (x : ℕ). options_rest buffer_key x unsaid (words left)) k
        ∙ ap (options_rest buffer_key (form name).keys_end unsaid) (g.follows h)
        ∙ sym (pick-f _ _ _ f ∙ ap (λ (x : Option Kind). if_read x (options_rest buffer_key (form name).keys_end unsaid (options_of name ws)) (arguments_rest (form name).words ws)) (sym g.told ∙ h))

-- ---- in a line

module _ (line : List ℕ) where
  pub no-first : words (text_of line) ≡ [] → [] ≡ first_in line
  unfolding first_in
  no-first e = rw e

  pub no_words : words (text_of line) ≡ [] → [] ≡ found_in line
  unfolding found_in rest_words
  no_words e = rw e

  module _ (word : List ℕ) (name : Option Name) (rest : List ℕ) (g : Begins line word name rest) where
    pub first-word : word ≡ first_in line
    unfolding first_in
    first-word = rw g.reads

    by-name : rest_as name word (words rest) ≡ rest_words (words (text_of line))
    unfolding rest_words
    by-name = ap (λ (x : Option Name). rest_as x word (words rest)) g.named ∙ ap rest_words (sym g.reads)

    pub no_name : name ≡ None → word ≡ found_in line
    unfolding found_in rest_as
    no_name b = ap (λ (x : List (List ℕ)). get_or x 0 []) (rw b at by-name)

    module _ (call : Name) (b : name ≡ Some call) (left : List ℕ) (h : words left ≡ rest_named call (words rest)) where
      found-left : get_or (words left) 0 [] ≡ found_in line
      unfolding found_in rest_as
      found-left = ap (λ (x : List (List ℕ)). get_or x 0 []) (h ∙ (rw b at by-name))

      pub after-name : (at end : List ℕ) → FirstWord left at end → at ≡ found_in line
      after-name at end f = sym (ap (λ (x : List (List ℕ)). get_or x 0 []) f.reads) ∙ found-left

      pub at-end : words left ≡ [] → [] ≡ found_in line
      at-end e = sym (ap (λ (x : List (List ℕ)). get_or x 0 []) e) ∙ found-left

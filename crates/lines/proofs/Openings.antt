-- `open`: patterns of doubles, and what each way through gives. Assumes nothing.
use mathlib.Core.Path.{◌≡◌, refl, sym, ap, ◌∙◌}
use mathlib.Core.Bool.{true, false, not}
use mathlib.Core.List.{List, []}
use Prim.Native.Nat.{ℕ, ◌%◌, ◌≤◌, ◌<◌}
use native.Mathlib.Omega.{arith}
use borrow.Author.Tests.{lt-ltb, le-ltb}
use lib.Dec.{T}
use lib.Ieee.{Float, nan, inf, fin, binary64, of_int, of_bits, to_bits, is_nan, nan_bits, div, round}
use lib.Ieee.Bits.{nan_bits_is, nan_bits_above}
use lib.ListN.{length}
use Rattle.base.proofs.Picks.{pick-t, pick-f}
use Rattle.text.specs.Split.{words}
use Rattle.lines.specs.declared.Expected.TheVariants as Expected
use Rattle.lines.specs.declared.Opening.{Opening}
use Rattle.std.specs.Prelude.{Option, Some, None, Ok, Err}
use Rattle.lines.specs.declared.option.Untaken.{Untaken}
use Rattle.lines.specs.Key.{at_key, settings, key_count, unsaid}
use Rattle.lines.specs.declared.name.Name.{Name}
use Rattle.lines.specs.declared.name.Name.TheVariants.{Open}
use Rattle.lines.specs.Name.{is, text_of, Begins}
use Rattle.lines.specs.Option.{Took, Taken, expected_of, options_took, options_values, Ran}
use Rattle.lines.specs.Call.{longest, or_else}
use Rattle.lines.specs.Open.{bits_of, settings_of, Within, unread_opening, opened, opened_by, open_as, open_words, opening_of}
use Rattle.lines.proofs.Bounds.{held-unsaid, held-options}

-- ---- doubles

zero-over-zero : div binary64 (of_bits binary64 0) (of_bits binary64 0) ≡ nan
unfolding div of_bits
zero-over-zero = refl

is-nan : (x : Float) → is_nan x ≡ true → nan ≡ x
unfolding is_nan
is-nan nan e = refl
is-nan (inf s) e = cc
is-nan (fin s m x) e = cc

-- a pattern above the infinity's, its sign taken off
pub nan_pattern : (b : ℕ) → 9218868437227405312 < b % 9223372036854775808 → div binary64 (of_bits binary64 0) (of_bits binary64 0) ≡ of_bits binary64 b
nan_pattern b h = zero-over-zero ∙ is-nan (of_bits binary64 b) (sym (nan_bits_is binary64 b) ∙ nan_bits_above binary64 b ∙ lt-ltb _ _ h)

pub no-nan-pattern : (b : ℕ) → b % 9223372036854775808 ≤ 9218868437227405312 → T (not (nan_bits binary64 b))
no-nan-pattern b h = rw (nan_bits_above binary64 b ∙ le-ltb _ _ h) tt

pub rate-bits : 4676829883349860352 ≡ bits_of 48000
unfolding to_bits of_int round
rate-bits = refl

pub centre-bits : 4709274203742797824 ≡ bits_of 7000000
unfolding to_bits of_int round
centre-bits = refl

-- ---- the words after `open`

module _ (n : List ℕ) (ws : List (List ℕ)) (q : Took) (m : List (Option ℕ)) (e : List ℕ) (o : Ran settings key_count unsaid n ws q m e) where
  by : opened q (options_values unsaid ws) ≡ opened_by ws
  unfolding opened_by
  by = ap (λ (x : Took). opened x (options_values unsaid ws)) o.told

  pub untaken : (x : Untaken) → q ≡ Err x → unread_opening (expected_of x Expected.Setting) ≡ opened_by ws
  unfolding opened
  untaken x t = rw t at by

  module _ (t : q ≡ Taken) where
    values-then : m ≡ options_values unsaid ws
    values-then = o.values t

    pub all_said : ◌≡◌ {A = Opening} (record { read = Ok tt; at = or_else m at_key 0; settings = settings_of m }) (opened_by ws)
    unfolding opened
    all_said = ap (opened Taken) values-then ∙ (rw t at by)

    pub within : Within m
    within =
        let a : options_took settings key_count unsaid ws ≡ Taken = sym o.told ∙ t in
        (rw (sym values-then) at (held-options settings key_count ws unsaid (omega arith) a held-unsaid)).options

-- ---- a line

module _ (line : List ℕ) where
  pub too_long : longest < length line → unread_opening Expected.ShorterLine ≡ opening_of line
  unfolding opening_of
  too_long h = sym (pick-t _ _ _ (lt-ltb _ _ h))

  module _ (h : length line ≤ longest) where
    by-words : open_words (words (text_of line)) ≡ opening_of line
    unfolding opening_of
    by-words = sym (pick-f _ _ _ (le-ltb _ _ h))

    pub no_words : words (text_of line) ≡ [] → unread_opening Expected.Open ≡ opening_of line
    unfolding open_words
    no_words o = ap open_words (sym o) ∙ by-words

    module _ (word : List ℕ) (name : Option Name) (rest : List ℕ) (g : Begins line word name rest) where
      by-name : open_as name (words rest) ≡ opening_of line
      unfolding open_words
      by-name = ap (λ (x : Option Name). open_as x (words rest)) g.named ∙ ap open_words (sym g.reads) ∙ by-words

      pub no_name : name ≡ None → unread_opening Expected.Open ≡ opening_of line
      unfolding open_as
      no_name b = rw b at by-name

      module _ (call : Name) (v : name ≡ Some call) where
        by-call : open_as (Some call) (words rest) ≡ opening_of line
        by-call = rw v at by-name

        pub is_open : is call Open ≡ true → opened_by (words rest) ≡ opening_of line
        unfolding open_as
        is_open b = sym (pick-t _ _ _ b) ∙ by-call

        pub not-open : is call Open ≡ false → unread_opening Expected.Open ≡ opening_of line
        unfolding open_as
        not-open b = sym (pick-f _ _ _ b) ∙ by-call

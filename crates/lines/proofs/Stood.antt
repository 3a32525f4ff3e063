-- A line's first word, and the word at which its reading stops, stand in the line. Assumes nothing.
use mathlib.Core.List.{List, [], ◌∷◌}
use Prim.Native.Nat.{ℕ}
use lib.ListN.{length, get_or}
use Rattle.std.specs.Prelude.{Option, Some, None, Ok, Err}
use Rattle.base.specs.Each.{Each}
use Rattle.base.proofs.Eaches.{each-drop}
use Rattle.base.proofs.Picks.{pick-either}
use Rattle.text.specs.Run.{run, other}
use Rattle.text.specs.Split.{words}
use Rattle.text.specs.Part.{StandsIn}
use Rattle.text.proofs.Parts.{stands-before, none-stands, words-stand}
use Rattle.values.specs.Value.{given}
use Rattle.lines.specs.Key.{buffer_key, settings, key_count, unsaid}
use Rattle.lines.specs.declared.name.Name.{Name}
use Rattle.lines.specs.declared.name.Name.TheVariants.{Open}
use Rattle.lines.specs.declared.argument.Kind.{Kind}
use Rattle.lines.specs.Name.{name_of, is, form, text_of}
use Rattle.lines.specs.Argument.{argument, unread, if_read, arguments_rest}
use Rattle.lines.specs.Option.{Took, took, values_after, stopped, options_rest}
use Rattle.lines.specs.Call.{options_of}
use Rattle.lines.specs.Found.{rest_named, rest_as, rest_words, found_in, first_in}

-- ---- what holds of each of a list holds of each of what is left of it

module _ (P : List ℕ → Type 0) where
  first-of : (ws : List (List ℕ)) → P [] → Each P ws → P (get_or ws 0 [])
  first-of [] z h = z
  first-of (w ∷ ws) z h = h.0

  options-each : (from to : ℕ) (l : List (Option ℕ)) (ws : List (List ℕ)) → Each P ws → Each P (options_rest from to l ws)
  unfolding options_rest stopped
  options-each from to l [] h = h
  options-each from to l (w ∷ ws) h = go (took from to l w) (options-each from to (values_after l w) ws h.1)
    where
      go : (t : Took) → Each P (options_rest from to (values_after l w) ws) → Each P (stopped t (w ∷ ws) (options_rest from to (values_after l w) ws))
      go (Ok u) k = k
      go (Err x) k = h

  arguments-each : (ts : List Kind) (ws : List (List ℕ)) → Each P ws → Each P (arguments_rest ts ws)
  unfolding arguments_rest given
  arguments-each [] ws h = h
  arguments-each (t ∷ ts) [] h = h
  arguments-each (t ∷ ts) (w ∷ ws) h = go (argument t w) (arguments-each ts ws h.1)
    where
      go : (o : Option ℕ) → Each P (arguments_rest ts ws) → Each P (given o (λ n. arguments_rest ts ws) (w ∷ ws))
      go (Some n) k = k
      go None k = h

  read-each : (r : Option Kind) (xs ys : List (List ℕ)) → Each P xs → Each P ys → Each P (if_read r xs ys)
  read-each None xs ys h k = h
  read-each (Some t) xs ys h k = k

  named-each : (name : Name) (ws : List (List ℕ)) → Each P ws → Each P (rest_named name ws)
  unfolding rest_named
  named-each name ws h =
      pick-either (is name Open) _ _ (Each P) (λ _. options-each settings key_count unsaid ws h)
      (λ _.
      read-each (unread (form name).words ws) _ _
      (options-each buffer_key (form name).keys_end unsaid (options_of name ws) (each-drop P (length (form name).words) ws h))
      (arguments-each (form name).words ws h))

  rest-each : (ws : List (List ℕ)) → Each P ws → Each P (rest_words ws)
  unfolding rest_words rest_as
  rest-each [] h = h
  rest-each (w ∷ ws) h = go (name_of w)
    where
      go : (name : Option Name) → Each P (rest_as name w ws)
      go None = h
      go (Some n) = named-each n ws h.1

-- ---- in a line

pub first-stands : (line : List ℕ) → StandsIn line (first_in line)
unfolding first_in
first-stands line =
    let t = text_of line in
    stands-before line _ (run (other 35) line) (first-of (StandsIn t) (words t) (none-stands t) (words-stand t))

pub found-stands : (line : List ℕ) → StandsIn line (found_in line)
unfolding found_in
found-stands line =
    let t = text_of line in
    stands-before line _ (run (other 35) line) (first-of (StandsIn t) (rest_words (words t)) (none-stands t) (rest-each (StandsIn t) (words t) (words-stand t)))

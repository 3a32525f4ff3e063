-- What stands in a line: its first word, and the word at which its reading stops. Definitions only.
use Rattle.std.specs.Prelude.{ℕ, List, [], ◌∷◌, get_or, Option, Some, None}
use Rattle.base.specs.Pick.{pick}
use Rattle.lines.specs.Key.{buffer_key, settings, key_count, unsaid}
use Rattle.lines.specs.declared.name.Name.{Name}
use Rattle.lines.specs.declared.name.Name.TheVariants.{Open}
use Rattle.lines.specs.Name.{name_of, is, form}
use Rattle.lines.specs.Argument.{unread, if_read, arguments_rest}
use Rattle.lines.specs.Option.{options_rest}
use Rattle.lines.specs.Call.{options_of, words_of}

-- of the words after a name, those from the one on that can't be read: of `open` among its settings, of a call among the words of its
-- form and then among its options
unfoldable pub rest_named : Name → List (List ℕ) → List (List ℕ)
rest_named name ws =
    pick (is name Open) (options_rest settings key_count unsaid ws)
    (if_read (unread (form name).words ws)
    (options_rest buffer_key (form name).keys_end unsaid (options_of name ws))
    (arguments_rest (form name).words ws))

-- of all words: from the first on where it is no name
unfoldable pub rest_as : Option Name → List ℕ → List (List ℕ) → List (List ℕ)
rest_as None w ws = w ∷ ws
rest_as (Some name) w ws = rest_named name ws

unfoldable pub rest_words : List (List ℕ) → List (List ℕ)
rest_words [] = []
rest_words (w ∷ ws) = rest_as (name_of w) w ws

-- the word that can't be read; none where the line ends there, or can be read
unfoldable pub found_in : List ℕ → List ℕ
found_in line = get_or (rest_words (words_of line)) 0 []

-- the first word; none where the line has no words
unfoldable pub first_in : List ℕ → List ℕ
first_in line = get_or (words_of line) 0 []

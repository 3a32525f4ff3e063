-- What holds of the form of every name. Assumes nothing.
use mathlib.Core.Path.{◌≡◌}
use Prim.Native.Nat.{◌≤◌}
use lib.ListN.{length}
use borrow.Author.Rules.{rules}
use Rattle.lines.specs.declared.name.Name.{Name}
use Rattle.lines.specs.declared.name.Name.TheVariants.{Take}
use Rattle.lines.specs.Key.{key_count}
use Rattle.lines.specs.Name.{form}

pub four-words : (name : Name) → length (form name).words ≤ 4
four-words name = search rules

pub keys-within : (name : Name) → (form name).keys_end ≤ key_count
keys-within name = search rules

pub eight-kinds : (name : Name) → (form name).kind ≤ 7
eight-kinds name = search rules

pub buffer-within : (name : Name) → (form name).buffer ≤ 8192
buffer-within name = search rules

-- a Take has one name
pub is-take : (name : Name) → (form name).kind ≡ 3 → name ≡ Take
is-take name e = search rules

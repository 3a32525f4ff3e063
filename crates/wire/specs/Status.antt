-- The status datagram: 60 octets, of which octet 5 has the ADC overload bits. Definitions only.
use Rattle.std.specs.Prelude.{ℕ, ◌%◌, Bool, List, [], ◌∷◌, length, get_or, eqb, Option, Some, None}
use Rattle.base.specs.Pick.{pick}
use Rattle.base.specs.Told.{Told, gives}

-- the whole octet; a datagram of another length has no overload bits
unfoldable pub overload_told : List ℕ → Told
overload_told b = pick (eqb (length b) 60) (gives (get_or b 5 0 ∷ [])) (gives [])

abbrev pub overload_answer : Option ℕ → Told
overload_answer (Some bits) = gives (bits ∷ [])
overload_answer None = gives []

-- bit 0 is overload
unfoldable pub overloaded : ℕ → Bool
overloaded bits = eqb (bits % 2) 1

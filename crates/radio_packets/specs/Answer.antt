-- The answer of a writer whose values may be refused, in numbers, and what it leaves. Definitions only.
use Rattle.std.specs.Prelude.{⊤, ℕ, ◌≡◌, Bool, List, [], ◌∷◌, length, ltb, Result, Ok, Err}
use Rattle.radio_packets.specs.declared.answer.WriteError.{WriteError}
use Rattle.radio_packets.specs.declared.answer.WriteError.TheVariants.{Value, NoRoom}
use Rattle.base.specs.Rows.{Row, row, unless}
use Rattle.base.specs.Told.{Told, gives, refused}
use Rattle.octets.specs.Written.{written}

abbrev pub write_answer : Result ⊤ WriteError → Told
write_answer (Ok u) = gives []
write_answer (Err Value) = refused 21 []
write_answer (Err NoRoom) = refused 15 []

-- 21: the values are none that the packet can carry; then 15: the buffer is below its n octets
abbrev pub write_rows : Bool → ℕ → ℕ → List Row
write_rows bad n room = row 21 bad ∷ row 15 (ltb room n) ∷ []

-- out, of n octets, was to be written to the front of d, and e is what it then held; a refusal changes nothing
pub record Wrote (bad : Bool) (n : ℕ) (out d : List ℕ) (r : Result ⊤ WriteError) (e : List ℕ) : Type 0 where
  pub answer : write_answer r ≡ unless (write_rows bad n (length d)) (λ k. refused k []) (gives [])
  pub holds : e ≡ unless (write_rows bad n (length d)) (λ k. d) (written d 0 out)

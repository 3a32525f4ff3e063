-- What a writer leaves in a lent buffer, place by place. Definitions only.
use Rattle.std.specs.Prelude.{ℕ, ◌+◌, ◌≡◌, List, ◌++◌, length, take, drop}

-- d with out in it from at on: every other place is as it was
unfoldable pub written : {A : Type 0} → List A → ℕ → List A → List A
written d at out = take at d ++ (out ++ drop (at + length out) d)

-- out was put into d from at on, it ends at end, and the buffer is then e
pub record Put (d : List ℕ) (at : ℕ) (out : List ℕ) (end : ℕ) (e : List ℕ) : Type 0 where
  pub ends : end ≡ at + length out
  pub holds : e ≡ written d at out

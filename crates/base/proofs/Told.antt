-- An answer in 01's terms leaves no doubt which answer of the code it was: a way back from the one to the other shows it. Assumes
-- nothing.
use Prim.Native.Nat.{ℕ}
use mathlib.Core.Path.{◌≡◌, sym, ap, ◌∙◌}
use mathlib.Core.List.{List, [], ◌∷◌}

-- a definition that can be read back tells its cases apart
pub apart : {A B : Type 0} (told : A → B) (back : B → A) → ((r : A) → back (told r) ≡ r) → (r s : A) → told r ≡ told s → r ≡ s
apart told back h r s e = sym (h r) ∙ ap back e ∙ h s

-- the number that is given first, or with a refusal
unfoldable pub value : List ℕ → ℕ
value [] = 0
value (v ∷ vs) = v

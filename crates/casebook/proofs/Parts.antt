-- What splitting a word off leaves of a line, where spaces alone part the words. Assumes nothing.
use Rattle.std.specs.Prelude.{Bool, true, false, IfSome}
use Rattle.std.specs.Bool.{then_some}
use Rattle.std.proofs.Common.{◌≡◌, ℕ, List, take, drop}
use Rattle.text.specs.Run.{run, is, other}
use Rattle.text.specs.Part.{Behind, StandsIn}
use Rattle.text.proofs.Parts.{taken-stands, rest-behind}

-- the word that is split off stands in s, and what follows it follows a place of s
module _ (s t u : List ℕ) (b : Behind s t) where
  pub word-stands : u ≡ take (run (other 32) (drop (run (is 32) t) t)) (drop (run (is 32) t) t) → StandsIn s u
  word-stands e = rw e (taken-stands s t b (run (is 32) t) (run (other 32) (drop (run (is 32) t) t)))

  pub left-behind : u ≡ drop (run (other 32) (drop (run (is 32) t) t)) (drop (run (is 32) t) t) → Behind s u
  left-behind e = rw e (rest-behind s t b (run (is 32) t) (run (other 32) (drop (run (is 32) t) t)))

-- what is told only where a test holds
pub if-then_some : {T : Type 0} (P : T → Type 0) (t : Bool) (x : T) → P x → IfSome (then_some t x) P
if-then_some P true x p = p
if-then_some P false x p = tt

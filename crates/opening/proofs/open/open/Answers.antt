-- `opening::open::open` meets its contract. Assumes nothing.
use Prim.Native.Nat.{ℕ}
use mathlib.Core.List.{List, [], ◌∷◌}
use Rattle.opening.proofs.Openings.{opened-not, opened-so}
use Rattle.opening.proofs.open.open.Goals as goal

-- the tags of the answers that refuse
abbrev refusals : List ℕ
refusals = 1 ∷ 2 ∷ 3 ∷ 4 ∷ 5 ∷ 6 ∷ 7 ∷ []

pub returns-in_default : goal.returns-in_default
returns-in_default c = let a = c.args in
    opened-not a.s a.now c.validate_protocol2-answer.result _
    c.in_default.not-Ok
    c.validate_protocol2-answer.ensures c.unopened-session.ensures

pub returns : goal.returns
returns c = let a = c.args in opened-so a.s a.now c.validate_protocol2-answer.result _ _ c.in-Ok.is c.validate_protocol2-answer.ensures c.new_session-session.ensures

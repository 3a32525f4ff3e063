-- A NaN stands on no rung, so that each of the three ladders has it past the last. Assumes nothing.
use mathlib.Core.Path.{◌≡◌, refl, ap}
use Prim.Native.Nat.{ℕ}
use mathlib.Core.Bool.{Bool, true, false}
use mathlib.Core.List.{List}
use lib.ListN.{length, get_or}
use lib.Ieee.{Float, nan, inf, fin, lt}
use Rattle.tuning.specs.Alex.{on_rung, ladder_of}
use Rattle.base.proofs.Searches.{none_first}

on_none : (way : Bool) (l : Float) → on_rung way nan l ≡ false
unfolding on_rung lt
on_none false l = refl
on_none true nan = refl
on_none true (inf s) = refl
on_none true (fin s m e) = refl

pub nan-past : (way : Bool) (limits : List Float) (bits : List ℕ) → ladder_of way limits bits nan ≡ get_or bits (length limits) 0
nan-past way limits bits = ap (λ (k : ℕ). get_or bits k 0) (none_first (on_rung way nan) (on_none way) limits)

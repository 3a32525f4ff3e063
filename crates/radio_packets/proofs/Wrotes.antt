-- The answer of a writer whose values may be refused: by its values, for room, or written. Assumes nothing.
use Rattle.std.specs.Prelude.{Ok, Err}
use Rattle.radio_packets.specs.declared.answer.WriteError.TheVariants.{Value, NoRoom}
use Prim.Native.Nat.{ℕ, ◌≤◌, ◌<◌}
use mathlib.Core.Path.{◌≡◌, sym, ◌∙◌}
use mathlib.Core.Bool.{Bool, true, false}
use mathlib.Core.List.{List}
use lib.ListN.{length}
use borrow.Author.Tests.{lt-ltb, le-ltb}
use Rattle.base.proofs.Picks.{pick-t, pick-f}
use Rattle.octets.specs.Written.{written}
use Rattle.radio_packets.specs.Answer.{Wrote}

module _ (bad : Bool) (n : ℕ) (out d : List ℕ) where
  pub wrote-bad : bad ≡ true → Wrote bad n out d (Err Value) d
  wrote-bad h = record { answer = sym (pick-t _ _ _ h); holds = sym (pick-t _ _ _ h) }

  module _ (h : bad ≡ false) where
    pub wrote-no-room : length d < n → Wrote bad n out d (Err NoRoom) d
    wrote-no-room l =
        let t = lt-ltb (length d) n l in
        record { answer = sym (pick-f _ _ _ h ∙ pick-t _ _ _ t); holds = sym (pick-f _ _ _ h ∙ pick-t _ _ _ t) }

    pub wrote : (e : List ℕ) → n ≤ length d → e ≡ written d 0 out → Wrote bad n out d (Ok tt) e
    wrote e l w =
        let f = le-ltb (length d) n l in
        record { answer = sym (pick-f _ _ _ h ∙ pick-f _ _ _ f); holds = w ∙ sym (pick-f _ _ _ h ∙ pick-f _ _ _ f) }

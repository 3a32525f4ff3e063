-- The answer of a packet's writer: refused for room, or its fields stored after the count. Assumes nothing.
use Rattle.std.specs.Prelude.{Ok, Err}
use Rattle.wire.specs.declared.packet.PacketError.TheVariants.{NoRoom}
use Prim.Native.Nat.{ℕ, ◌≤◌, ◌<◌}
use mathlib.Core.Bool.{Bool, true, false, cond}
use mathlib.Core.Path.{◌≡◌, sym, ap, ◌∙◌}
use mathlib.Core.List.{List, [], ◌∷◌}
use lib.ListN.{length}
use lib.Dec.{T}
use native.Mathlib.Omega.{arith}
use borrow.Author.Tests.{lt-ltb, le-ltb}
use Rattle.octets.specs.Written.{written}
use Rattle.octets.specs.Packet.{Field, stored, packet, within}
use Rattle.base.proofs.Picks.{pick-t, pick-f}
use Rattle.octets.proofs.Packets.{packet-front}
use Rattle.wire.specs.Packet.{count, Sent}

module _ (n : ℕ) (out d : List ℕ) where
  pub no_room : length d < n → Sent n out d (Err NoRoom) d
  no_room h = let t = lt-ltb (length d) n h in record { answer = sym (pick-t _ _ _ t); holds = sym (pick-t _ _ _ t) }

  pub sent : (e : List ℕ) → n ≤ length d → e ≡ written d 0 out → Sent n out d (Ok tt) e
  sent e h w = let f = le-ltb (length d) n h in record { answer = sym (pick-f _ _ _ f); holds = w ∙ sym (pick-f _ _ _ f) }

-- s is what `start` leaves of d, and e has the other fields stored in it
pub sent-fields : (n seq : ℕ) (fs : List Field) (d s e : List ℕ) → n ≤ length d → T (within n (count seq ∷ [])) → T (within n (count seq ∷ fs))
    → s ≡ written d 0 (packet n (count seq ∷ [])) → e ≡ stored fs s → Sent n (packet n (count seq ∷ fs)) d (Ok tt) e
sent-fields n seq fs d s e h o t b w =
    sent n (packet n (count seq ∷ fs)) d e h
    (w ∙ ap (stored fs) (b ∙ sym (packet-front n (count seq ∷ []) d o)) ∙ packet-front n (count seq ∷ fs) d t)

-- the run bit is an octet
pub run-octet : (run : Bool) → cond run 1 0 < 256
run-octet true = omega arith
run-octet false = omega arith

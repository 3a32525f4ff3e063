-- An answer in 01's terms leaves no doubt which answer it was: a promise of the one determines the other. Assumes nothing.
use Rattle.std.specs.Prelude.{⊤, ℕ, Option, Some, None, Result, Ok, Err}
use Rattle.wire.specs.declared.packet.PacketError.{PacketError}
use Rattle.wire.specs.declared.packet.PacketError.TheVariants as packet
use mathlib.Core.Path.{◌≡◌, refl}
use mathlib.Core.List.{[], ◌∷◌}
use Rattle.base.specs.Told.{Told, gives, refused}
use Rattle.base.proofs.Told.{apart}
use Rattle.wire.specs.Packet.{packet_answer}
use Rattle.wire.specs.Status.{overload_answer}

packet-back : Told → Result ⊤ PacketError
packet-back (gives vs) = Ok tt
packet-back (refused k vs) = Err packet.NoRoom

packet-same : (r : Result ⊤ PacketError) → packet-back (packet_answer r) ≡ r
unfolding packet-back
packet-same (Ok u) = refl
packet-same (Err packet.NoRoom) = refl

overload-back : Told → Option ℕ
overload-back (gives []) = None
overload-back (gives (v ∷ vs)) = Some v
overload-back (refused k vs) = None

overload-same : (r : Option ℕ) → overload-back (overload_answer r) ≡ r
unfolding overload-back
overload-same (Some bits) = refl
overload-same None = refl

pub packet-apart : (r s : Result ⊤ PacketError) → packet_answer r ≡ packet_answer s → r ≡ s
packet-apart = apart packet_answer packet-back packet-same

pub overload-apart : (r s : Option ℕ) → overload_answer r ≡ overload_answer s → r ≡ s
overload-apart = apart overload_answer overload-back overload-same

-- Close: two packets, from the parts that the code makes of them. Assumes nothing.
use Prim.Native.Nat.{ℕ}
use mathlib.Core.Path.{◌≡◌, refl, ap}
use mathlib.Core.Bool.{true}
use mathlib.Core.List.{List}
use Rattle.octets.specs.Written.{written}
use Rattle.model.specs.Answer.{done, closed}
use Rattle.model.specs.Sending.{stop_packets}
use Rattle.model.specs.Command.{streams_as}
use Rattle.model.specs.Parts.{with_common, with_closed}
use Rattle.model.specs.Close.{stop}
use Rattle.model.specs.declared.session.Common.{Common}
use Rattle.model.specs.declared.session.Session.{Session}
use Rattle.model.specs.declared.command.Streams.{Streams}
use Rattle.model.specs.Gives.{Gives}

pub stopped : (s : Session) (d : List ℕ) (c : Common) (l : Streams) (e : List ℕ)
    → (c ≡ (stop_packets s.common).common) × (l ≡ streams_as (stop_packets s.common).streams) × (e ≡ written d 0 (stop_packets s.common).octets)
    → Gives (done closed) l e (with_common s (with_closed c true)) (stop s d)
unfolding stop
stopped s d c l e t =
    record { answers = refl; lists = t.1; writes = t.2; leaves = ap (λ (x : Common). with_common s (with_closed x true)) t.0 }

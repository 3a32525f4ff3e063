-- What a radio reads of the request: its length, the command at octet 4, and 0 at every other octet. Assumes nothing.
use Prim.Native.Nat.{ℕ, ◌+◌, ◌<◌}
use mathlib.Core.Bool.{Bool, true, false, ◌||◌}
use mathlib.Core.Path.{◌≡◌, refl}
use lib.ListN.{length, get_or}
use lib.Dec.{T, leb, le→leb}
use lib.Ieee.Fits.{and_i}
use native.Mathlib.Omega.{arith}
use borrow.Author.Tests.{leb-false}
use Rattle.octets.specs.Number.{be_at}
use Rattle.base.specs.Each.{Each}
use Rattle.octets.proofs.Packets.{length-packet, read-exact, unnamed}
use Rattle.discovery.specs.Request.{request_fields, request_packet}

pub request-length : length request_packet ≡ 60
unfolding request_packet
request-length = length-packet 60 request_fields tt

pub request-reads : Each (λ f. be_at f.width request_packet f.at ≡ f.value) request_fields
unfolding request_packet
request-reads = read-exact 60 request_fields tt tt (omega arith, tt)

-- an octet other than k stands before it or after it
beside : (i k : ℕ) → (i ≡ k → ⊥) → (b : Bool) → leb (i + 1) k ≡ b → T (b || leb (k + 1) i)
beside i k n true e = tt
beside i k n false e = le→leb (k + 1) i (omega (arith, leb-false (i + 1) k e))

pub request-zeros : (i : ℕ) → i < 60 → (i ≡ 4 → ⊥) → get_or request_packet i 0 ≡ 0
unfolding request_packet
request-zeros i h n = unnamed 60 request_fields i tt h (and_i (leb (i + 1) 4 || leb 5 i) true (beside i 4 n (leb (i + 1) 4) refl) tt)

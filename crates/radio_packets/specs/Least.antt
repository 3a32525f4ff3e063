-- What the radio writes is the least, octet by octet from the first, of all packets of its length that the host reads as the same.
-- Definitions only.
use Rattle.std.specs.Prelude.{ℕ, ◌≡◌, List, length, get_or, T}
use Rattle.octets.specs.Order.{Octets, at_most}
use Rattle.iq.specs.Iq.{header_told, samples_of}
use Rattle.wire.specs.Status.{overloaded}
use Rattle.discovery.specs.Reply.{reply_told}

-- w is at most every packet that is as long, is of octets, and is read alike
abbrev pub Least : (List ℕ → List ℕ → Type 0) → List ℕ → Type 0
Least Alike w = (b : List ℕ) → length b ≡ length w → Octets b → Alike b w → T (at_most w b)

-- ---- read alike by the host

-- `parse_iq_datagram`: the count, or by which number it is refused, and the samples
pub record AlikeIq (b w : List ℕ) : Type 0 where
  pub told : header_told b ≡ header_told w
  pub samples : samples_of b ≡ samples_of w

-- `adc_overload_bits`: the overload bit
abbrev pub AlikeStatus : List ℕ → List ℕ → Type 0
AlikeStatus b w = overloaded (get_or b 5 0) ≡ overloaded (get_or w 5 0)

-- `parse_reply`: the reply and the address
abbrev pub AlikeReply : List ℕ → List ℕ → Type 0
AlikeReply b w = reply_told b ≡ reply_told w

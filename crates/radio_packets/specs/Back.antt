-- What the radio writes, the host's own parsers read back as what was given. Definitions only.
use Rattle.std.specs.Prelude.{ℕ, ◌≡◌, Bool, true, false, List, [], ◌∷◌, map, ℤ, pos, negsuc, nat_abs, Float}
use Rattle.std.specs.Float.{binary32}
use Rattle.std.specs.Float.Ieee.{round}
use Rattle.std.specs.Float.Ieee.Exact.{HasValue}
use Rattle.base.specs.Each.{Each}
use Rattle.base.specs.Told.{gives}
use Rattle.iq.specs.Iq.{header_told, samples_of}
use Rattle.wire.specs.Status.{overload_told, overloaded}
use Rattle.discovery.specs.Reply.{reply, reply_told}
use Rattle.discovery.specs.declared.ReplyAnswer.{ReplyAnswer}

abbrev pub is_negative : ℤ → Bool
is_negative (pos n) = false
is_negative (negsuc n) = true

-- a signed number over 2^23, as f32
unfoldable pub over23 : ℤ → Float
over23 x = round binary32 (is_negative x) (nat_abs x) 8388608

-- `parse_iq_datagram`: the count, and each sample is its number over 2^23, with nothing rounded
pub record IqBack (count : ℕ) (xs : List ℤ) (w : List ℕ) : Type 0 where
  pub told : header_told w ≡ gives (count ∷ [])
  pub samples : samples_of w ≡ map over23 xs
  pub exact : Each (λ x. HasValue (over23 x) (is_negative x) (nat_abs x) 8388608) xs

-- `adc_overload_bits`: an octet whose bit 0 is the given one
pub record StatusBack (overload : Bool) (w : List ℕ) : Type 0 where
  pub bits : ℕ
  pub told : overload_told w ≡ gives (bits ∷ [])
  pub bit : overloaded bits ≡ overload

-- `parse_reply`: the reply and the address
abbrev pub ReplyBack : ReplyAnswer → List ℕ → List ℕ → Type 0
ReplyBack answer mac w = reply_told w ≡ reply answer mac

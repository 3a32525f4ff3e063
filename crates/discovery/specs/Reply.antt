-- What a datagram says as a radio's reply to discovery, discovery.rs. Definitions only.
use Rattle.std.specs.Prelude.{ℕ, Bool, ◌&&◌, ◌||◌, List, [], ◌∷◌, length, get_or, take, drop, leb, eqb, Option, Some, None}
use Rattle.base.specs.Pick.{pick}
use Rattle.octets.specs.Number.{be_at}
use Rattle.octets.specs.Packet.{zeros}
use Rattle.base.specs.Told.{Told, gives, refused}
use Rattle.discovery.specs.declared.DiscoveryStatus.{DiscoveryStatus}
use Rattle.discovery.specs.declared.DiscoveryStatus.TheVariants.{Available, InUse}
use Rattle.discovery.specs.declared.ReplyAnswer.{ReplyAnswer}
use Rattle.discovery.specs.declared.ReplyAnswer.TheVariants.{Protocol1, Protocol2}
use Rattle.discovery.specs.declared.DiscoveryReply.{DiscoveryReply}

-- an answer in 01's terms, with the six octets of the hardware address beside it
pub record Reply : Type 0 where
  pub told : Told
  pub mac : List ℕ

-- status 2 is available, 3 is in use
abbrev pub status_number : DiscoveryStatus → ℕ
status_number Available = 2
status_number InUse = 3

-- the protocol's number, then status, board and firmware, for Protocol 2 the receivers too
abbrev pub reply_answer : ReplyAnswer → Told
reply_answer (Protocol1 status board firmware) = gives (1 ∷ status_number status ∷ board ∷ firmware ∷ [])
reply_answer (Protocol2 status board firmware receivers) =
    gives (2 ∷ status_number status ∷ board ∷ firmware ∷ receivers ∷ [])

abbrev pub reply : ReplyAnswer → List ℕ → Reply
reply answer mac = record { told = reply_answer answer; mac = mac }

-- the address beside 18 is six zeros
abbrev pub no_reply : Reply
no_reply = record { told = refused 18 []; mac = zeros 6 }

abbrev pub told_of : Option DiscoveryReply → Reply
told_of None = no_reply
told_of (Some r) = reply r.answer r.mac

abbrev pub is_status : ℕ → Bool
is_status octet = eqb octet 2 || eqb octet 3

-- another status is no reply
unfoldable pub checked : ℕ → Reply → Reply
checked status reply = pick (is_status status) reply no_reply

-- EF FE, and 11 octets or more
abbrev pub is_p1 : List ℕ → Bool
is_p1 b = leb 11 (length b) && eqb (be_at 2 b 0) 0xEFFE

-- Protocol 1: status 2, address 3 to 8, firmware 9, board 10
abbrev pub reply_p1 : List ℕ → Reply
reply_p1 b =
    checked (get_or b 2 0)
    (record { told = gives (1 ∷ get_or b 2 0 ∷ get_or b 10 0 ∷ get_or b 9 0 ∷ []); mac = take 6 (drop 3 b) })

-- four zeros, and 21 octets or more
abbrev pub is_p2 : List ℕ → Bool
is_p2 b = leb 21 (length b) && eqb (be_at 4 b 0) 0

-- Protocol 2: status 4, address 5 to 10, board 11, firmware 13, receivers 20
abbrev pub reply_p2 : List ℕ → Reply
reply_p2 b =
    checked (get_or b 4 0)
    (record { told = gives (2 ∷ get_or b 4 0 ∷ get_or b 11 0 ∷ get_or b 13 0 ∷ get_or b 20 0 ∷ []); mac = take 6 (drop 5 b) })

unfoldable pub reply_told : List ℕ → Reply
reply_told b = pick (is_p1 b) (reply_p1 b) (pick (is_p2 b) (reply_p2 b) no_reply)

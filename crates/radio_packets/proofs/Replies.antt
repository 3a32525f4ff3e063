-- A discovery reply as it is written: fields in a cleared front, then the address. Assumes nothing.
use Prim.Native.Nat.{ℕ, ◌≤◌, ◌<◌}
use mathlib.Core.Path.{◌≡◌, sym, ap, ◌∙◌}
use mathlib.Core.List.{List}
use lib.ListN.{length, drop}
use native.Mathlib.Omega.{arith}
use Rattle.octets.specs.Packet.{packet, zeros}
use Rattle.octets.specs.Written.{written}
use Rattle.octets.proofs.Packets.{singly, singly-stored, length-zeros, length-packet, packet-front}
use Rattle.octets.proofs.Writes.{written-front, written-append, length-written}
use Rattle.discovery.specs.Reply.{status_number}
use Rattle.discovery.specs.declared.DiscoveryStatus.{DiscoveryStatus}
use Rattle.discovery.specs.declared.DiscoveryStatus.TheVariants.{Available, InUse}
use Rattle.radio_packets.specs.Reply.{reply_fields, reply_octets}

pub status-small : (status : DiscoveryStatus) → status_number status < 256
status-small Available = omega arith
status-small InUse = omega arith

module _ (status : DiscoveryStatus) (board firmware receivers : ℕ) where
  pub length_fields : length (packet 60 (reply_fields status board firmware receivers)) ≡ 60
  length_fields = length-packet 60 (reply_fields status board firmware receivers) tt

  -- b is what the front held after the fields, and e after the address
  pub reply-front : (d b e mac : List ℕ) → board < 256 → firmware < 256 → receivers < 256 → 60 ≤ length d → length mac ≡ 6
      → b ≡ singly (reply_fields status board firmware receivers) (written d 0 (zeros 60)) → e ≡ written b 5 mac → e ≡ written d 0 (reply_octets status board firmware receivers mac)
  unfolding reply_octets
  reply-front d b e mac u v w room n p q =
      let fs = reply_fields status board firmware receivers in
      let k = packet 60 fs in
      let l : length k ≡ 60 = length_fields in
      let m : length (written k 5 mac) ≡ 60 = length-written k 5 mac (omega arith) ∙ l in
      q
      ∙ ap (λ (x : List ℕ). written x 5 mac)
      (p
      ∙ singly-stored fs 60 (written d 0 (zeros 60)) (omega (arith, cleared d room)) tt tt (status-small status, (u, (v, (w, tt))))
      ∙ packet-front 60 fs d tt
      ∙ written-front d k 60 l)
      ∙ written-append k (drop 60 d) 5 mac (omega arith)
      ∙ sym (written-front d (written k 5 mac) 60 m)
    where
      cleared : (d : List ℕ) → 60 ≤ length d → length (written d 0 (zeros 60)) ≡ length d
      cleared d room = length-written d 0 (zeros 60) (omega (arith, length-zeros 60))

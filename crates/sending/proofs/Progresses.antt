-- Packets sent one after another: room, streams and octets, step by step. Assumes nothing.
use Rattle.std.specs.Prelude.{⊤, Result}
use Rattle.wire.specs.declared.packet.PacketError.{PacketError}
use Rattle.std.proofs.Common.{◌≡◌, ℕ, suc, ◌+◌, ◌-◌, ◌%◌, ◌^◌, ◌<◌, ◌≤◌, Bool, true, false, List, [], ◌∷◌, ◌++◌, length, get_or, take, drop, set, replicate, sym, refl, ap, ◌∙◌, subst, append-nil, arith, length-append, le-ltb}
use lib.Seq.{set_at, append_snoc}
use Rattle.base.proofs.Picks.{pick-t, pick-f}
use Rattle.base.specs.Pick.{pick}
use Rattle.wire.specs.Packet.{high_packet, Sent}
use Rattle.octets.specs.Written.{written, Put}
use Rattle.octets.proofs.Puts.{put-none, put_then, put-part}
use Rattle.model.specs.Sending.{Sending, idle, then, packet_of, send}
use Rattle.wire.specs.Command.{offset_of, size_of}
use Rattle.model.specs.Command.{streams_as}
use Rattle.model.proofs.Room.{Within, packet-size}
use Rattle.model.specs.Parts.{with_seq}
use Rattle.wire.specs.declared.command.Stream.{Stream}
use Rattle.wire.specs.declared.command.Stream.TheVariants.{General, RxSpecific, TxSpecific, HighPriority}
use Rattle.model.specs.declared.command.Streams.{Streams}
use Rattle.model.specs.declared.session.Common.{Common}
use Rattle.sending.specs.Progress.{appended, listing, started, HasRoom, Sends}
use Rattle.sending.specs.declared.send.Progress.{Progress}

-- ---- the list of streams

listing-append : (s : Streams) (a b : List ℕ) → listing (listing s a) b ≡ listing s (a ++ b)
unfolding listing
listing-append s [] b = refl
listing-append s (k ∷ a) b = listing-append (appended s k) a b

listing-count : (s : Streams) (a : List ℕ) → (listing s a).count ≡ s.count + length a
unfolding listing
listing-count s [] = omega arith
listing-count s (k ∷ a) = listing-count (appended s k) a ∙ omega arith

-- the code's list, by its places and its count
streams-as : (s : Streams) (l : List ℕ) → s.offsets ≡ l ++ replicate (5 - length l) 0 → s.count ≡ length l → s ≡ streams_as l
unfolding streams_as
streams-as s l o n =
    ap (λ (x : List ℕ). record { offsets = x; count = s.count }) o
    ∙ ap (λ (j : ℕ). record { offsets = l ++ replicate (5 - length l) 0; count = j }) n

-- one more, behind those that are listed
appended-as : (l : List ℕ) (k : ℕ) → length l < 5 → appended (streams_as l) k ≡ streams_as (l ++ (k ∷ []))
unfolding streams_as
appended-as l k h =
    let n : 5 - length l ≡ suc (5 - suc (length l)) = omega arith in
    let m : length (l ++ (k ∷ [])) ≡ suc (length l) = length-append l (k ∷ []) ∙ omega arith in
    streams-as (appended (streams_as l) k) (l ++ (k ∷ []))
    (ap (λ (j : ℕ). set (l ++ replicate j 0) (length l) k) n
    ∙ set_at l 0 (replicate (5 - suc (length l)) 0) k (length l) refl
    ∙ sym (append_snoc l k (replicate (5 - suc (length l)) 0))
    ∙ ap (λ (j : ℕ). (l ++ (k ∷ [])) ++ replicate (5 - j) 0) (sym m))
    (omega (arith, m))

listing-as : (l a : List ℕ) → length l + length a ≤ 5 → listing (streams_as l) a ≡ streams_as (l ++ a)
unfolding listing
listing-as l [] h = ap streams_as (sym (append-nil l))
listing-as l (k ∷ a) h =
    ap (λ (s : Streams). listing s a) (appended-as l k (omega arith))
    ∙ listing-as (l ++ (k ∷ [])) a (omega (arith, length-append l (k ∷ [])))
    ∙ ap streams_as (append_snoc l k a)

-- ---- one step after another

-- what a step leaves of the room
pub room_after : (n k m j : ℕ) (out : Sending) (p : Progress) (d : List ℕ) (q : Progress) (e : List ℕ) → Within n k out → Sends out p d q e → length e ≡ length d
    → HasRoom (n + m) (k + j) p (length d) → HasRoom m j q (length e)
room_after n k m j out p d q e w s l h =
    let c : q.streams.count ≡ p.streams.count + length out.streams = ap (λ (x : Streams). x.count) s.streams ∙ listing-count p.streams out.streams in
    record { octets = omega (arith, s.packets.ends, w.octets, h.octets, l); streams = omega (arith, c, w.streams, h.streams) }

pub room-less : (n k m j : ℕ) (p : Progress) (size : ℕ) → m ≤ n → j ≤ k → HasRoom n k p size → HasRoom m j p size
room-less n k m j p size a b h = record { octets = omega (arith, h.octets); streams = omega (arith, h.streams) }

-- nothing is sent
pub sends_none : (p : Progress) (d : List ℕ) → Sends (idle p.common) p d p d
unfolding listing
sends_none p d = record { common = refl; streams = refl; packets = put-none d p.end }

-- nothing is sent, and the common part is another
pub sends-set : (p : Progress) (c : Common) (d : List ℕ) → Sends (idle c) p d (record { common = c; streams = p.streams; end = p.end }) d
unfolding listing
sends-set p c d = record { common = refl; streams = refl; packets = put-none d p.end }

-- one after the other
pub sends-then : (m j : ℕ) (f : Sending) (g : Common → Sending) (p : Progress) (d : List ℕ) (q : Progress) (e : List ℕ) (r : Progress) (b : List ℕ)
    → Within m j (g q.common) → HasRoom m j q (length e) → length e ≡ length d → Sends f p d q e → Sends (g q.common) q e r b
    → Sends (then f g) p d r b
sends-then m j f g p d q e r b w h l s t =
    let u : Sends (g f.common) q e r b = subst (λ (c : Common). Sends (g c) q e r b) s.common t in
    let v : Within m j (g f.common) = subst (λ (c : Common). Within m j (g c)) s.common w in
    record {
      common = u.common;
      streams = u.streams ∙ ap (λ (x : Streams). listing x (g f.common).streams) s.streams ∙ listing-append p.streams f.streams (g f.common).streams;
      packets =
          put_then d p.end f.octets q.end e (g f.common).octets r.end b (omega (arith, h.octets, v.octets, l, s.packets.ends)) s.packets u.packets;
    }

-- what is sent may be said otherwise
pub sends-as : (o out : Sending) (p : Progress) (d : List ℕ) (r : Progress) (e : List ℕ) → o ≡ out → Sends o p d r e → Sends out p d r e
sends-as o out p d r e h s = subst (λ (x : Sending). Sends x p d r e) h s

-- where it is due, and where it is not
pub sends-due : (b : Bool) (out : Sending) (p : Progress) (d : List ℕ) (r : Progress) (e : List ℕ) → b ≡ true → Sends out p d r e
    → Sends (pick b out (idle p.common)) p d r e
sends-due b out p d r e h s = sends-as out (pick b out (idle p.common)) p d r e (sym (pick-t _ _ _ h)) s

pub sends-idle : (b : Bool) (out : Sending) (p : Progress) (d : List ℕ) → b ≡ false → Sends (pick b out (idle p.common)) p d p d
sends-idle b out p d h = sends-as (idle p.common) (pick b out (idle p.common)) p d p d (sym (pick-f _ _ _ h)) (sends_none p d)

-- a step that is handed another common part goes on from the same place
pub sends-from : (out : Sending) (p : Progress) (c : Common) (d : List ℕ) (r : Progress) (e : List ℕ)
    → Sends out (record { common = c; streams = p.streams; end = p.end }) d r e → Sends out p d r e
sends-from out p c d r e s = record { common = s.common; streams = s.streams; packets = s.packets }

-- from nothing: the streams are listed, and the packets stand at the front of the buffer
pub sends-first : (out : Sending) (c : Common) (d : List ℕ) (r : Progress) (e : List ℕ) → length out.streams ≤ 5 → Sends out (started c) d r e
    → (r.common ≡ out.common) × (r.streams ≡ streams_as out.streams) × (e ≡ written d 0 out.octets)
sends-first out c d r e h s = (s.common, s.streams ∙ listing-as [] out.streams (omega arith), s.packets.holds)

-- ---- one packet

pub offset-small : (k : Stream) → offset_of k < 4
offset-small General = omega arith
offset-small RxSpecific = omega arith
offset-small TxSpecific = omega arith
offset-small HighPriority = omega arith

-- a packet that its writer left at the front of a buffer
put_front : (n : ℕ) (out d e : List ℕ) (r : Result ⊤ PacketError) → length out ≡ n → n ≤ length d → Sent n out d r e → Put d 0 out n e
put_front n out d e r l h s = record { ends = omega (arith, l); holds = s.holds ∙ pick-f _ _ _ (le-ltb (length d) n h) }

-- the packet of a stream, by its writer
pub put_as : (k j : Stream) (run : Bool) (c : Common) (d e : List ℕ) (r : Result ⊤ PacketError) → k ≡ j → size_of k ≤ length d → Sent (size_of j) (packet_of j run c) d r e
    → Put d 0 (packet_of k run c) (size_of j) e
put_as k j run c d e r h l s =
    subst (λ (x : Stream). Put d 0 (packet_of x run c) (size_of j) e) (sym h)
    (put_front (size_of j) (packet_of j run c) d e r (packet-size j run c) (subst (λ (x : Stream). size_of x ≤ length d) h l) s)

pub at_level : (seq : ℕ) (run : Bool) (phase alex0 alex1 db level : ℕ) (d e : List ℕ) (r : Result ⊤ PacketError) → db ≡ level
    → Sent 1444 (high_packet seq run phase alex0 alex1 db) d r e → Sent 1444 (high_packet seq run phase alex0 alex1 level) d r e
at_level seq run phase alex0 alex1 db level d e r h s = subst (λ (x : ℕ). Sent 1444 (high_packet seq run phase alex0 alex1 x) d r e) h s

-- it is written into the part from the current end on, its stream listed and its count raised
pub sent-packet : (k : Stream) (run : Bool) (p : Progress) (d ys : List ℕ) (n v offset : ℕ) (listed : Streams) → HasRoom (size_of k) 1 p (length d)
    → Put (take (length d - p.end) (drop p.end d)) 0 (packet_of k run p.common) n ys
    → offset ≡ offset_of k → listed ≡ appended p.streams offset → v ≡ (get_or p.common.seq offset 0 + 1) % 2 ^ 32
    → Sends (send k run p.common) p d (record { common = with_seq p.common (set p.common.seq offset v); streams = listed; end = p.end + n })
    (take p.end d ++ (ys ++ drop (length d - p.end) (drop p.end d)))
unfolding send listing
sent-packet k run p d ys n v offset listed h w o l e =
    record {
      common =
          ap (λ (x : ℕ). with_seq p.common (set p.common.seq offset x)) e
          ∙ ap (λ (x : ℕ). with_seq p.common (set p.common.seq x ((get_or p.common.seq x 0 + 1) % 2 ^ 32))) o;
      streams = l ∙ ap (appended p.streams) o;
      packets =
          let m : length (packet_of k run p.common) ≡ n = omega (arith, w.ends) in
          put-part d p.end (packet_of k run p.common) n ys m (omega (arith, h.octets, packet-size k run p.common)) w.holds;
    }

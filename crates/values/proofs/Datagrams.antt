-- The datagrams that a line stands for: pairs one after another, and a datagram at the front of a buffer. Assumes nothing.
use mathlib.Core.Path.{◌≡◌, refl, sym, ap, ◌∙◌}
use mathlib.Core.List.{List, ◌++◌}
use Prim.Native.Nat.{ℕ, zero, suc, ◌+◌, ◌-◌, ◌*◌, ◌≤◌, ◌<◌}
use native.Mathlib.Numerals.{add-one}
use native.Mathlib.Omega.{arith}
use lib.ListN.{length, drop, length-append}
use Rattle.octets.specs.Number.{be}
use Rattle.octets.specs.Packet.{packet}
use Rattle.octets.specs.Written.{written}
use Rattle.octets.proofs.Numbers.{length-be}
use Rattle.octets.proofs.Packets.{length-packet}
use Rattle.octets.proofs.Writes.{written_none, written-front, written-append, written_then, length-written}
use Rattle.values.specs.Datagram.{sample_i, pair_at, pairs, header, iq_octets}

length-pair : (n j : ℕ) → length (pair_at n j) ≡ 6
length-pair n j =
    length-append (be 3 (sample_i n j)) (be 3 (16777215 - sample_i n j))
    ∙ omega (arith, length-be 3 (sample_i n j), length-be 3 (16777215 - sample_i n j))

pub length_pairs : (n k : ℕ) → length (pairs n k) ≡ 6 * k
unfolding pairs
length_pairs n zero = refl
length_pairs n (suc k) = length-append (pairs n k) (pair_at n k) ∙ omega (arith, length_pairs n k, length-pair n k)

pub pairs-none : (d : List ℕ) (n : ℕ) → d ≡ written d 16 (pairs n 0)
unfolding pairs
pairs-none d n = sym (written_none d 16)

-- one turn more
pub pairs-more : (d a b c : List ℕ) (n j i : ℕ) → j < 238 → 1444 ≤ length d → a ≡ written d 16 (pairs n j) → i ≡ sample_i n j
    → b ≡ written a (16 + 6 * j) (be 3 i) → c ≡ written b (16 + 6 * j + 3) (be 3 (16777215 - i)) → c ≡ written d 16 (pairs n (j + 1))
unfolding pairs
pairs-more d a b c n j i l h p e q r =
    let x = be 3 (sample_i n j) in
    let y = be 3 (16777215 - sample_i n j) in
    let lp = length_pairs n j in
    let lx : length x ≡ 3 = length-be 3 (sample_i n j) in
    let ly : length y ≡ 3 = length-be 3 (16777215 - sample_i n j) in
    let m : length (written d 16 (pairs n j)) ≡ length d = length-written d 16 (pairs n j) (omega arith) in
    let at : 16 + 6 * j ≡ 16 + length (pairs n j) = omega arith in
    r
    ∙ ap (λ (v : ℕ). written b (16 + 6 * j + 3) (be 3 (16777215 - v))) e
    ∙ ap (λ (v : List ℕ). written v (16 + 6 * j + 3) y) (q ∙ ap (λ (v : ℕ). written a (16 + 6 * j) (be 3 v)) e)
    ∙ ap (λ (v : ℕ). written (written a (16 + 6 * j) x) (16 + 6 * j + v) y) (sym lx)
    ∙ ap (λ (v : List ℕ). written (written v (16 + 6 * j) x) (16 + 6 * j + length x) y) p
    ∙ written_then (written d 16 (pairs n j)) (16 + 6 * j) x y (omega arith)
    ∙ ap (λ (v : ℕ). written (written d 16 (pairs n j)) v (x ++ y)) at
    ∙ written_then d 16 (pairs n j) (x ++ y) (omega (arith, length-append x y))
    ∙ rw (add-one j)

-- pairs stored in a packet at the front of a buffer are stored in the packet
pub in-front : (n bits samples : ℕ) (d e f : List ℕ) → 2048 ≤ length d → e ≡ written d 0 (packet 2048 (header n bits samples))
    → f ≡ written e 16 (pairs n 238) → f ≡ written d 0 (iq_octets n bits samples)
unfolding iq_octets
in-front n bits samples d e f h p q =
    let k = packet 2048 (header n bits samples) in
    let l : length k ≡ 2048 = length-packet 2048 (header n bits samples) tt in
    let o = length_pairs n 238 in
    let m : length (written k 16 (pairs n 238)) ≡ 2048 = length-written k 16 (pairs n 238) (omega arith) ∙ l in
    q
    ∙ ap (λ (v : List ℕ). written v 16 (pairs n 238)) (p ∙ written-front d k 2048 l)
    ∙ written-append k (drop 2048 d) 16 (pairs n 238) (omega arith)
    ∙ sym (written-front d (written k 16 (pairs n 238)) 2048 m)

-- An I/Q datagram as it is written: its header, then three octets a number. Assumes nothing.
use Prim.Native.Nat.{ℕ, ◌+◌, ◌*◌, ◌≤◌, ◌<◌}
use mathlib.Core.Path.{◌≡◌, refl, sym, ap, ◌∙◌}
use mathlib.Core.List.{List, [], ◌∷◌, ◌++◌, append_assoc, append-nil}
use lib.ListN.{length, get_or, take, length-append}
use lib.Seq.{take-suc, length-take-le}
use lib.IntN.{ℤ}
use native.Mathlib.Nat.{zero-add}
use native.Mathlib.Numerals.{add-one}
use native.Mathlib.Omega.{arith}
use Rattle.octets.specs.Number.{be}
use Rattle.octets.specs.Packet.{packet}
use Rattle.octets.specs.Written.{written}
use Rattle.octets.proofs.Numbers.{length-be}
use Rattle.octets.proofs.Packets.{length-packet}
use Rattle.octets.proofs.Writes.{written_none, written_then}
use Rattle.radio_packets.specs.Iq.{bits_of, octets_of, iq_fields, iq_datagram}

pub length-octets : (xs : List ℤ) → length (octets_of xs) ≡ 3 * length xs
unfolding octets_of
length-octets [] = refl
length-octets (x ∷ xs) = length-append (be 3 (bits_of x)) (octets_of xs) ∙ omega (arith, length-be 3 (bits_of x), length-octets xs)

pub octets-append : (a b : List ℤ) → octets_of (a ++ b) ≡ octets_of a ++ octets_of b
unfolding octets_of
octets-append [] b = refl
octets-append (x ∷ a) b = ap (λ (l : List ℕ). be 3 (bits_of x) ++ l) (octets-append a b) ∙ sym (append_assoc (be 3 (bits_of x)) (octets_of a) (octets_of b))

pub octets-one : (x : ℤ) → octets_of (x ∷ []) ≡ be 3 (bits_of x)
unfolding octets_of
octets-one x = append-nil (be 3 (bits_of x))

pub samples-none : (d : List ℕ) (xs : List ℤ) → d ≡ written d 16 (octets_of (take 0 xs))
unfolding octets_of
samples-none d xs = sym (written_none d 16)

-- one turn more
pub samples-more : (d a b : List ℕ) (xs : List ℤ) (i v : ℕ) (z : ℤ) → i < length xs → 16 + 3 * length xs ≤ length d → a ≡ written d 16 (octets_of (take i xs))
    → v ≡ bits_of (get_or xs i z) → b ≡ written a (16 + 3 * i) (be 3 v) → b ≡ written d 16 (octets_of (take (i + 1) xs))
samples-more d a b xs i v z h room p e q =
    let x = be 3 (bits_of (get_or xs i z)) in
    let o = octets_of (take i xs) in
    let lx : length x ≡ 3 = length-be 3 (bits_of (get_or xs i z)) in
    let lo : length o ≡ 3 * i = length-octets (take i xs) ∙ ap (λ (n : ℕ). 3 * n) (length-take-le i xs (omega arith)) in
    q
    ∙ ap (λ (n : ℕ). written a (16 + 3 * i) (be 3 n)) e
    ∙ ap (λ (l : List ℕ). written l (16 + 3 * i) x) p
    ∙ ap (λ (n : ℕ). written (written d 16 o) (16 + n) x) (sym lo)
    ∙ written_then d 16 o x (omega arith)
    ∙ ap (λ (l : List ℕ). written d 16 (o ++ l)) (sym (octets-one (get_or xs i z)))
    ∙ ap (written d 16) (sym (octets-append (take i xs) (get_or xs i z ∷ [])))
    ∙ ap (λ (l : List ℤ). written d 16 (octets_of l)) (sym (take-suc xs i z h))
    ∙ ap (λ (n : ℕ). written d 16 (octets_of (take n xs))) (sym (add-one i))

pub length-header : (count : ℕ) → length (packet 16 (iq_fields count)) ≡ 16
length-header count = length-packet 16 (iq_fields count) tt

pub length-datagram : (count : ℕ) (xs : List ℤ) → length xs ≡ 476 → length (iq_datagram count xs) ≡ 1444
unfolding iq_datagram
length-datagram count xs e = length-append (packet 16 (iq_fields count)) (octets_of xs) ∙ omega (arith, length-header count, length-octets xs)

-- the header, then the numbers behind it
pub datagram-front : (count : ℕ) (xs : List ℤ) (d a b : List ℕ) → length xs ≡ 476 → 1444 ≤ length d → a ≡ written d 0 (packet 16 (iq_fields count))
    → b ≡ written a 16 (octets_of xs) → b ≡ written d 0 (iq_datagram count xs)
unfolding iq_datagram
datagram-front count xs d a b e room p q =
    let k = packet 16 (iq_fields count) in
    let l : length k ≡ 16 = length-header count in
    q
    ∙ ap (λ (m : List ℕ). written m 16 (octets_of xs)) p
    ∙ ap (λ (n : ℕ). written (written d 0 k) n (octets_of xs)) (sym (zero-add (length k) ∙ l))
    ∙ written_then d 0 k (octets_of xs) (omega (arith, length-octets xs))

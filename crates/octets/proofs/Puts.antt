-- One packet after another in a lent buffer, each where it is due. Assumes nothing.
use Prim.Native.Nat.{ℕ, ◌+◌, ◌-◌, ◌≤◌}
use mathlib.Core.Path.{◌≡◌, sym, ap, ◌∙◌}
use mathlib.Core.Bool.{Bool, true, false}
use mathlib.Core.List.{List, [], ◌++◌}
use lib.ListN.{length, take, drop, length-append}
use native.Mathlib.Nat.{add-zero}
use native.Mathlib.Omega.{arith}
use Rattle.base.specs.Pick.{pick}
use Rattle.octets.specs.Written.{written, Put}
use Rattle.base.proofs.Picks.{pick-t, pick-f}
use Rattle.octets.proofs.Writes.{written_none, written_then, written-part}

-- nothing put
pub put-none : (d : List ℕ) (at : ℕ) → Put d at [] at d
put-none d at = record { ends = sym (add-zero at); holds = sym (written_none d at) }

-- one after the other
pub put_then : (d : List ℕ) (at : ℕ) (a : List ℕ) (n : ℕ) (e b : List ℕ) (m : ℕ) (f : List ℕ) → at + (length a + length b) ≤ length d
    → Put d at a n e → Put e n b m f → Put d at (a ++ b) m f
put_then d at a n e b m f h p q =
    record {
      ends = omega (arith, p.ends, q.ends, length-append a b);
      holds =
          q.holds
          ∙ ap (λ (l : List ℕ). written l n b) p.holds
          ∙ ap (λ (k : ℕ). written (written d at a) k b) p.ends
          ∙ written_then d at a b h;
    }

-- a packet of n octets that a writer left at the front of the lent part d[at..]
pub put-part : (d : List ℕ) (at : ℕ) (out : List ℕ) (n : ℕ) (ys : List ℕ) → length out ≡ n → at + n ≤ length d
    → ys ≡ written (take (length d - at) (drop at d)) 0 out
    → Put d at out (at + n) (take at d ++ (ys ++ drop (length d - at) (drop at d)))
put-part d at out n ys l h e = record { ends = ap (λ (k : ℕ). at + k) (sym l); holds = written-part d at out ys (omega arith) e }

-- the same, where the packet is due
pub put-due : (due : Bool) (d : List ℕ) (at : ℕ) (out : List ℕ) (n : ℕ) (ys : List ℕ) → due ≡ true → length out ≡ n → at + n ≤ length d
    → ys ≡ written (take (length d - at) (drop at d)) 0 out
    → Put d at (pick due out []) (at + n) (take at d ++ (ys ++ drop (length d - at) (drop at d)))
put-due due d at out n ys t l h e = rw (pick-t due out [] t) (put-part d at out n ys l h e)

-- and where it is not
pub put-idle : (due : Bool) (d : List ℕ) (at : ℕ) (out : List ℕ) → due ≡ false → Put d at (pick due out []) at d
put-idle due d at out f = rw (pick-f due out [] f) (put-none d at)

-- at most n octets, due or not
pub length-pick : (due : Bool) (out : List ℕ) (n : ℕ) → length out ≡ n → length (pick due out []) ≤ n
unfolding pick
length-pick true out n l = omega arith
length-pick false out n l = omega arith

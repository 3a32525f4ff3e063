-- Parts laid one after another into a lent buffer, from its front. Assumes nothing.
use Prim.Native.Nat.{ℕ, ◌+◌, ◌-◌}
use mathlib.Core.Path.{◌≡◌, refl, sym, ap, ◌∙◌}
use mathlib.Core.Bool.{Bool, true, false}
use mathlib.Core.List.{List, [], ◌∷◌, ◌++◌, append_assoc, append-nil}
use lib.ListN.{length, take, drop, length-append}
use lib.Seq.{take_at, drop_at, drop-drop}
use native.Mathlib.Omega.{arith}
use Rattle.base.specs.Pick.{pick}
use Rattle.octets.specs.Written.{written}
use Rattle.octets.proofs.Writes.{written-front}
use Rattle.model.specs.Host.{Reply}
use Rattle.encoding.specs.Lists.{part}
use Rattle.replay.specs.Runs.{all}
use Rattle.turns.proofs.Arms.{none_of}

-- the first n places of d hold out, and it is then e
pub record Laid {A : Type 0} (out : List A) (n : ℕ) (d e : List A) : Type 0 where
  pub size : length out ≡ n
  pub holds : e ≡ out ++ drop n d

module _ {A : Type 0} where
  pub laid_none : (d : List A) → Laid [] 0 d d
  laid_none d = record { size = refl; holds = refl }

  module _ (out : List A) (n : ℕ) (d e : List A) (h : Laid out n d e) where
    -- what is not laid yet is as it was
    pub rest-is : drop n e ≡ drop n d
    rest-is = ap (drop n) h.holds ∙ drop_at out (drop n d) n h.size

    -- the part of the next call
    pub part-is : (m k : ℕ) → m - n ≡ k → take (m - n) (drop n e) ≡ part n k d
    part-is m k s = rw (s, rest-is) refl

    pub laid_more : (seg : List A) (m k : ℕ) → m - n ≡ k → length seg ≡ k → Laid (out ++ seg) (n + k) d (take n e ++ (seg ++ drop (m - n) (drop n e)))
    laid_more seg m k s l =
        record {
          size = length-append out seg ∙ omega (arith, h.size);
          holds =
              rw (s, rest-is, drop-drop k n d)
              (ap (λ (x : List A). take n x ++ (seg ++ drop (n + k) d)) h.holds
              ∙ ap (λ (x : List A). x ++ (seg ++ drop (n + k) d)) (take_at out (drop n d) n h.size)
              ∙ sym (append_assoc out seg (drop (n + k) d)));
        }

    pub laid-all : e ≡ written d 0 out
    laid-all = h.holds ∙ sym (written-front d out n h.size)

  pub laid_as : (out out' : List A) (n n' : ℕ) (d e : List A) → Laid out n d e → out' ≡ out → n' ≡ n → Laid out' n' d e
  laid_as out out' n n' d e h p q = record { size = ap length p ∙ h.size ∙ sym q; holds = rw (p, q) h.holds }

  -- one reply more
  pub all_more : (f : Reply → List A) (rs : List Reply) (r : Reply) → all f (rs ++ (r ∷ [])) ≡ all f rs ++ f r
  all_more f [] r = append-nil (f r)
  all_more f (x ∷ rs) r = ap (λ (l : List A). f x ++ l) (all_more f rs r) ∙ sym (append_assoc (f x) (all f rs) (f r))

  -- a buffer that is not lent has no part of its own
  pub as_lent : (b : Bool) (n k : ℕ) (seg : List A) → k ≡ pick b n 0 → length seg ≡ k → pick b seg [] ≡ seg
  unfolding pick
  as_lent true n k seg e l = refl
  as_lent false n k seg e l = sym (none_of seg (l ∙ e))

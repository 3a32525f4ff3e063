-- Octets in hexadecimal, a pair of digits a turn. Assumes nothing.
use mathlib.Core.Path.{◌≡◌, refl, sym, ap, ◌∙◌}
use mathlib.Core.Bool.{Bool, true, false, ◌&&◌, and-false, and-eq-true_iff}
use mathlib.Core.List.{List, ◌++◌}
use Prim.Native.Nat.{ℕ, ◌+◌, ◌*◌, ◌/◌, ◌%◌, ◌≤◌, ◌<◌}
use native.Mathlib.Omega.{arith}
use borrow.Author.Tests.{lt-ltb, le-ltb, le-leb, lt-leb, eq-eqb, ne_eqb, eqb-true}
use lib.Dec.{eqb, leb}
use lib.ListN.{length, get_or, drop}
use Rattle.base.specs.Pick.{pick}
use Rattle.octets.specs.Table.{tab}
use Rattle.octets.specs.Written.{written}
use Rattle.base.proofs.Picks.{pick-t, pick-f}
use Rattle.octets.proofs.Tables.{length-tab}
use Rattle.octets.proofs.Writes.{written_none, written-front}
use Rattle.text.specs.Run.{run}
use Rattle.text.specs.Name.{ascii, same}
use Rattle.text.specs.Number.{digit_of}
use Rattle.std.specs.Prelude.{Some, None}
use Rattle.text.proofs.Names.{same-equal}
use Rattle.text.proofs.Runs.{Passed, passed-next, found_here, found-end}
use Rattle.values.specs.Octets.{hex_digit, hexadecimal, octet_at, octets_of, pairs_of, octets_seen, octet_count}

not-all : (w : List ℕ) → run hex_digit w < length w → hexadecimal w ≡ false
unfolding hexadecimal
not-all w h = rw (ne_eqb (run hex_digit w) (length w) (λ e. omega arith))

pub odd : (w : List ℕ) → (length w % 2 ≡ 0 → ⊥) → hexadecimal w ≡ false
unfolding hexadecimal
odd w h = rw (ne_eqb (length w % 2) 0 h) (and-false (eqb (run hex_digit w) (length w)))

module _ (w : List ℕ) (i count : ℕ) (e : count * 2 ≡ length w) (k : Passed hex_digit w (2 * i)) where
  pub all_digits : count ≤ i → (hexadecimal w ≡ true) × (run hex_digit w / 2 ≡ i)
  unfolding hexadecimal
  all_digits h =
      let f = found-end hex_digit w (2 * i) k (omega arith) in
      (rw (eq-eqb (run hex_digit w) (length w) (omega (arith, f)), eq-eqb (length w % 2) 0 (omega arith)), omega (arith, f))

  module _ (h : i < count) where
    pub first-bad : 16 ≤ digit_of (get_or w (2 * i) 0) → (hexadecimal w ≡ false) × (run hex_digit w / 2 ≡ i)
    first-bad b =
        let f = found_here hex_digit w (2 * i) k (omega arith) (le-ltb _ _ b) in
        (not-all w (omega (arith, f)), omega (arith, f))

    module _ (a : digit_of (get_or w (2 * i) 0) < 16) where
      between : Passed hex_digit w (2 * i + 1)
      between = passed-next hex_digit w (2 * i) k (omega arith) (lt-ltb _ _ a)

      pub second-bad : 16 ≤ digit_of (get_or w (2 * i + 1) 0) → (hexadecimal w ≡ false) × (run hex_digit w / 2 ≡ i)
      second-bad b =
          let f = found_here hex_digit w (2 * i + 1) between (omega arith) (le-ltb _ _ b) in
          (not-all w (omega (arith, f)), omega (arith, f))

      pub pair_read : digit_of (get_or w (2 * i + 1) 0) < 16 → Passed hex_digit w (2 * (i + 1))
      pair_read b =
          let f = passed-next hex_digit w (2 * i + 1) between (omega arith) (lt-ltb _ _ b) in
          let n : 2 * i + 1 + 1 ≡ 2 * (i + 1) = omega arith in
          rw n at f

-- the pairs that were passed, where every turn stored one
pub all-stored : (w : List ℕ) (i : ℕ) (d e : List ℕ) → run hex_digit w / 2 ≡ i → e ≡ tab i (octet_at w) ++ drop i d → e ≡ written d 0 (pairs_of w)
unfolding pairs_of
all-stored w i d e n h =
    h
    ∙ ap (λ (k : ℕ). tab k (octet_at w) ++ drop k d) (sym n)
    ∙ sym (written-front d (tab (run hex_digit w / 2) (octet_at w)) (run hex_digit w / 2) (length-tab _ _))

-- ---- how many octets a word spells

module _ (w : List ℕ) where
  pub dash-count : same w (ascii "-") ≡ true → Some 0 ≡ octet_count w
  unfolding octet_count
  dash-count s = sym (pick-t _ _ _ s)

  module _ (s : same w (ascii "-") ≡ false) where
    pub too_long : 4096 < length w → None ≡ octet_count w
    unfolding octet_count
    too_long h = sym (pick-f _ _ _ s ∙ pick-f _ _ _ (rw (lt-leb (length w) 4096 h)))

    pub not-hex : hexadecimal w ≡ false → None ≡ octet_count w
    unfolding octet_count
    not-hex h = sym (pick-f _ _ _ s ∙ pick-f _ _ _ (rw h (and-false (leb (length w) 4096))))

    pub hex-count : (count : ℕ) → length w ≤ 4096 → hexadecimal w ≡ true → count * 2 ≡ length w → Some count ≡ octet_count w
    unfolding octet_count
    hex-count count l h e = let z : count ≡ length w / 2 = omega arith in ap Some z ∙ sym (pick-f _ _ _ s ∙ pick-t _ _ _ (rw (le-leb (length w) 4096 l, h)))

-- ---- what is written while it is read

module _ (w : List ℕ) where
  -- nothing of a word that is not looked into
  module _ (d : List ℕ) where
    unseen : (leb (length w) 4096 && eqb (length w % 2) 0) ≡ false → d ≡ written d 0 (octets_seen w)
    unfolding octets_seen
    unseen h = sym (ap (written d 0) (pick-f _ _ _ h) ∙ written_none d 0)

    pub unseen-long : 4096 < length w → d ≡ written d 0 (octets_seen w)
    unseen-long h = unseen (rw (lt-leb (length w) 4096 h))

    pub unseen-odd : (length w % 2 ≡ 0 → ⊥) → d ≡ written d 0 (octets_seen w)
    unseen-odd h = unseen (rw (ne_eqb (length w % 2) 0 h) (and-false (leb (length w) 4096)))

  pub seen-pairs : length w ≤ 4096 → length w % 2 ≡ 0 → pairs_of w ≡ octets_seen w
  unfolding octets_seen
  seen-pairs l h = sym (pick-t _ _ _ (rw (le-leb (length w) 4096 l, eq-eqb (length w % 2) 0 h)))

  seen-hex : leb (length w) 4096 ≡ true → hexadecimal w ≡ true → octets_seen w ≡ octets_of w
  unfolding hexadecimal octets_seen pairs_of octets_of
  seen-hex l h =
      let b = (and-eq-true_iff (eqb (run hex_digit w) (length w)) (eqb (length w % 2) 0)).0 h in
      pick-t _ _ _ (rw (l, b.1)) ∙ ap (λ (k : ℕ). tab (k / 2) (octet_at w)) (eqb-true _ _ b.0)

  seen-dash : w ≡ ascii "-" → octets_seen w ≡ octets_of w
  unfolding octets_seen octets_of tab pick
  seen-dash e = rw e

  -- of a word that can be read: its octets
  pub seen-octets : (n : ℕ) → octet_count w ≡ Some n → octets_seen w ≡ octets_of w
  unfolding octet_count pick
  seen-octets n e = go (same w (ascii "-")) (leb (length w) 4096 && hexadecimal w) refl refl e
    where
      go : (a b : Bool) → same w (ascii "-") ≡ a → (leb (length w) 4096 && hexadecimal w) ≡ b
          → pick a (Some 0) (pick b (Some (length w / 2)) None) ≡ Some n → octets_seen w ≡ octets_of w
      go true b s t e = seen-dash (same-equal _ _ s)
      go false true s t e = let k = (and-eq-true_iff (leb (length w) 4096) (hexadecimal w)).0 t in seen-hex k.0 k.1
      go false false s t e = let z : ◌≡◌ {A = ℕ} 0 1 = cc in absurd (omega arith)

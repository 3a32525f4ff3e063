-- A stretch that is told on, arrival by arrival, is told as the whole numbers of its arrivals say. Assumes nothing.
use Prim.Native.Nat.{ℕ, ◌+◌, ◌-◌, ◌%◌, ◌<◌, ◌^◌}
use mathlib.Core.Path.{◌≡◌, refl, sym, ap, ◌∙◌}
use mathlib.Core.Bool.{true, false}
use mathlib.Core.List.{List, [], ◌∷◌}
use lib.ListN.{length, length-append}
use lib.IntN.{ℤ, pos, negsuc, ◌+ℤ◌, ◌-ℤ◌, +ℤ_assoc, +ℤ_idr}
use native.Mathlib.Nat.{zero-add}
use native.Mathlib.Omega.{arith}
use borrow.Author.Tests.{ltb-true}
use Rattle.base.proofs.Picks.{pick-either}
use Rattle.model.proofs.Pairs.{datagram-samples}
use Rattle.account.specs.Whole.{count_of, ahead, higher}
use Rattle.account.specs.Ledger.{Entry, late_entry, accepted_in, samples_in, samples_of, missing_told, highest}
use Rattle.account.proofs.Numbers.{from-distance, count-on, count_small}
use Rattle.account.proofs.Stretches.{distance-of, is-higher}
use Rattle.tally.specs.Stretch.{sum, more_of}
use Rattle.tally.specs.declared.stretch.Stretch.{Stretch}
use Rattle.marking.specs.Spans.{last_reading_of}
use Rattle.marking.proofs.Streams.{record_in}

-- ---- whole numbers

on-above : (d : ℤ) → 0 < ahead d → d ≡ pos (ahead d)
on-above (pos d) h = refl
on-above (negsuc d) h = absurd (omega arith)

-- the higher of two numbers is so many on from the first
higher-on : (n m : ℤ) → (j : ℕ) × (higher n m ≡ n +ℤ pos j)
higher-on n m =
    pick-either _ _ _ (λ (z : ℤ). (j : ℕ) × (z ≡ n +ℤ pos j))
    (λ h. (ahead (m -ℤ n), from-distance n m (pos (ahead (m -ℤ n))) (on-above (m -ℤ n) (ltb-true 0 (ahead (m -ℤ n)) h))))
    (λ h. (0, sym (+ℤ_idr n)))

pub highest-on : (n : ℤ) (l : List Entry) → (j : ℕ) × (highest n l ≡ n +ℤ pos j)
highest-on n [] = (0, sym (+ℤ_idr n))
highest-on n (x ∷ l) =
    let a = higher-on n x.number in
    let b = highest-on (higher n x.number) l in
    (a.0 + b.0, b.1 ∙ ap (λ (z : ℤ). z +ℤ pos b.0) a.1 ∙ +ℤ_assoc n (pos a.0) (pos b.0))

-- how far the highest of a list lies above h, of which n, k above h, is the first
pub rises_by : (h n : ℤ) (k : ℕ) (l : List Entry) → n ≡ h +ℤ pos (k + 1) → ahead (highest (higher h n) l -ℤ h) ≡ (k + 1) + ahead (highest n l -ℤ n)
rises_by h n k l e =
    let j = highest-on n l in
    let a : ahead (highest n l -ℤ n) ≡ j.0 = ap ahead (distance-of n (highest n l) j.0 j.1) in
    let f : highest n l ≡ h +ℤ pos (k + 1 + j.0) = j.1 ∙ ap (λ (z : ℤ). z +ℤ pos j.0) e ∙ +ℤ_assoc h (pos (k + 1)) (pos j.0) in
    ap (λ (z : ℤ). ahead (highest z l -ℤ h)) (is-higher h n k e) ∙ ap ahead (distance-of h (highest n l) (k + 1 + j.0) f) ∙ ap (λ (i : ℕ). k + 1 + i) (sym a)

-- a datagram more brings 238 samples
pub samples-more : (x : Entry) (l : List Entry) → length (samples_of (x ∷ l)) ≡ 238 + length (samples_of l)
samples-more x l = length-append (samples_in x) (samples_of l) ∙ ap (λ (i : ℕ). i + length (samples_of l)) (datagram-samples x.incoming.octets)

-- ---- a stretch that is told on

-- s, whose highest number is h, after these arrivals
abbrev pub onward : Stretch → ℤ → List Entry → Stretch
onward s h xs =
    record {
      at = s.at;
      last = last_reading_of s.last (accepted_in xs);
      first = s.first;
      restart = s.restart;
      highest = (s.highest + ahead (highest h (accepted_in xs) -ℤ h)) % 2 ^ 64;
      samples = (s.samples + length (samples_of (accepted_in xs))) % 2 ^ 64;
      missing = (s.missing + missing_told xs) % 2 ^ 64;
    }

-- its numbers have 64 bits, and its highest one is h modulo 2^32
pub record Counts (s : Stretch) (h : ℤ) : Type 0 where
  pub high : s.highest < 2 ^ 64
  pub many : s.samples < 2 ^ 64
  pub lost : s.missing < 2 ^ 64
  pub count : s.highest % 2 ^ 32 ≡ count_of h

stretch-is : (at last first restart : ℕ) (a b c a' b' c' l' : ℕ) → a ≡ a' → b ≡ b' → c ≡ c' → last ≡ l'
    → ◌≡◌ {A = Stretch} (record { at = at; last = last; first = first; restart = restart; highest = a; samples = b; missing = c })
    (record { at = at; last = l'; first = first; restart = restart; highest = a'; samples = b'; missing = c' })
stretch-is at last first restart a b c a' b' c' l' ea eb ec el = rw (ea, eb, ec, el)

-- no arrival more
pub onward-none : (s : Stretch) (h : ℤ) → Counts s h → onward s h [] ≡ s
onward-none s h c =
    let z : ahead (h -ℤ h) ≡ 0 = ap ahead (distance-of h h 0 (sym (+ℤ_idr h))) in
    stretch-is s.at s.last s.first s.restart _ _ _ s.highest s.samples s.missing s.last (omega (arith, z, c.high)) (omega (arith, c.many)) (omega (arith, c.lost)) refl

-- a stale one
pub onward-stale : (s : Stretch) (h : ℤ) (x : Entry) (xs : List Entry) → late_entry x ≡ true → x.says.missing ≡ 0 → onward s h (x ∷ xs) ≡ onward s h xs
onward-stale s h x xs l m = rw (l, m, zero-add (missing_told xs)) refl

-- an accepted one, k + 1 above h
module _ (s : Stretch) (h : ℤ) (x : Entry) (k : ℕ) (c : Counts s h) (up : x.number ≡ h +ℤ pos (k + 1)) (near : k < 2 ^ 31) (count : count_of x.number ≡ x.count) where
  count-is : x.count ≡ (count_of h + (k + 1)) % 2 ^ 32
  count-is = sym count ∙ ap count_of up ∙ count-on h (k + 1)

  step_is : (n e g : ℕ) → g % 2 ^ 32 ≡ e → e < 2 ^ 32 → n ≡ (e + (k + 1)) % 2 ^ 32 → (n + 2 ^ 32 - g % 2 ^ 32) % 2 ^ 32 ≡ k + 1
  step_is n e g p l q = omega (arith, p, l, q, near)

  high_is : (more_of s (record_in x)).highest ≡ (s.highest + (k + 1)) % 2 ^ 64
  unfolding more_of
  high_is = ap (sum s.highest) (step_is x.count (count_of h) s.highest c.count (count_small h) count-is)

  wraps : (g e n v : ℕ) → v ≡ (g + (k + 1)) % 2 ^ 64 → g % 2 ^ 32 ≡ e → n ≡ (e + (k + 1)) % 2 ^ 32 → (v < 2 ^ 64) × (v % 2 ^ 32 ≡ n)
  wraps g e n v p q r = (omega (arith, p), omega (arith, p, q, r))

  small : (a b v : ℕ) → v ≡ (a + b) % 2 ^ 64 → v < 2 ^ 64
  small a b v p = omega (arith, p)

  pub counts-on : Counts (more_of s (record_in x)) x.number
  unfolding more_of
  counts-on =
      let w = wraps s.highest (count_of h) x.count _ high_is c.count count-is in
      record { high = w.0; many = small s.samples 238 _ refl; lost = small s.missing x.says.missing _ refl; count = w.1 ∙ sym count }

  adds-high : (g v a : ℕ) → v ≡ (g + (k + 1)) % 2 ^ 64 → (v + a) % 2 ^ 64 ≡ (g + (k + 1 + a)) % 2 ^ 64
  adds-high g v a p = omega (arith, p)

  adds_on : (g m a b : ℕ) → b ≡ m + a → ((g + m) % 2 ^ 64 + a) % 2 ^ 64 ≡ (g + b) % 2 ^ 64
  adds_on g m a b p = omega (arith, p)

  pub onward-more : (xs : List Entry) → late_entry x ≡ false → onward (more_of s (record_in x)) x.number xs ≡ onward s h (x ∷ xs)
  unfolding more_of
  onward-more xs l =
      let n = samples-more x (accepted_in xs) in
      rw l
      (stretch-is s.at _ s.first s.restart _ _ _ _ _ _ _
      (adds-high s.highest _ _ high_is ∙ ap (λ (i : ℕ). (s.highest + i) % 2 ^ 64) (sym (rises_by h x.number k (accepted_in xs) up)))
      (adds_on s.samples 238 _ _ n)
      (adds_on s.missing x.says.missing _ _ refl)
      refl)

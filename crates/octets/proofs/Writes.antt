-- What a writer leaves in a lent buffer: its length and its places, one writer after another, a run of stores, a lent part. Assumes nothing.
use borrow.Rule.Slice.PartMut.{put_mid}
use Prim.Native.Nat.{ℕ, zero, suc, ◌+◌, ◌-◌, ◌%◌, ◌≤◌, ◌<◌}
use mathlib.Core.Path.{◌≡◌, sym, ap, ◌∙◌}
use mathlib.Core.Logic.{◌⊎◌, inl, inr, ⊎_elim}
use mathlib.Core.List.{List, [], ◌∷◌, ◌++◌, append_assoc, append-nil}
use lib.ListN.{length, get_or, set, take, drop, length-append, length-drop, length-set, take-append-drop, drop_of_length-le}
use lib.Seq.{take_all, take-suc, length-take-le, take-suc-set, drop-set-lt, drop-drop, set-append_left, get_or-set_same, get_or-set_other}
use native.Mathlib.Nat.{add-zero, zero-add, div-one, mod-eq_of_lt}
use native.Mathlib.Numerals.{add-one}
use native.Mathlib.Omega.{arith}
use Rattle.octets.specs.Written.{written}
use Rattle.octets.specs.Number.{be}

module _ {A : Type 0} where
  pub written_none : (d : List A) (at : ℕ) → written d at [] ≡ d
  unfolding written
  written_none d at = ap (λ (k : ℕ). take at d ++ drop k d) (add-zero at) ∙ take-append-drop at d

  pub written-front : (d out : List A) (n : ℕ) → length out ≡ n → written d 0 out ≡ out ++ drop n d
  unfolding written
  written-front d out n l = ap (λ (k : ℕ). out ++ drop k d) (zero-add (length out) ∙ l)

  -- the first store, then the others one place on: what the laws below go by
  pub written-cons : (d : List A) (at : ℕ) (b : A) (bs : List A) → at < length d → written d at (b ∷ bs) ≡ written (set d at b) (at + 1) bs
  unfolding written
  written-cons d at b bs h =
      let e : at + suc (length bs) ≡ at + 1 + length bs = omega arith in
      let r = bs ++ drop (at + 1 + length bs) (set d at b) in
      sym
      (ap (λ (l : List A). l ++ r) (ap (λ (k : ℕ). take k (set d at b)) (add-one at) ∙ take-suc-set d at b h)
      ∙ append_assoc (take at d) (b ∷ []) r
      ∙ ap (λ (l : List A). take at d ++ (b ∷ (bs ++ l))) (drop-set-lt (at + 1 + length bs) d at b (omega arith) ∙ ap (λ (k : ℕ). drop k d) (sym e)))

  -- what is left of a bound after the first store
  rest : (d : List A) (at : ℕ) (b : A) (n : ℕ) → at + suc n ≤ length d → at + 1 + n ≤ length (set d at b)
  rest d at b n h = simp length-set (omega arith)

  pub length-written : (d : List A) (at : ℕ) (out : List A) → at + length out ≤ length d → length (written d at out) ≡ length d
  length-written d at [] h = ap length (written_none d at)
  length-written d at (b ∷ bs) h =
      ap length (written-cons d at b bs (omega arith)) ∙ length-written (set d at b) (at + 1) bs (rest d at b (length bs) h) ∙ length-set d at b

  -- one store
  pub set-written : (d : List A) (i : ℕ) (v : A) → i < length d → set d i v ≡ written d i (v ∷ [])
  set-written d i v h = sym (written-cons d i v [] h ∙ written_none (set d i v) (i + 1))

  -- one writer after another
  pub written_then : (d : List A) (at : ℕ) (a b : List A) → at + (length a + length b) ≤ length d
      → written (written d at a) (at + length a) b ≡ written d at (a ++ b)
  written_then d at [] b h = rw (written_none d at, add-zero at)
  written_then d at (x ∷ a) b h =
      let e : at + suc (length a) ≡ at + 1 + length a = omega arith in
      ap (λ (l : List A). written l (at + suc (length a)) b) (written-cons d at x a (omega arith))
      ∙ ap (λ (k : ℕ). written (written (set d at x) (at + 1) a) k b) e
      ∙ written_then (set d at x) (at + 1) a b (rest d at x (length a + length b) (omega arith))
      ∙ sym (written-cons d at x (a ++ b) (omega arith))

  -- a copying loop, one turn more
  pub written-more : (d : List A) (at : ℕ) (s : List A) (i : ℕ) (z : A) → at + i < length d → i < length s
      → set (written d at (take i s)) (at + i) (get_or s i z) ≡ written d at (take (i + 1) s)
  written-more d at s i z h l =
      let a = take i s in
      let n : length a ≡ i = length-take-le i s (omega arith) in
      set-written (written d at a) (at + i) (get_or s i z) (omega (arith, length-written d at a (omega arith)))
      ∙ ap (λ (k : ℕ). written (written d at a) (at + k) (get_or s i z ∷ [])) (sym n)
      ∙ written_then d at a (get_or s i z ∷ []) (omega arith)
      ∙ ap (written d at) (sym (take-suc s i z l))
      ∙ ap (λ (k : ℕ). written d at (take k s)) (sym (add-one i))

  -- a place that the writer does not name
  pub get_or-written-out : (d : List A) (at : ℕ) (out : List A) (i : ℕ) (z : A) → at + length out ≤ length d → (i < at) ⊎ (at + length out ≤ i)
      → get_or (written d at out) i z ≡ get_or d i z
  get_or-written-out d at [] i z h o = ap (λ (l : List A). get_or l i z) (written_none d at)
  get_or-written-out d at (b ∷ bs) i z h o =
      ap (λ (l : List A). get_or l i z) (written-cons d at b bs (omega arith))
      ∙ get_or-written-out (set d at b) (at + 1) bs i z (rest d at b (length bs) h) (⊎_elim (λ l. inl (omega arith)) (λ l. inr (omega arith)) o)
      ∙ get_or-set_other d at i b z (λ e. ⊎_elim (λ l. omega arith) (λ l. omega arith) o)

  -- a place that it names
  pub get_or-written-in : (d : List A) (at : ℕ) (out : List A) (k : ℕ) (z : A) → k < length out → at + length out ≤ length d
      → get_or (written d at out) (at + k) z ≡ get_or out k z
  get_or-written-in d at [] k z l h = absurd (omega arith)
  get_or-written-in d at (b ∷ bs) zero z l h =
      ap (λ (m : List A). get_or m (at + 0) z) (written-cons d at b bs (omega arith))
      ∙ get_or-written-out (set d at b) (at + 1) bs (at + 0) z (rest d at b (length bs) h) (inl (omega arith))
      ∙ ap (λ (n : ℕ). get_or (set d at b) n z) (add-zero at)
      ∙ get_or-set_same d at b z (omega arith)
  get_or-written-in d at (b ∷ bs) (suc k) z l h =
      let e : at + suc k ≡ at + 1 + k = omega arith in
      ap (λ (m : List A). get_or m (at + suc k) z) (written-cons d at b bs (omega arith))
      ∙ ap (λ (n : ℕ). get_or (written (set d at b) (at + 1) bs) n z) e
      ∙ get_or-written-in (set d at b) (at + 1) bs k z (omega arith) (rest d at b (length bs) h)

  -- a writer within the front of a list leaves what follows alone
  pub written-append : (a b : List A) (at : ℕ) (out : List A) → at + length out ≤ length a → written (a ++ b) at out ≡ written a at out ++ b
  written-append a b at [] h = rw (written_none (a ++ b) at, written_none a at)
  written-append a b at (x ∷ out) h =
      let l : at < length a = omega arith in
      written-cons (a ++ b) at x out (omega (arith, length-append a b))
      ∙ ap (λ (m : List A). written m (at + 1) out) (set-append_left a b at x l)
      ∙ written-append (set a at x) b (at + 1) out (rest a at x (length out) h)
      ∙ ap (λ (m : List A). m ++ b) (sym (written-cons a at x out l))

  -- a writer called on the lent part d[at..], which it leaves as ys
  pub written-part : (d : List A) (at : ℕ) (out ys : List A) → at ≤ length d → ys ≡ written (take (length d - at) (drop at d)) 0 out
      → take at d ++ (ys ++ drop (length d - at) (drop at d)) ≡ written d at out
  unfolding written
  written-part d at out ys h e =
      let n : length (drop at d) ≤ length d - at = omega (arith, length-drop at d) in
      rw (drop_of_length-le (drop at d) {i = length d - at} n, append-nil ys, e, take_all (length d - at) (drop at d) n, zero-add (length out), drop-drop (length out) at d)

  -- stores at at + k, at + (k + 1), .., as the code writes them
  abbrev pub stores_from : List A → ℕ → ℕ → List A → List A
  stores_from d at k [] = d
  stores_from d at k (b ∷ bs) = stores_from (set d (at + k) b) at (suc k) bs

  -- the first of them at at
  abbrev pub stores : List A → ℕ → List A → List A
  stores d at [] = d
  stores d at (b ∷ bs) = stores_from (set d at b) at 1 bs

  stores-from : (d : List A) (at k : ℕ) (bs : List A) → at + k + length bs ≤ length d → stores_from d at k bs ≡ written d (at + k) bs
  stores-from d at k [] h = sym (written_none d (at + k))
  stores-from d at k (b ∷ bs) h =
      let e : at + suc k ≡ at + k + 1 = omega arith in
      stores-from (set d (at + k) b) at (suc k) bs (rw e (rest d (at + k) b (length bs) h))
      ∙ ap (λ (n : ℕ). written (set d (at + k) b) n bs) e
      ∙ sym (written-cons d (at + k) b bs (omega arith))

  pub stores-written : (d : List A) (at : ℕ) (bs : List A) → at + length bs ≤ length d → stores d at bs ≡ written d at bs
  stores-written d at [] h = sym (written_none d at)
  stores-written d at (b ∷ bs) h = stores-from (set d at b) at 1 bs (rest d at b (length bs) h) ∙ sym (written-cons d at b bs (omega arith))

-- one store of an octet
pub set-be : (d : List ℕ) (i v : ℕ) → i < length d → v < 256 → set d i v ≡ written d i (be 1 v)
set-be d i v h l = set-written d i v h ∙ ap (λ (b : ℕ). written d i (b ∷ [])) (sym (ap (λ (n : ℕ). n % 256) (div-one v) ∙ mod-eq_of_lt l))

-- what std leaves of a buffer of which a part was lent and written
pub part-written : {A : Type 0} (d out : List A) (at n : ℕ) → n ≡ length out → put_mid at n d out ≡ written d at out
unfolding written
part-written d out at n e = ap (λ l. take at d ++ (out ++ l)) (drop-drop n at d ∙ ap (λ (k : ℕ). drop (at + k) d) e)

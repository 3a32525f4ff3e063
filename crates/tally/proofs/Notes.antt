-- An arrival that the code notes is noted in the stretches that the account holds. Assumes nothing.
use Rattle.std.proofs.Common.{◌≡◌, ℕ, zero, suc, ◌+◌, ◌-◌, ◌*◌, ◌<◌, ◌≤◌, Bool, true, false, eqb, ltb, List, [], ◌∷◌, ◌++◌, length, get_or, sym, refl, ap, ◌∙◌, inl, append_assoc, arith, ltb-true, ne_eqb}
use borrow.Author.Tests.{eqb-false}
use Rattle.base.specs.Pick.{pick}
use Rattle.base.proofs.Picks.{pick-either}
use Rattle.octets.specs.Written.{written}
use Rattle.octets.proofs.Writes.{length-written, get_or-written-in, get_or-written-out}
use Rattle.tally.specs.Stretch.{first_of, more_of}
use Rattle.tally.specs.Stretches.{after, noted, noted_all}
use Rattle.tally.specs.Table.{Noted, most_stretches, numbers_of, stretch_at, kept, ending_in, stretches_of, holding, fitting, by_event, note_in, table_by, table_in}
use Rattle.tally.specs.declared.record.Event.{Event}
use Rattle.tally.specs.declared.record.Event.TheVariants.{InOrder, Gap, Stale, Restart}
use Rattle.tally.specs.declared.record.Record.{Record}
use Rattle.tally.specs.declared.stretch.Stretch.{Stretch}
use Rattle.tally.specs.declared.account.Account.{Account}

-- ---- lists of stretches

-- in the last one
pub noted-last : (ss : List Stretch) (s : Stretch) (x : Record) → noted (ss ++ (s ∷ [])) x ≡ ss ++ after x.event s x
noted-last [] s x = refl
noted-last (r ∷ []) s x = refl
noted-last (r ∷ q ∷ ss) s x = ap (λ (l : List Stretch). r ∷ l) (noted-last (q ∷ ss) s x)

-- ---- those before the last stay

after_more : (v : Event) (s : Stretch) (x : Record) → (t : Stretch) × (ss : List Stretch) × (after v s x ≡ t ∷ ss)
after_more InOrder s x = (more_of s x, [], refl)
after_more Gap s x = (more_of s x, [], refl)
after_more Stale s x = (s, [], refl)
after_more Restart s x = (s, first_of x ∷ [], refl)

noted_more : (s : Stretch) (ss : List Stretch) (x : Record) → (t : Stretch) × (ts : List Stretch) × (noted (s ∷ ss) x ≡ t ∷ ts)
noted_more s [] x = after_more x.event s x
noted_more s (q ∷ ss) x = (s, noted (q ∷ ss) x, refl)

pub noted-behind : (r s : Stretch) (ss : List Stretch) (xs : List Record) → noted_all (r ∷ s ∷ ss) xs ≡ r ∷ noted_all (s ∷ ss) xs
noted-behind r s ss [] = refl
noted-behind r s ss (x ∷ xs) =
    let m = noted_more s ss x in
    ap (λ (l : List Stretch). noted_all (r ∷ l) xs) m.2
    ∙ noted-behind r m.0 m.1 xs
    ∙ ap (λ (l : List Stretch). r ∷ noted_all l xs) (sym m.2)

-- ---- the table

module _ (t u : List ℕ) (n : ℕ) (same : (i : ℕ) → i < 7 * n → get_or u i 0 ≡ get_or t i 0) where
  stretch-same : (i : ℕ) → i < n → stretch_at u i ≡ stretch_at t i
  unfolding stretch_at
  stretch-same i h =
      rw (
        same (7 * i) (omega arith),
        same (7 * i + 1) (omega arith),
        same (7 * i + 2) (omega arith),
        same (7 * i + 3) (omega arith),
        same (7 * i + 4) (omega arith),
        same (7 * i + 5) (omega arith),
        same (7 * i + 6) (omega arith),
      )
      refl

  kept_same : (k : ℕ) → k ≤ n → kept u k ≡ kept t k
  unfolding kept
  kept_same zero h = refl
  kept_same (suc k) h = rw (kept_same k (omega arith), stretch-same k (omega arith)) refl

module _ (t : List ℕ) (n : ℕ) (s : Stretch) (size : 7 * n + 7 ≤ length t) where
  abbrev with_it : List ℕ
  with_it = written t (7 * n) (numbers_of s)

  stored_is : stretch_at with_it n ≡ s
  unfolding stretch_at
  stored_is =
      let at : (k : ℕ) → k < 7 → get_or with_it (7 * n + k) 0 ≡ get_or (numbers_of s) k 0 = λ k h. get_or-written-in t (7 * n) (numbers_of s) k 0 h size in
      let first : get_or with_it (7 * n) 0 ≡ s.at = ap (λ (k : ℕ). get_or with_it k 0) (omega arith) ∙ at 0 (omega arith) in
      rw (first, at 1 (omega arith), at 2 (omega arith), at 3 (omega arith), at 4 (omega arith), at 5 (omega arith), at 6 (omega arith)) refl

  stored-two : (last : Stretch) → ending_in with_it (suc (suc n)) last ≡ kept t n ++ (s ∷ last ∷ [])
  unfolding ending_in kept
  stored-two last =
      rw (kept_same t with_it n (λ i h. get_or-written-out t (7 * n) (numbers_of s) i 0 size (inl h)) n (omega arith), stored_is)
      (append_assoc (kept t n) (s ∷ []) (last ∷ []))

  -- the last one is stored, and another is at hand
  stored-then : (last : Stretch) → ending_in (written t (7 * (suc n - 1)) (numbers_of s)) (suc n + 1) last ≡ kept t n ++ (s ∷ last ∷ [])
  stored-then last =
      let p : 7 * (suc n - 1) ≡ 7 * n = omega arith in
      let k : suc n + 1 ≡ suc (suc n) = omega arith in
      ap (λ (j : ℕ). ending_in (written t j (numbers_of s)) (suc n + 1) last) p ∙ ap (λ (j : ℕ). ending_in with_it j last) k ∙ stored-two last

-- ---- an arrival

module _ (t : List ℕ) (size : length t ≡ 7 * most_stretches) (handed : ℕ) (x : Record) where
  abbrev account : ℕ → Stretch → Account
  account n last = record { stretches = n; last = last; handed = handed }

  abbrev Holds : List ℕ → Noted → List Stretch → Type 0
  Holds t' r ss = r.fits ≡ true → stretches_of t' r.account ≡ ss

  abbrev LeftAs : List ℕ → Noted → Account → Type 0
  LeftAs t' r a = r.fits ≡ false → (t' ≡ t) × (r.account ≡ a)

  module _ (n : ℕ) (last : Stretch) where
    restart-holds : (b : Bool) → ltb (suc n) most_stretches ≡ b
        → Holds (pick b (written t (7 * (suc n - 1)) (numbers_of last)) t) (pick b (fitting (account (suc n + 1) (first_of x))) (record { account = account (suc n) last; fits = false })) (kept t n ++ (last ∷ first_of x ∷ []))
    unfolding pick
    restart-holds true h f = stored-then t n last (omega (arith, size, ltb-true (suc n) most_stretches h)) (first_of x)
    restart-holds false h f = let z : ◌≡◌ {A = ℕ} 0 1 = cc in absurd (omega arith)

    restart-left : (b : Bool) → LeftAs (pick b (written t (7 * (suc n - 1)) (numbers_of last)) t) (pick b (fitting (account (suc n + 1) (first_of x))) (record { account = account (suc n) last; fits = false })) (account (suc n) last)
    unfolding pick
    restart-left true f = let z : ◌≡◌ {A = ℕ} 0 1 = cc in absurd (omega arith)
    restart-left false f = (refl, refl)

    event-holds : (v : Event) → Holds (table_by v t (account (suc n) last)) (by_event v (account (suc n) last) x) (kept t n ++ after v last x)
    unfolding ending_in
    event-holds InOrder f = refl
    event-holds Gap f = refl
    event-holds Stale f = refl
    event-holds Restart f = restart-holds (ltb (suc n) most_stretches) refl f

    event-left : (v : Event) → LeftAs (table_by v t (account (suc n) last)) (by_event v (account (suc n) last) x) (account (suc n) last)
    event-left InOrder f = let z : ◌≡◌ {A = ℕ} 0 1 = cc in absurd (omega arith)
    event-left Gap f = let z : ◌≡◌ {A = ℕ} 0 1 = cc in absurd (omega arith)
    event-left Stale f = let z : ◌≡◌ {A = ℕ} 0 1 = cc in absurd (omega arith)
    event-left Restart f = restart-left (ltb (suc n) most_stretches) f

    -- after the first one
    abbrev table : Bool → List ℕ
    table b = pick b t (table_by x.event t (account (suc n) last))

    abbrev result : Bool → Noted
    result b = pick b (fitting (holding (account (suc n) last) 1 (first_of x))) (by_event x.event (account (suc n) last) x)

    later-holds : (b : Bool) → b ≡ false → Holds (table b) (result b) (noted (kept t n ++ (last ∷ [])) x)
    unfolding pick
    later-holds true h f = let z : ◌≡◌ {A = ℕ} 0 1 = cc in absurd (omega arith)
    later-holds false h f = event-holds x.event f ∙ sym (noted-last (kept t n) last x)

    later-left : (b : Bool) → b ≡ false → LeftAs (table b) (result b) (account (suc n) last)
    unfolding pick
    later-left true h f = let z : ◌≡◌ {A = ℕ} 0 1 = cc in absurd (omega arith)
    later-left false h f = event-left x.event f

  holds_at : (n : ℕ) (last : Stretch) → Holds (table_in t (account n last) x) (note_in (account n last) x) (noted (ending_in t n last) x)
  unfolding note_in table_in ending_in kept pick
  holds_at zero last f = refl
  holds_at (suc n) last f = later-holds n last (eqb (suc n) 0) (ne_eqb (suc n) 0 (λ z. omega arith)) f

  left_at : (n : ℕ) (last : Stretch) → LeftAs (table_in t (account n last) x) (note_in (account n last) x) (account n last)
  unfolding note_in table_in pick
  left_at zero last f = let z : ◌≡◌ {A = ℕ} 0 1 = cc in absurd (omega arith)
  left_at (suc n) last f = later-left n last (eqb (suc n) 0) (ne_eqb (suc n) 0 (λ z. omega arith)) f

module _ (t : List ℕ) (size : length t ≡ 7 * most_stretches) (a : Account) (x : Record) where
  pub note-holds : (note_in a x).fits ≡ true → stretches_of (table_in t a x) (note_in a x).account ≡ noted (stretches_of t a) x
  note-holds = holds_at t size a.handed x a.stretches a.last

  pub note-left : (note_in a x).fits ≡ false → (table_in t a x ≡ t) × ((note_in a x).account ≡ a)
  note-left = left_at t size a.handed x a.stretches a.last

-- the pairs handed out are as they were
pub note-handed : (a : Account) (x : Record) → (note_in a x).account.handed ≡ a.handed
unfolding note_in
note-handed a x = pick-either _ _ _ (λ (r : Noted). r.account.handed ≡ a.handed) (λ _. refl) (λ _. by-event x.event)
  where
    by-event : (v : Event) → (by_event v a x).account.handed ≡ a.handed
    by-event InOrder = refl
    by-event Gap = refl
    by-event Stale = refl
    by-event Restart = pick-either _ _ _ (λ (r : Noted). r.account.handed ≡ a.handed) (λ _. refl) (λ _. refl)

-- and the table has as many places
pub note-size : (t : List ℕ) (a : Account) (x : Record) → length t ≡ 7 * most_stretches → length (table_in t a x) ≡ length t
unfolding table_in
note-size t a x size = pick-either _ _ _ (λ (u : List ℕ). length u ≡ length t) (λ _. refl) (λ f. by-event x.event (eqb-false a.stretches 0 f))
  where
    by-event : (v : Event) → (a.stretches ≡ 0 → ⊥) → length (table_by v t a) ≡ length t
    by-event InOrder n = refl
    by-event Gap n = refl
    by-event Stale n = refl
    by-event Restart n =
        pick-either _ _ _ (λ (u : List ℕ). length u ≡ length t)
        (λ h. length-written t (7 * (a.stretches - 1)) (numbers_of a.last) (let l = ltb-true a.stretches most_stretches h in omega (arith, size, l, n)))
        (λ _. refl)

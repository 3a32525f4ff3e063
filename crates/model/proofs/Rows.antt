-- The settings' rows, one after the other, and what they leave, in whole numbers: accepted is none of them, and then no port wraps.
-- Assumes nothing.
use Rattle.std.proofs.Common.{◌≡◌, ℕ, ◌+◌, ◌<◌, ◌≤◌, true, false, not, T, eqb, [], ◌∷◌, take, drop, sym, ap, ◌∙◌, arith, ltb-false, le-ltb, lt-ltb, eq-eqb, ne_eqb, eqb-true}
use borrow.Author.Tests.{eqb-false, not-false}
use Rattle.base.proofs.Picks.{pick-t, pick-f}
use Rattle.base.proofs.Rows.{NoRow, unless-past, unless-either, only_row}
use Rattle.base.specs.Rows.{unless}
use Rattle.base.specs.Told.{Told, gives, refused}
use Rattle.tuning.specs.Centre.{whole_centre}
use Rattle.tuning.specs.Rate.{is_rate, khz_of}
use Rattle.model.specs.Table.{settings_rows, refusal_in}
use Rattle.model.specs.Settings.{settings_told, is_given, accepts, Tunable, Plain}
use Rattle.wire.specs.Command.{offset_of}
use Rattle.model.specs.Command.{destination_of}
use Rattle.wire.specs.declared.command.Stream.{Stream}
use Rattle.wire.specs.declared.command.Stream.TheVariants.{General, RxSpecific, TxSpecific, HighPriority}
use Rattle.model.specs.declared.settings.Settings.{Settings}
use Rattle.model.proofs.Refusals.{settings-refused-by}

-- the test of rows 1 and 2, where the count is 1
pub one : {n : ℕ} → n ≡ 1 → not (eqb n 1) ≡ false
one {n} e = ap not (eq-eqb n 1 e)

module _ (s : Settings) where
  -- what the rows from the n-th on tell, counted from 0
  abbrev told_from : ℕ → Told
  told_from n = unless (drop n (settings_rows s)) (λ k. refused k []) (gives (khz_of s.sample_rate_hz ∷ []))

  -- where the rows before the n-th do not apply, the rest tell
  pub past : (n : ℕ) → NoRow (take n (settings_rows s)) → settings_told s ≡ told_from n
  unfolding settings_told
  past n = unless-past n (settings_rows s) (λ k. refused k []) (gives (khz_of s.sample_rate_hz ∷ []))

  -- the centre comes before the port: 4 is told whatever the port is
  pub row-4 : s.ddc_count ≡ 1 → s.center_count ≡ 1 → is_rate s.sample_rate_hz ≡ true → whole_centre s.center_freq_hz ≡ false
      → settings_told s ≡ refused 4 []
  row-4 receivers centres rate h =
      let told : told_from 3 ≡ refused 4 [] = pick-t _ (refused 4 []) (told_from 4) (ap not h) in
      past 3 (one receivers, (one centres, (ap not rate, tt))) ∙ told

  -- ---- rows 1 to 5, in whole numbers

  tunable-left : Tunable s → NoRow (take 5 (settings_rows s))
  tunable-left h = (one h.receivers, (one h.centres, (ap not h.rate, (ap not h.whole, (ap not h.below, tt)))))

  left-tunable : NoRow (take 5 (settings_rows s)) → Tunable s
  left-tunable (receivers, (centres, (rate, (whole, (below, none))))) =
      record {
        receivers = eqb-true s.ddc_count 1 (not-false _ receivers);
        centres = eqb-true s.center_count 1 (not-false _ centres);
        rate = not-false _ rate;
        whole = not-false _ whole;
        below = not-false _ below;
      }

  -- ---- the port, where they leave the settings

  module _ (h : Tunable s) where
    pub row-19 : s.port ≡ 0 → settings_told s ≡ refused 19 []
    row-19 e = past 5 (tunable-left h) ∙ pick-t _ (refused 19 []) (told_from 6) (eq-eqb s.port 0 e)

    past-19 : 1 ≤ s.port → settings_told s ≡ told_from 6
    past-19 low = past 5 (tunable-left h) ∙ pick-f _ _ _ (ne_eqb s.port 0 (λ e. absurd (omega arith)))

    pub row-6 : 65524 < s.port → settings_told s ≡ refused 6 []
    row-6 high = past-19 (omega arith) ∙ pick-t _ (refused 6 []) (told_from 7) (lt-ltb 65524 s.port high)

  -- 19 is told nowhere else
  pub only-row-19 : settings_told s ≡ refused 19 [] → Tunable s × (s.port ≡ 0)
  only-row-19 e =
      let r = only_row 5 (settings_rows s) tt (sym (settings-refused-by s) ∙ ap refusal_in e) in
      (left-tunable r.0, eqb-true s.port 0 r.1)

  -- ---- accepted: none of the rows, with the rate in kHz

  pub plain-accepted : Plain s → settings_told s ≡ gives (khz_of s.sample_rate_hz ∷ [])
  plain-accepted h = past-19 h.tunable h.lowest ∙ pick-f _ _ _ (le-ltb 65524 s.port h.highest)

  left-plain : NoRow (settings_rows s) → Plain s
  left-plain (receivers, (centres, (rate, (whole, (below, (set, (room, none))))))) =
      let some = eqb-false s.port 0 set in
      record {
        tunable = left-tunable (receivers, (centres, (rate, (whole, (below, tt)))));
        lowest = omega arith;
        highest = ltb-false 65524 s.port room;
      }

  pub accepted-plain : T (accepts s) → Plain s
  unfolding accepts settings_told
  accepted-plain =
      unless-either (λ (t : Told). T (is_given t) → Plain s) (settings_rows s) (λ k. refused k []) (gives (khz_of s.sample_rate_hz ∷ [])) (λ k t. absurd t)
      (λ none t. left-plain none)

  pub khz-is : (khz : ℕ) → gives (khz ∷ []) ≡ settings_told s → khz ≡ khz_of s.sample_rate_hz
  unfolding settings_told
  khz-is khz =
      unless-either (λ (t : Told). gives (khz ∷ []) ≡ t → khz ≡ khz_of s.sample_rate_hz) (settings_rows s) (λ k. refused k []) (gives (khz_of s.sample_rate_hz ∷ []))
      (λ k e. let z : ◌≡◌ {A = ℕ} 0 1 = cc in absurd (omega arith)) (λ none e. cc)

-- each stream goes to the port plus its offset
pub destination-plain : (s : Settings) → T (accepts s) → (k : Stream) → destination_of s.port (offset_of k) ≡ s.port + offset_of k
destination-plain s ok k = let p = (accepted-plain s ok).highest in go k p
  where
    go : (k : Stream) → s.port ≤ 65524 → destination_of s.port (offset_of k) ≡ s.port + offset_of k
    go General h = omega arith
    go RxSpecific h = omega arith
    go TxSpecific h = omega arith
    go HighPriority h = omega arith

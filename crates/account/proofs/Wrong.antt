-- Hosts that demand 3 rules out, each by one list of calls. Assumes nothing.
use Rattle.std.specs.Prelude.{Some, None}
use Prim.Native.Nat.{ℕ, ◌+◌, ◌*◌, ◌≤◌, ◌<◌, ◌^◌}
use mathlib.Core.Path.{◌≡◌, refl, sym, ap, ◌∙◌}
use mathlib.Core.Logic.{inl}
use mathlib.Core.List.{List, [], ◌∷◌, ◌++◌, append-nil}
use native.Mathlib.Omega.{arith}
use lib.ListN.{length, take, drop, length-append, replicate}
use lib.Dec.{T}
use lib.Ieee.{Float, lt, eq, of_int, mul, div, add, sub}
use Rattle.base.specs.Pick.{pick}
use Rattle.octets.specs.Written.{written}
use Rattle.double.specs.Whole.{nat_of, rounded, is_whole}
use Rattle.double.specs.Seconds.{seconds_of}
use Rattle.stream.specs.Elapsed.{plausible, jump_limit, restart_missing}
use Rattle.tuning.specs.Rate.{is_doubled, is_rate}
use Rattle.tuning.specs.Centre.{whole_centre, below_nyquist}
use Rattle.iq.specs.Iq.{header_told, rows}
use Rattle.iq.specs.Iq as Iq
use Rattle.sequence.specs.Tracker.{after, less, zero_restarts, meant, observed}
use Rattle.sequence.specs.declared.SeqEvent.{SeqEvent}
use Rattle.sequence.specs.declared.SeqEvent.TheVariants.{InOrder, Gap, Stale, Restart}
use Rattle.model.specs.Settings.{settings_told, accepts}
use Rattle.model.specs.Rules.{begun, refilled, used, elapsed, capped, missing_of, outage}
use Rattle.model.specs.Routing.{by_offset, routed}
use Rattle.model.specs.Sample.{Sample, pairs}
use Rattle.model.specs.declared.settings.Settings.{Settings}
use Rattle.model.specs.State.{left, waits, waiting_in, quiet_since_of}
use Rattle.model.specs.Open.{attenuation_at, new_common, new_receiver, new_session, opened}
use Rattle.model.specs.Begin.{or_at, begun_by, begin}
use Rattle.model.specs.Hearing.{event_of, restart_of, left_out}
use Rattle.model.specs.Arrival.{with_one_more, heard_malformed, hear, heard_as, heard_iq, arrived, arrival}
use Rattle.model.specs.Hearing as Hearing
use Rattle.model.specs.Take.{handed, hand_out, take_out}
use Rattle.model.specs.Close.{stop, close}
use Rattle.model.specs.Answer.{soft_stall, sent, done}
use Rattle.model.specs.Sending.{send, send_high, high_if_due, rx_tx_if_due, general_if_due, keepalive, packet_of, tick, due_packets}
use Rattle.model.specs.Pass.{passed, pass}
use Rattle.stall.specs.Episode.{is_due}
use Rattle.model.specs.Host.{Begin, Pass, Close}
use Rattle.model.specs.Session.{step}
use lib.IntN.{ℤ, pos, nat_abs, ◌+ℤ◌, ◌-ℤ◌, ◌*ℤ◌}
use Rattle.account.specs.Whole.{ahead, behind, Near, fits_above, fits_below, fits}
use Rattle.account.specs.Ledger.{Sent, Line, all_handed_out, Entry, accepted_in, samples_in, samples_of, missing_told, highest}
use Rattle.account.specs.Demand3.{Agrees, Sums}
use Rattle.account.proofs.WrongHosts.{Refuted}
use Rattle.model.proofs.Pairs.{pairs-count, datagram-size, datagram-samples, none-past, handed_out}
use Rattle.model.specs.Lists.{usual, datagram, silence}
use Rattle.account.proofs.Lists.{plain, arrive, noise, read_at}

pub usual-accepted : T (accepts usual)
unfolding accepts settings_told pick is_rate is_doubled eq of_int whole_centre below_nyquist is_whole lt
usual-accepted = tt

near : (e n : ℤ) → behind (n -ℤ e) ≤ 2 ^ 31 → ahead (n -ℤ e) < 2 ^ 31 → Near e n
near e n l h = record { low = l; high = h }

-- each arrival has 238 samples
samples-of : (l : List Entry) → length (samples_of l) ≡ 238 * length l
samples-of [] = refl
samples-of (x ∷ xs) = length-append (samples_in x) (samples_of xs) ∙ omega (arith, datagram-samples x.incoming.octets, samples-of xs)

-- a stretch's sum with its samples counted
sum_of : (x : Entry) (xs : List Entry) → Sums x xs → 238 * length (x ∷ accepted_in xs) + missing_told xs ≡ nat_abs (pos 238 *ℤ (highest x.number (accepted_in xs) -ℤ x.number +ℤ pos 1))
sum_of x xs s = ap (λ (k : ℕ). k + missing_told xs) (sym (samples-of (x ∷ accepted_in xs))) ∙ ap nat_abs s.sum

-- as many samples were handed out or wait as were accepted
handed-of : (s : Settings) (ls : List Line) (waiting : List Sample) (entries : List Entry) → Agrees s ls waiting entries → length (all_handed_out ls ++ waiting) ≡ 238 * length (accepted_in entries)
handed-of s ls waiting entries a = ap length a.samples ∙ samples-of (accepted_in entries)

-- a whole datagram handed out, and the same still waiting
doubled : (l buffer : List Float) → length l ≡ 476 → length ((pairs (take 476 (written buffer 0 (take 476 l))) ++ []) ++ pairs l) ≡ 476
doubled l buffer h =
    let out = pairs (take 476 (written buffer 0 (take 476 l))) in
    let e : out ++ pairs (drop 476 l) ≡ pairs l ++ [] = handed_out 238 0 l buffer h (omega arith) in
    let once : out ≡ pairs l = sym (append-nil out) ∙ ap (λ (r : List Sample). out ++ r) (sym (none-past 238 l h refl)) ∙ e ∙ append-nil (pairs l) in
    rw (append-nil out, once) (length-append (pairs l) (pairs l) ∙ omega (arith, pairs-count 238 l h))

gap-apart : (k : ℕ) → Some (Gap k) ≡ Some Restart → ⊥
gap-apart k e = let z : ◌≡◌ {A = ℕ} 0 1 = cc in omega arith

order-apart : Some InOrder ≡ Some Restart → ⊥
order-apart e = let z : ◌≡◌ {A = ℕ} 0 1 = cc in omega arith

told-apart : (v : SeqEvent) → Some v ≡ None → ⊥
told-apart v e = let z : ◌≡◌ {A = ℕ} 0 1 = cc in omega arith

stale-apart : Some Stale ≡ Some Restart → ⊥
stale-apart e = let z : ◌≡◌ {A = ℕ} 0 1 = cc in omega arith

-- numbers 5 and 7: one is missing
abbrev gap : List Sent
gap = read_at 0 5 ++ read_at 0 7

-- 101 is expected
abbrev late : (◌≡◌ {A = ℕ} 100 100) × Near (pos 101) (pos 100)
late = (refl, near (pos 101) (pos 100) (omega arith) (omega arith))

pub refuted : Refuted
unfolding pick accepts settings_told is_rate is_doubled eq of_int whole_centre below_nyquist is_whole lt opened new_session new_common new_receiver step
    begin begun_by or_at begun refilled arrival arrived routed by_offset header_told rows heard_iq heard_as hear event_of capped observed meant less after zero_restarts
    elapsed jump_limit plausible nat_of seconds_of add mul div waits left Hearing.accepted_by used missing_of take_out hand_out handed fits fits_above fits_below
    restart_missing rounded sub outage restart_of waiting_in close stop left_out heard_malformed with_one_more
    pass passed is_due quiet_since_of due_packets keepalive high_if_due send_high send packet_of rx_tx_if_due general_if_due tick attenuation_at
refuted =
    record {
      invents = λ m.
          let a = m usual 0 gap usual-accepted ((refl, tt), ((refl, near (pos 6) (pos 7) (omega arith) (omega arith)), tt)) in
          let z : ◌≡◌ {A = ℕ} 952 714 = sum_of _ _ (a.sums [] _ (_ ∷ []) [] (refl, inl refl, (gap-apart 1, tt))) in
          omega arith;
      invents_outages = λ m.
          let a = m usual 0 (read_at 0 5 ++ read_at 0 0) usual-accepted ((refl, tt), ((refl, near (pos 6) (pos 0) (omega arith) (omega arith)), tt)) in
          let z : ◌≡◌ {A = ℕ} 48000 0 = a.1.1.1.1.0.1 in
          omega arith;
      hushes = λ m.
          let a = m usual 0 gap usual-accepted ((refl, tt), ((refl, near (pos 6) (pos 7) (omega arith) (omega arith)), tt)) in
          let z : ◌≡◌ {A = ℕ} 476 714 = sum_of _ _ (a.sums [] _ (_ ∷ []) [] (refl, inl refl, (gap-apart 1, tt))) in
          omega arith;
      fixed = λ m.
          let a = m usual 0 gap usual-accepted ((refl, tt), ((refl, near (pos 6) (pos 7) (omega arith) (omega arith)), tt)) in
          let z : ◌≡◌ {A = ℕ} 476 714 = sum_of _ _ (a.sums [] _ (_ ∷ []) [] (refl, inl refl, (order-apart, tt))) in
          omega arith;
      -- no datagram came
      shouts = λ m.
          let a = m usual 0 (plain (Begin 0) ∷ []) usual-accepted tt in
          told-apart Restart a.others.0.0;
      shouts_at_malformed = λ m.
          let a = m usual 0 (plain (Begin 0) ∷ noise 0 ∷ []) usual-accepted tt in
          told-apart Restart a.others.1.0.0;
      -- at 100 ms the high priority packet is due, and no other
      idles = λ m.
          let a = m usual 0 (Begin 0 ∷ Pass 100000000 (replicate 4452 0) ∷ []) usual-accepted in
          let e : ◌≡◌ {A = List ℕ} [] (3 ∷ []) = a.1.0.lists in
          let z : ◌≡◌ {A = ℕ} 0 1 = ap length e in
          omega arith;
      floods = λ m.
          let a = m usual 0 (Begin 0 ∷ Pass 100000000 (replicate 4452 0) ∷ []) usual-accepted in
          let e : ◌≡◌ {A = List ℕ} (3 ∷ 1 ∷ 2 ∷ 0 ∷ []) (3 ∷ []) = a.1.0.lists in
          let z : ◌≡◌ {A = ℕ} 4 1 = ap length e in
          omega arith;
      -- nothing was ever delivered
      stalls = λ m.
          let a = m usual 0 (Begin 0 ∷ Pass 0 (replicate 4452 0) ∷ []) usual-accepted in
          let e : done soft_stall ≡ done sent = a.1.0.right refl in
          let z : ◌≡◌ {A = ℕ} 0 1 = cc in
          omega arith;
      -- the second fits
      restarts = λ m.
          let a = m usual 0 (read_at 0 5 ++ read_at 0 6) usual-accepted ((refl, tt), ((refl, near (pos 6) (pos 6) (omega arith) (omega arith)), tt)) in
          a.each.1.0.restart.0 refl tt;
      drops = λ m.
          let a = m usual 0 (plain (Begin 0) ∷ arrive 0 5 ∷ plain (Close (replicate 2888 0)) ∷ []) usual-accepted ((refl, tt), tt) in
          let z : ◌≡◌ {A = ℕ} 0 238 = sym (ap length (none-past 238 (Iq.samples_of (datagram 5)) (datagram-size (datagram 5)) refl)) ∙ handed-of _ _ _ _ a in
          omega arith;
      twice = λ m.
          let a = m usual 0 (read_at 0 5) usual-accepted ((refl, tt), tt) in
          let z : ◌≡◌ {A = ℕ} 476 238 = sym (doubled (Iq.samples_of (datagram 5)) silence (datagram-size (datagram 5))) ∙ handed-of _ _ _ _ a in
          omega arith;
      -- 101 is expected, also after 90
      advances = λ m.
          let a = m usual 0 (read_at 0 100 ++ (plain (Begin 0) ∷ arrive 0 90 ∷ arrive 0 101 ∷ [])) usual-accepted
          ((refl, tt), ((refl, near (pos 101) (pos 90) (omega arith) (omega arith)), ((refl, near (pos 101) (pos 101) (omega arith) (omega arith)), tt))) in
          let z : ◌≡◌ {A = ℕ} 2856 476 = sum_of _ _ (a.sums [] _ (_ ∷ _ ∷ []) [] (refl, inl refl, (stale-apart, (gap-apart 10, tt)))) in
          omega arith;
      -- eight stale ones
      bears = λ m.
          let a = m usual 0 (read_at 0 100 ++ (plain (Begin 0) ∷ arrive 0 100 ∷ arrive 0 100 ∷ arrive 0 100 ∷ arrive 0 100 ∷ arrive 0 100 ∷ arrive 0 100 ∷ arrive 0 100 ∷ arrive 0 100 ∷ [])) usual-accepted
          ((refl, tt), (late, (late, (late, (late, (late, (late, (late, (late, tt))))))))) in
          stale-apart (a.each.1.1.1.1.1.1.1.1.0.restart.1 (λ t. t));
      -- the same, with a malformed one before the eighth
      resets = λ m.
          let a = m usual 0 (read_at 0 100 ++ (plain (Begin 0) ∷ arrive 0 100 ∷ arrive 0 100 ∷ arrive 0 100 ∷ arrive 0 100 ∷ arrive 0 100 ∷ arrive 0 100 ∷ arrive 0 100 ∷ noise 0 ∷ arrive 0 100 ∷ [])) usual-accepted
          ((refl, tt), (late, (late, (late, (late, (late, (late, (late, (late, tt))))))))) in
          stale-apart (a.each.1.1.1.1.1.1.1.1.0.restart.1 (λ t. t));
    }

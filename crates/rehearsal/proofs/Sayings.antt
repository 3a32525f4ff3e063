-- What a session sends, the practice radio reads back: each packet, packets one behind the other, those that are due, a step's and
-- those of Close. Assumes nothing.
use Rattle.std.specs.Prelude.{Option, Some, None}
use Rattle.attenuator.specs.declared.Controller.{Controller}
use Prim.Native.Nat.{ℕ, zero, suc, ◌-◌, ◌^◌, ◌<◌}
use mathlib.Core.Path.{◌≡◌, refl, sym, ap, ◌∙◌, subst}
use mathlib.Core.Bool.{Bool, true, false}
use mathlib.Core.List.{List, [], ◌∷◌, ◌++◌, append_assoc}
use native.Mathlib.Omega.{arith}
use lib.Dec.{T, leb}
use lib.ListN.{length, get_or, take, drop}
use lib.Seq.{take_at, drop_at}
use Rattle.base.specs.Pick.{pick}
use Rattle.base.specs.Told.{gives}
use Rattle.base.proofs.Picks.{pick-either}
use Rattle.tuning.specs.Rate.{is_rate, khz_of}
use Rattle.tuning.proofs.Rates.{khz-fits, khz-again}
use Rattle.tuning.proofs.Widths.{phase-small, alex-small}
use Rattle.wire.specs.Command.{offset_of, size_of}
use Rattle.wire.specs.Packet.{general_packet, rx_packet, high_packet}
use Rattle.wire.specs.declared.command.Stream.{Stream}
use Rattle.wire.specs.declared.command.Stream.TheVariants.{General, RxSpecific, TxSpecific, HighPriority}
use Rattle.attenuator.specs.Controller as Controller
use Rattle.attenuator.specs.declared.AttenuationStep.{AttenuationStep}
use Rattle.attenuator.specs.Controller.{Stepped}
use Rattle.model.specs.Settings.{accepts}
use Rattle.model.specs.Open.{tuned}
use Rattle.model.specs.Sending.{Sending, idle, then, level, count_of, packet_of, raised, high_every, rx_tx_every, general_every, send, send_high, send_rx_tx, send_general, high_if_due, rx_tx_if_due, general_if_due, keepalive, applied, stepped, tick, due_packets, stop_packets}
use Rattle.model.specs.Timely.{turned, ticking}
use Rattle.model.specs.Parts.{with_high_priority, with_rx_tx_specific, with_general, with_clocks, with_attenuation}
use Rattle.model.specs.declared.session.Common.{Common}
use Rattle.model.specs.declared.session.Tuning.{Tuning}
use Rattle.model.specs.declared.settings.Settings.{Settings}
use Rattle.model.proofs.Rows.{accepted-plain}
use Rattle.model.proofs.Room.{packet-size}
use Rattle.radio.specs.Answer.{Outcome, outcome}
use Rattle.radio.specs.Command.{command_read}
use Rattle.radio.specs.Listen.{stream_at, where_known, cut, received, after}
use Rattle.radio.specs.declared.state.Radio.{Radio}
use Rattle.radio.proofs.Hosts.{general-read, rx-read, tx-read, high_read}
use Rattle.rehearsal.specs.ReadBack.{Said, said, said_by_step, kept_of, kept_after, outcomes, counts_after, OfOctets}

-- the level that the packets of a common carry
abbrev pub db_of : Common → ℕ
db_of c = level c.attenuation

module _ (s : Settings) where
  -- ---- outcomes, one run behind another

  pub outcomes-append : (counts : List ℕ) (r : Radio) (xs ys : List Said)
      → outcomes s counts r (xs ++ ys) ≡ outcomes s counts r xs ++ outcomes s (counts_after counts xs) (after r (outcomes s counts r xs)) ys
  unfolding outcomes
  outcomes-append counts r [] ys = refl
  outcomes-append counts r (x ∷ xs) ys =
      let on = kept_after s counts x r in
      ap (λ (l : List Outcome). outcome (gives []) on ∷ l) (outcomes-append (raised counts (offset_of x.stream)) on xs ys)

  after-append : (r : Radio) (a b : List Outcome) → after r (a ++ b) ≡ after (after r a) b
  after-append r [] b = refl
  after-append r (x ∷ a) b = after-append x.radio a b

  counts-append : (counts : List ℕ) (xs ys : List Said) → counts_after counts (xs ++ ys) ≡ counts_after (counts_after counts xs) ys
  counts-append counts [] ys = refl
  counts-append counts (x ∷ xs) ys = counts-append (raised counts (offset_of x.stream)) xs ys

  -- ---- a common whose packets can be read back

  pub record Ready (c : Common) : Type 0 where
    pub settings : c.settings ≡ s
    pub tuning : c.tuning ≡ tuned (khz_of s.sample_rate_hz) s
    pub counts : (k : ℕ) → get_or c.seq k 0 < 2 ^ 32

  -- what was sent says xs: the radio reads it back, whatever stands behind it
  pub record Says (c : Common) (out : Sending) (xs : List Said) : Type 0 where
    pub ready : Ready c → Ready out.common
    pub counted : out.common.seq ≡ counts_after c.seq xs
    pub reads : Ready c → (r : Radio) (os rest : List ℕ)
        → received r (cut (out.streams ++ os) (out.octets ++ rest)) ≡ outcomes s c.seq r xs ++ received (after r (outcomes s c.seq r xs)) (cut os rest)

  module _ (ok : T (accepts s)) (oct : OfOctets s) where
    rate-is : T (is_rate s.sample_rate_hz)
    rate-is = subst T (sym (accepted-plain s ok).tunable.rate) tt

    packet-read : (c : Common) → Ready c → (k : Stream) (run : Bool) (r : Radio) → command_read r k (packet_of k run c) ≡ outcome (gives []) (kept_of s (get_or c.seq (offset_of k) 0) run (db_of c) k r)
    unfolding packet_of tuned
    packet-read c h General run r =
        ap (λ (x : Settings). command_read r General (general_packet (count_of General c) x.board)) h.settings
        ∙ general-read r (count_of General c) (h.counts 0) s.board oct.filters
    packet-read c h RxSpecific run r =
        ap (λ (x : Settings). command_read r RxSpecific (rx_packet (count_of RxSpecific c) x.board c.tuning.rate_khz)) h.settings
        ∙ ap (λ (t : Tuning). command_read r RxSpecific (rx_packet (count_of RxSpecific c) s.board t.rate_khz)) h.tuning
        ∙ rx-read r (count_of RxSpecific c) (h.counts 1) s.board (khz_of s.sample_rate_hz) oct.adcs (khz-fits s.sample_rate_hz rate-is) (khz-again s.sample_rate_hz rate-is)
    packet-read c h TxSpecific run r = tx-read r (count_of TxSpecific c) (h.counts 2)
    packet-read c h HighPriority run r =
        let alex = alex-small s.board.scheme s.center_freq_hz in
        ap (λ (t : Tuning). command_read r HighPriority (high_packet (count_of HighPriority c) run t.phase_word t.alex.alex0 t.alex.alex1 (db_of c))) h.tuning
        ∙ high_read r (count_of HighPriority c) (h.counts 3) run _ _ _ (db_of c) (phase-small s.center_freq_hz) alex.0 alex.1

    -- ---- one packet

    known-stream : (k : Stream) → stream_at (offset_of k) ≡ Some k
    known-stream General = refl
    known-stream RxSpecific = refl
    known-stream TxSpecific = refl
    known-stream HighPriority = refl

    raised-small : (counts : List ℕ) (at : ℕ) → ((k : ℕ) → get_or counts k 0 < 2 ^ 32) → (k : ℕ) → get_or (raised counts at) k 0 < 2 ^ 32
    raised-small [] at h k = h k
    raised-small (x ∷ counts) zero h zero = omega arith
    raised-small (x ∷ counts) zero h (suc k) = h (suc k)
    raised-small (x ∷ counts) (suc at) h zero = h zero
    raised-small (x ∷ counts) (suc at) h (suc k) = raised-small counts at (λ j. h (suc j)) k

    send-says : (k : Stream) (run : Bool) (c : Common) → Says c (send k run c) (said k run (db_of c) ∷ [])
    unfolding send outcomes cut received
    send-says k run c =
        record {
          ready = λ h. record { settings = h.settings; tuning = h.tuning; counts = raised-small c.seq (offset_of k) h.counts };
          counted = refl;
          reads = λ h r os rest.
              let p = packet_of k run c in
              let n : length p ≡ size_of k = packet-size k run c in
              ap (λ (o : Option Stream). received r (where_known o (λ k. record { stream = k; octets = take (size_of k) (p ++ rest) } ∷ cut os (drop (size_of k) (p ++ rest))))) (known-stream k)
              ∙ ap (λ (l : List ℕ). received r (record { stream = k; octets = l } ∷ cut os (drop (size_of k) (p ++ rest)))) (take_at p rest (size_of k) n)
              ∙ ap (λ (l : List ℕ). received r (record { stream = k; octets = p } ∷ cut os l)) (drop_at p rest (size_of k) n)
              ∙ ap (λ (x : Outcome). x ∷ received x.radio (cut os rest)) (packet-read c h k run r);
        }

    -- ---- none, and one after another

    idle-says : (c : Common) → Says c (idle c) []
    unfolding outcomes
    idle-says c = record { ready = λ h. h; counted = refl; reads = λ h r os rest. refl }

    then-says : (c : Common) (out : Sending) (f : Common → Sending) (xs ys : List Said) → Says c out xs → Says out.common (f out.common) ys → Says c (then out f) (xs ++ ys)
    then-says c out f xs ys h k =
        record {
          ready = λ q. k.ready (h.ready q);
          counted = k.counted ∙ ap (λ (l : List ℕ). counts_after l ys) h.counted ∙ sym (counts-append c.seq xs ys);
          reads = λ q r os rest.
              let more = f out.common in
              let first = outcomes s c.seq r xs in
              let on = outcomes s (counts_after c.seq xs) (after r first) ys in
              ap (λ (l : List ℕ). received r (cut l ((out.octets ++ more.octets) ++ rest))) (append_assoc out.streams more.streams os)
              ∙ ap (λ (l : List ℕ). received r (cut (out.streams ++ (more.streams ++ os)) l)) (append_assoc out.octets more.octets rest)
              ∙ h.reads q r (more.streams ++ os) (more.octets ++ rest)
              ∙ ap (λ (l : List Outcome). first ++ l) (k.reads (h.ready q) (after r first) os rest)
              ∙ ap (λ (l : List ℕ). first ++ (outcomes s l (after r first) ys ++ received (after (after r first) (outcomes s l (after r first) ys)) (cut os rest))) h.counted
              ∙ sym (append_assoc first on (received (after (after r first) on) (cut os rest)))
              ∙ ap (λ (x : Radio). (first ++ on) ++ received x (cut os rest)) (sym (after-append r first on))
              ∙ ap (λ (l : List Outcome). l ++ received (after r l) (cut os rest)) (sym (outcomes-append c.seq r xs ys));
        }

    if-says : (b : Bool) (c : Common) (out : Sending) (xs : List Said) → Says c out xs → Says c (pick b out (idle c)) (pick b xs [])
    unfolding pick
    if-says true c out xs h = h
    if-says false c out xs h = idle-says c

    -- clocks and the attenuator are in no packet but for the level
    as-says : (c d : Common) (out : Sending) (xs : List Said) → c.settings ≡ d.settings → c.tuning ≡ d.tuning → c.seq ≡ d.seq → Says d out xs → Says c out xs
    as-says c d out xs e f g h =
        let to : Ready c → Ready d = λ q. record { settings = sym e ∙ q.settings; tuning = sym f ∙ q.tuning; counts = subst (λ (l : List ℕ). (k : ℕ) → get_or l k 0 < 2 ^ 32) g q.counts } in
        record {
          ready = λ q. h.ready (to q);
          counted = h.counted ∙ ap (λ (l : List ℕ). counts_after l xs) (sym g);
          reads = λ q r os rest. h.reads (to q) r os rest ∙ ap (λ (l : List ℕ). outcomes s l r xs ++ received (after r (outcomes s l r xs)) (cut os rest)) (sym g);
        }

    -- ---- keepalives

    high-says : (now : ℕ) (c : Common) → Says c (send_high now c) (said HighPriority true (db_of c) ∷ [])
    unfolding send_high
    high-says now c = as-says c (with_clocks c (with_high_priority c.clocks now)) _ _ refl refl refl (send-says HighPriority true (with_clocks c (with_high_priority c.clocks now)))

    rx-tx-says : (now : ℕ) (c : Common) → Says c (send_rx_tx now c) (said RxSpecific true (db_of c) ∷ said TxSpecific true (db_of c) ∷ [])
    unfolding send_rx_tx send
    rx-tx-says now c =
        let d = with_clocks c (with_rx_tx_specific c.clocks now) in
        as-says c d _ _ refl refl refl
        (then-says d (send RxSpecific true d) (λ (e : Common). send TxSpecific true e) (said RxSpecific true (db_of c) ∷ []) (said TxSpecific true (db_of c) ∷ []) (send-says RxSpecific true d)
        (send-says TxSpecific true (send RxSpecific true d).common))

    general-says : (now : ℕ) (c : Common) → Says c (send_general now c) (said General true (db_of c) ∷ [])
    unfolding send_general
    general-says now c = as-says c (with_clocks c (with_general c.clocks now)) _ _ refl refl refl (send-says General true (with_clocks c (with_general c.clocks now)))

    -- what a keepalive leaves of the clocks of the others, and of the attenuator
    record Keeps (c d : Common) : Type 0 where
      pub attenuation : d.attenuation ≡ c.attenuation
      pub general : d.clocks.general ≡ c.clocks.general

    high-keeps : (now : ℕ) (c : Common) → Keeps c (high_if_due now c).common × ((high_if_due now c).common.clocks.rx_tx_specific ≡ c.clocks.rx_tx_specific)
    unfolding high_if_due send_high send
    high-keeps now c =
        pick-either _ _ _ (λ (out : Sending). Keeps c out.common × (out.common.clocks.rx_tx_specific ≡ c.clocks.rx_tx_specific))
        (λ _. (record { attenuation = refl; general = refl }, refl)) (λ _. (record { attenuation = refl; general = refl }, refl))

    rx-tx-keeps : (now : ℕ) (c : Common) → Keeps c (rx_tx_if_due now c).common
    unfolding rx_tx_if_due send_rx_tx send
    rx-tx-keeps now c =
        pick-either _ _ _ (λ (out : Sending). Keeps c out.common) (λ _. record { attenuation = refl; general = refl }) (λ _. record { attenuation = refl; general = refl })

    general-keeps : (now : ℕ) (c : Common) → (general_if_due now c).common.attenuation ≡ c.attenuation
    unfolding general_if_due send_general send
    general-keeps now c = pick-either _ _ _ (λ (out : Sending). out.common.attenuation ≡ c.attenuation) (λ _. refl) (λ _. refl)

    -- the lists of what each says, by a clock and a level
    abbrev high_list : ℕ → ℕ → ℕ → List Said
    high_list now clock db = pick (leb high_every (now - clock)) (said HighPriority true db ∷ []) []

    abbrev rx_tx_list : ℕ → ℕ → ℕ → List Said
    rx_tx_list now clock db = pick (leb rx_tx_every (now - clock)) (said RxSpecific true db ∷ said TxSpecific true db ∷ []) []

    abbrev general_list : ℕ → ℕ → ℕ → List Said
    general_list now clock db = pick (leb general_every (now - clock)) (said General true db ∷ []) []

    high-due-says : (now : ℕ) (c : Common) → Says c (high_if_due now c) (high_list now c.clocks.high_priority (db_of c))
    unfolding high_if_due
    high-due-says now c = if-says _ c (send_high now c) _ (high-says now c)

    rx-tx-due-says : (now : ℕ) (c : Common) → Says c (rx_tx_if_due now c) (rx_tx_list now c.clocks.rx_tx_specific (db_of c))
    unfolding rx_tx_if_due
    rx-tx-due-says now c = if-says _ c (send_rx_tx now c) _ (rx-tx-says now c)

    general-due-says : (now : ℕ) (c : Common) → Says c (general_if_due now c) (general_list now c.clocks.general (db_of c))
    unfolding general_if_due
    general-due-says now c = if-says _ c (send_general now c) _ (general-says now c)

    -- the same level
    level-same : {a b : Option Controller} → a ≡ b → level a ≡ level b
    level-same e = ap level e

    keepalive-says : (now : ℕ) (c : Common)
        → Says c (keepalive now c) (high_list now c.clocks.high_priority (db_of c) ++ (rx_tx_list now c.clocks.rx_tx_specific (db_of c) ++ general_list now c.clocks.general (db_of c)))
    unfolding keepalive
    keepalive-says now c =
        let h = high-keeps now c in
        let d = (high_if_due now c).common in
        let e = (rx_tx_if_due now d).common in
        let k = rx-tx-keeps now d in
        let rx : rx_tx_list now d.clocks.rx_tx_specific (db_of d) ≡ rx_tx_list now c.clocks.rx_tx_specific (db_of c) = both (rx_tx_list now) h.1 (level-same h.0.attenuation) in
        let gen : general_list now e.clocks.general (db_of e) ≡ general_list now c.clocks.general (db_of c) = both (general_list now) (k.general ∙ h.0.general) (level-same k.attenuation ∙ level-same h.0.attenuation) in
        then-says c (high_if_due now c) (λ (d : Common). then (rx_tx_if_due now d) (general_if_due now)) _ _ (high-due-says now c)
        (subst (Says d (then (rx_tx_if_due now d) (general_if_due now))) (both ◌++◌ rx gen)
        (then-says d (rx_tx_if_due now d) (general_if_due now) _ _ (rx-tx-due-says now d) (general-due-says now e)))
      where
        both : {A B C : Type 0} (f : A → B → C) {a x : A} {b y : B} → a ≡ x → b ≡ y → f a b ≡ f x y
        both f p q = cc

    keepalive-keeps : (now : ℕ) (c : Common) → (keepalive now c).common.attenuation ≡ c.attenuation
    unfolding keepalive
    keepalive-keeps now c =
        let d = (high_if_due now c).common in
        let e = (rx_tx_if_due now d).common in
        general-keeps now e ∙ (rx-tx-keeps now d).attenuation ∙ (high-keeps now c).0.attenuation

    -- ---- the attenuator

    applied-says : (now : ℕ) (made : Option AttenuationStep) (a : Option Controller) (c : Common) → c.attenuation ≡ a → Says c (applied now made c) (said_by_step (record { step = made; attenuation = a }))
    unfolding applied pick
    applied-says now None a c e = idle-says c
    applied-says now (Some s) a c e = subst (λ (x : Option Controller). Says c (send_high now c) (said HighPriority true (level x) ∷ [])) e (high-says now c)

    pub stepped-says : (now : ℕ) (made : Stepped) (c : Common) → Says c (stepped now made c) (said_by_step (turned made))
    unfolding stepped
    stepped-says now made c =
        let d = with_attenuation c (Some made.controller) in
        as-says c d _ _ refl refl refl (applied-says now made.step (Some made.controller) d refl)

    tick-says : (now : ℕ) (a : Option Controller) (c : Common) → Says c (tick now a c) (said_by_step (ticking a now))
    unfolding tick pick
    tick-says now None c = idle-says c
    tick-says now (Some controller) c = stepped-says now (Controller.ticked controller now) c

    pub due-says : (now : ℕ) (c : Common)
        → Says c (due_packets now c)
        ((high_list now c.clocks.high_priority (db_of c) ++ (rx_tx_list now c.clocks.rx_tx_specific (db_of c) ++ general_list now c.clocks.general (db_of c)))
        ++ said_by_step (ticking c.attenuation now))
    unfolding due_packets
    due-says now c =
        let d = (keepalive now c).common in
        then-says c (keepalive now c) (λ (d : Common). tick now d.attenuation d) _ _ (keepalive-says now c)
        (subst (λ (x : Option Controller). Says d (tick now d.attenuation d) (said_by_step (ticking x now))) (keepalive-keeps now c) (tick-says now d.attenuation d))

    -- ---- Close

    pub stop-says : (c : Common) → Says c (stop_packets c) (said HighPriority false (db_of c) ∷ said HighPriority false (db_of c) ∷ [])
    unfolding stop_packets send
    stop-says c =
        then-says c (send HighPriority false c) (λ (d : Common). send HighPriority false d) (said HighPriority false (db_of c) ∷ []) (said HighPriority false (db_of c) ∷ []) (send-says HighPriority false c)
        (send-says HighPriority false (send HighPriority false c).common)

-- Arrival: its rows in order, then what it is routed as, and a status packet's and a malformed datagram's answers. Assumes nothing.
use Rattle.std.specs.Prelude.{Option, Some, None}
use Prim.Native.Nat.{ℕ, ◌≤◌, ◌<◌}
use mathlib.Core.Path.{◌≡◌, refl, sym, ap, ◌∙◌}
use mathlib.Core.Bool.{Bool, true, false}
use mathlib.Core.List.{List, [], ◌∷◌}
use lib.ListN.{length}
use lib.Dec.{leb}
use lib.Ieee.{Float}
use borrow.Author.Tests.{lt-ltb, le-ltb, le-leb, lt-leb}
use Rattle.base.proofs.Picks.{pick-t, pick-f}
use Rattle.base.specs.Told.{gives}
use Rattle.iq.specs.Iq.{header_told, samples_of}
use Rattle.wire.specs.Status.{overload_told, overloaded, overload_answer}
use Rattle.attenuator.specs.Controller as Controller
use Rattle.attenuator.specs.declared.Controller.{Controller}
use Rattle.model.specs.Answer.{done, heard, ignored, status, malformed, malformed_limit}
use Rattle.model.specs.Host.{Incoming, Step}
use Rattle.model.specs.Routing.{routed}
use Rattle.model.specs.State.{State, waits, not_reading, fell, refuse, keeping}
use Rattle.model.specs.Sending.{stepped, wrote}
use Rattle.model.specs.Pass.{shut}
use Rattle.model.specs.Parts.{with_common, with_receiver}
use Rattle.model.specs.Rules.{is_stale}
use Rattle.model.specs.Hearing.{accepted_by, left_out, counted}
use Rattle.model.specs.Arrival.{without_packets, heard_common, hear, heard_as, heard_iq, overload, heard_status, with_one_more, heard_malformed, arrived, at_later, route, arrival}
use Rattle.model.specs.declared.receiver.Receiver.{Receiver}
use Rattle.model.specs.declared.session.Common.{Common}
use Rattle.model.specs.declared.session.Session.{Session}
use Rattle.model.specs.Gives.{arrived_by}
use Rattle.receiving.specs.Hears.{Hears}
use Rattle.arriving.specs.Route.{route_of}
use Rattle.receiving.specs.declared.hear.Heard.{Heard}
use Rattle.health.specs.declared.InputHealthCounters.{InputHealthCounters}
use Rattle.sequence.specs.declared.SeqEvent.{SeqEvent}
use Rattle.base.specs.Pick.{pick}
use Rattle.arriving.specs.declared.route.Route.{Route}
use Rattle.arriving.specs.declared.route.Route.TheVariants.{Iq}
use Rattle.arriving.proofs.Routes.{right-header}

-- ---- the rows

module _ (st : State) (i : Incoming) (d : List ℕ) where
  pub row-10 : not_reading st.session ≡ true → arrival st i d ≡ refuse 10 d [] st
  unfolding arrival
  row-10 h = pick-t _ _ _ h

  module _ (reading : not_reading st.session ≡ false) where
    pub row-11 : fell st.session i.now ≡ true → arrival st i d ≡ refuse 11 d [] st
    unfolding arrival
    row-11 h = pick-f _ _ _ reading ∙ pick-t _ _ _ h

    module _ (on : fell st.session i.now ≡ false) where
      pub row-12 : waits st.session.receiver ≡ true → arrival st i d ≡ refuse 12 d [] st
      unfolding arrival
      row-12 h = pick-f _ _ _ reading ∙ pick-f _ _ _ on ∙ pick-t _ _ _ h

      module _ (empty : waits st.session.receiver ≡ false) where
        pub row-13 : i.later < i.now → arrival st i d ≡ refuse 13 d [] st
        unfolding arrival
        row-13 h = pick-f _ _ _ reading ∙ pick-f _ _ _ on ∙ pick-f _ _ _ empty ∙ pick-t _ _ _ (lt-ltb i.later i.now h)

        module _ (later : i.now ≤ i.later) where
          pub row-14 : 8192 < length i.waiting → arrival st i d ≡ refuse 14 d [] st
          unfolding arrival
          row-14 h =
              pick-f _ _ _ reading ∙ pick-f _ _ _ on ∙ pick-f _ _ _ empty ∙ pick-f _ _ _ (le-ltb i.later i.now later)
              ∙ pick-t _ _ _ (lt-ltb 8192 (length i.waiting) h)

          module _ (few : length i.waiting ≤ 8192) where
            pub row-15 : length d < 1444 → arrival st i d ≡ refuse 15 d [] st
            unfolding arrival
            row-15 h =
                pick-f _ _ _ reading ∙ pick-f _ _ _ on ∙ pick-f _ _ _ empty ∙ pick-f _ _ _ (le-ltb i.later i.now later)
                ∙ pick-f _ _ _ (le-ltb 8192 (length i.waiting) few) ∙ pick-t _ _ _ (lt-ltb (length d) 1444 h)

            pub no_row : 1444 ≤ length d → arrival st i d ≡ arrived (at_later st i.later) i d (route st i)
            unfolding arrival
            no_row h =
                pick-f _ _ _ reading ∙ pick-f _ _ _ on ∙ pick-f _ _ _ empty ∙ pick-f _ _ _ (le-ltb i.later i.now later)
                ∙ pick-f _ _ _ (le-ltb 8192 (length i.waiting) few) ∙ pick-f _ _ _ (le-ltb (length d) 1444 h)

-- ---- by what the code routed it as

module _ (st : State) (i : Incoming) (d : List ℕ) (r : Route)
    (h : route_of r ≡ routed st.session.common.settings.radio_ip st.session.common.settings.port i.from i.octets) where
  pub by-route : (k : Route) → r ≡ k → arrived_by st i d ≡ arrived st i d (route_of k)
  by-route k e = ap (arrived st i d) (sym h ∙ ap route_of e)

  pub iq-header : (count : ℕ) → r ≡ Iq count → header_told i.octets ≡ gives (count ∷ [])
  iq-header count k = sym (right-header count i.octets _ _ i.from (sym (ap route_of k) ∙ h))

  abbrev rate : Float
  rate = st.session.common.settings.sample_rate_hz

  -- a step of a datagram that was heard: these samples, this receiver
  abbrev stepped-so : Heard → InputHealthCounters → List Float → Receiver → Step State
  stepped-so q health samples after =
      keeping samples (without_packets (heard q.event q.missing) d (record { common = heard_common health st.session.common; receiver = after }))

  -- what the receiver heard is what the definition tells: of a stale one, and of an accepted one
  heard-so : (count : ℕ) (q : Heard) (after : Receiver) (health : InputHealthCounters) (e : List Float)
      → Hears rate st.session.receiver st.session.common.health st.samples count i q after health e
      → stepped-so q health e after ≡ heard_iq st i d count
  unfolding heard_iq heard_as hear pick
  heard-so count q after health e g =
      ap (λ (x : List Float). stepped-so q health x after) g.samples
      ∙ ap (λ (x : Receiver). stepped-so q health (pick (is_stale q.event) st.samples (samples_of i.octets)) x) g.receiver
      ∙ ap (λ (x : InputHealthCounters). stepped-so q x (pick (is_stale q.event) st.samples (samples_of i.octets)) (heard_receiver (is_stale q.event))) g.health
      ∙ by-stale (is_stale q.event)
      ∙ ap (λ (m : ℕ). hear st i d count q.event m) g.missing
      ∙ ap (λ (x : SeqEvent). heard_as st i d count x) g.event
    where
      heard_receiver : Bool → Receiver
      heard_receiver b = pick b (left_out st.session.receiver i.now count) (accepted_by rate st.session.receiver i.now count q.event q.missing)

      by-stale : (b : Bool)
          → stepped-so q (counted q.event st.session.common.health) (pick b st.samples (samples_of i.octets)) (heard_receiver b)
          ≡ pick b (stepped-so q (counted q.event st.session.common.health) st.samples (left_out st.session.receiver i.now count))
          (stepped-so q (counted q.event st.session.common.health) (samples_of i.octets) (accepted_by rate st.session.receiver i.now count q.event q.missing))
      by-stale true = refl
      by-stale false = refl

  pub by-iq : (count : ℕ) (q : Heard) (after : Receiver) (health : InputHealthCounters) (e : List Float) → r ≡ Iq count
      → Hears rate st.session.receiver st.session.common.health st.samples count i q after health e
      → arrived_by st i d ≡ stepped-so q health e after
  unfolding arrived
  by-iq count q after health e k g = by-route (Iq count) k ∙ sym (heard-so count q after health e g)

-- ---- a status packet

module _ (s : Session) (i : Incoming) (d : List ℕ) where
  pub status-off : s.common.attenuation ≡ None → heard_status s i d ≡ without_packets (done ignored) d s
  unfolding heard_status overload
  status-off e = ap (λ (a : Option Controller). overload s i d a (overload_told i.octets)) e

  module _ (controller : Controller) (on : s.common.attenuation ≡ Some controller) (r : Option ℕ) (t : overload_answer r ≡ overload_told i.octets) where
    heard-on : heard_status s i d ≡ overload s i d (Some controller) (overload_answer r)
    unfolding heard_status
    heard-on = ap (λ (a : Option Controller). overload s i d a (overload_told i.octets)) on ∙ ap (overload s i d (Some controller)) (sym t)

    pub status-unread : r ≡ None → heard_status s i d ≡ without_packets (done ignored) d s
    unfolding overload
    status-unread e = heard-on ∙ ap (λ (x : Option ℕ). overload s i d (Some controller) (overload_answer x)) e

    pub status-read : (bits : ℕ) → r ≡ Some bits
        → heard_status s i d ≡ wrote (done status) s d (stepped i.later (Controller.observed controller (overloaded bits) i.now) s.common)
    unfolding overload
    status-read bits e = heard-on ∙ ap (λ (x : Option ℕ). overload s i d (Some controller) (overload_answer x)) e

-- ---- a malformed datagram

module _ (s : Session) (d : List ℕ) (c : Common) (e : c ≡ with_one_more s.common) where
  abbrev limit : Common → ℕ
  limit x = x.settings.max_consecutive_malformed

  limit_is : (b : Bool) → leb (limit c) c.consecutive_malformed ≡ b → leb (limit s.common) (with_one_more s.common).consecutive_malformed ≡ b
  unfolding with_one_more
  limit_is b h = ap (λ (x : Common). leb (limit x) x.consecutive_malformed) (sym e) ∙ h

  pub malformed-limit : (q : Receiver) → limit c ≤ c.consecutive_malformed → q ≡ shut s.receiver
      → heard_malformed s d ≡ without_packets (done malformed_limit) d (with_receiver (with_common s c) q)
  unfolding heard_malformed
  malformed-limit q l h =
      pick-t _ _ _ (limit_is true (le-leb _ _ l))
      ∙ ap (λ (x : Common). without_packets (done malformed_limit) d (with_receiver (with_common s x) (shut s.receiver))) (sym e)
      ∙ ap (λ (x : Receiver). without_packets (done malformed_limit) d (with_receiver (with_common s c) x)) (sym h)

  pub malformed-on : c.consecutive_malformed < limit c → heard_malformed s d ≡ without_packets (done malformed) d (with_common s c)
  unfolding heard_malformed
  malformed-on l = pick-f _ _ _ (limit_is false (lt-leb _ _ l)) ∙ ap (λ (x : Common). without_packets (done malformed) d (with_common s x)) (sym e)

-- What is due: the streams that keepalives and a step list, and the clocks and the attenuator after them, are those of Timely. Assumes
-- nothing.
use Rattle.std.specs.Prelude.{Option, Some, None}
use Rattle.attenuator.specs.declared.Controller.{Controller}
use Rattle.std.proofs.Common.{◌≡◌, ℕ, Bool, true, false, List, [], ◌∷◌, ◌++◌, refl, ap, ◌∙◌}
use Rattle.base.specs.Pick.{pick}
use Rattle.attenuator.specs.Controller as Controller
use Rattle.attenuator.specs.declared.AttenuationStep.{AttenuationStep}
use Rattle.attenuator.specs.Controller.{Stepped}
use Rattle.model.specs.Sending.{Sending, idle, then, send, send_high, send_rx_tx, send_general, high_if_due, rx_tx_if_due, general_if_due, keepalive, applied, stepped, tick, due_packets}
use Rattle.model.specs.Parts.{with_high_priority, with_rx_tx_specific, with_general, with_attenuation}
use Rattle.model.specs.Timely.{Turn, turned, ticking, high_due, rx_tx_due, general_due, step_streams, step_clocks, due_clocks}
use Rattle.model.specs.declared.session.Clocks.{Clocks}
use Rattle.model.specs.declared.session.Common.{Common}

-- what was sent: its streams, and the clocks and the attenuator after it
pub record Sends (c : Common) (out : Sending) (listed : List ℕ) (moved : Clocks) : Type 0 where
  pub streams : out.streams ≡ listed
  pub clocks : out.common.clocks ≡ moved
  pub attenuation : out.common.attenuation ≡ c.attenuation

-- one packet, or none
if-sends : (b : Bool) (c : Common) (out : Sending) (listed : List ℕ) (moved : Clocks) → Sends c out listed moved → Sends c (pick b out (idle c)) (pick b listed []) (pick b moved c.clocks)
unfolding pick
if-sends true c out listed moved h = h
if-sends false c out listed moved h = record { streams = refl; clocks = refl; attenuation = refl }

joined : {a b x y : List ℕ} → a ≡ b → x ≡ y → a ++ x ≡ b ++ y
joined p q = cc

-- then others, whose streams and clocks go by the clocks
then-sends : (c : Common) (out : Sending) (f : Common → Sending) (listed : List ℕ) (moved : Clocks) (streams : Clocks → List ℕ) (clocks : Clocks → Clocks) →
    Sends c out listed moved → ((d : Common) → Sends d (f d) (streams d.clocks) (clocks d.clocks)) → Sends c (then out f) (listed ++ streams moved) (clocks moved)
then-sends c out f listed moved streams clocks h k =
    let g = k out.common in
    record {
      streams = joined h.streams (g.streams ∙ ap streams h.clocks);
      clocks = g.clocks ∙ ap clocks h.clocks;
      attenuation = g.attenuation ∙ h.attenuation;
    }

module _ (now : ℕ) where
  -- ---- the keepalives, as functions of the clocks

  abbrev high_streams : Clocks → List ℕ
  high_streams k = pick (high_due k now) (3 ∷ []) []

  abbrev rx_tx_streams : Clocks → List ℕ
  rx_tx_streams k = pick (rx_tx_due k now) (1 ∷ 2 ∷ []) []

  abbrev general_streams : Clocks → List ℕ
  general_streams k = pick (general_due k now) (0 ∷ []) []

  abbrev after_high : Clocks → Clocks
  after_high k = pick (high_due k now) (with_high_priority k now) k

  abbrev after_rx_tx : Clocks → Clocks
  after_rx_tx k = pick (rx_tx_due k now) (with_rx_tx_specific k now) k

  abbrev after_general : Clocks → Clocks
  after_general k = pick (general_due k now) (with_general k now) k

  high-sends : (c : Common) → Sends c (high_if_due now c) (high_streams c.clocks) (after_high c.clocks)
  unfolding high_if_due send_high send
  high-sends c = if-sends (high_due c.clocks now) c (send_high now c) (3 ∷ []) (with_high_priority c.clocks now) (record { streams = refl; clocks = refl; attenuation = refl })

  rx-tx-sends : (c : Common) → Sends c (rx_tx_if_due now c) (rx_tx_streams c.clocks) (after_rx_tx c.clocks)
  unfolding rx_tx_if_due send_rx_tx send
  rx-tx-sends c = if-sends (rx_tx_due c.clocks now) c (send_rx_tx now c) (1 ∷ 2 ∷ []) (with_rx_tx_specific c.clocks now) (record { streams = refl; clocks = refl; attenuation = refl })

  general-sends : (c : Common) → Sends c (general_if_due now c) (general_streams c.clocks) (after_general c.clocks)
  unfolding general_if_due send_general send
  general-sends c = if-sends (general_due c.clocks now) c (send_general now c) (0 ∷ []) (with_general c.clocks now) (record { streams = refl; clocks = refl; attenuation = refl })

  -- one clock's choice leaves the others, so that each goes by the clocks before all
  keepalive-streams : (k : Clocks) → high_streams k ++ (rx_tx_streams (after_high k) ++ general_streams (after_rx_tx (after_high k))) ≡ high_streams k ++ (rx_tx_streams k ++ general_streams k)
  unfolding pick
  keepalive-streams k = go (high_due k now) (rx_tx_due k now) refl
    where
      go : (a b : Bool) → rx_tx_due k now ≡ b →
          pick a (3 ∷ []) [] ++ (rx_tx_streams (pick a (with_high_priority k now) k) ++ general_streams (after_rx_tx (pick a (with_high_priority k now) k)))
          ≡ pick a (3 ∷ []) [] ++ (rx_tx_streams k ++ general_streams k)
      go true true e = rw e refl
      go true false e = rw e refl
      go false true e = rw e refl
      go false false e = rw e refl

  keepalive-clocks : (k : Clocks) → after_general (after_rx_tx (after_high k)) ≡ due_clocks k now
  unfolding pick
  keepalive-clocks k = go (high_due k now) (rx_tx_due k now) (general_due k now) refl refl refl
    where
      go : (a b g : Bool) → high_due k now ≡ a → rx_tx_due k now ≡ b → general_due k now ≡ g → after_general (after_rx_tx (after_high k)) ≡ due_clocks k now
      go true true true x y z = rw (x, y, z) refl
      go true true false x y z = rw (x, y, z) refl
      go true false true x y z = rw (x, y, z) refl
      go true false false x y z = rw (x, y, z) refl
      go false true true x y z = rw (x, y, z) refl
      go false true false x y z = rw (x, y, z) refl
      go false false true x y z = rw (x, y, z) refl
      go false false false x y z = rw (x, y, z) refl

  keepalive-sends : (c : Common) → Sends c (keepalive now c) (high_streams c.clocks ++ (rx_tx_streams c.clocks ++ general_streams c.clocks)) (due_clocks c.clocks now)
  unfolding keepalive
  keepalive-sends c =
      let all =
      then-sends c (high_if_due now c) (λ (d : Common). then (rx_tx_if_due now d) (general_if_due now)) _ _ (λ k. rx_tx_streams k ++ general_streams (after_rx_tx k)) (λ k. after_general (after_rx_tx k)) (high-sends c)
      (λ d. then-sends d (rx_tx_if_due now d) (general_if_due now) _ _ general_streams after_general (rx-tx-sends d) general-sends)
      in
      record {
        streams = all.streams ∙ keepalive-streams c.clocks;
        clocks = all.clocks ∙ keepalive-clocks c.clocks;
        attenuation = all.attenuation;
      }

  -- ---- a step

  pub record Steps (out : Sending) (k : Clocks) (t : Turn) : Type 0 where
    pub streams : out.streams ≡ step_streams t
    pub clocks : out.common.clocks ≡ step_clocks k t now
    pub attenuation : out.common.attenuation ≡ t.attenuation

  applied-steps : (step : Option AttenuationStep) (a : Option Controller) (c : Common) → c.attenuation ≡ a → Steps (applied now step c) c.clocks (record { step = step; attenuation = a })
  unfolding applied send_high send pick
  applied-steps None a c e = record { streams = refl; clocks = refl; attenuation = e }
  applied-steps (Some s) a c e = record { streams = refl; clocks = refl; attenuation = e }

  pub stepped-steps : (made : Stepped) (c : Common) → Steps (stepped now made c) c.clocks (turned made)
  unfolding stepped
  stepped-steps made c = applied-steps made.step (Some made.controller) (with_attenuation c (Some made.controller)) refl

  tick-steps : (a : Option Controller) (c : Common) → c.attenuation ≡ a → Steps (tick now a c) c.clocks (ticking a now)
  unfolding tick pick
  tick-steps None c e = record { streams = refl; clocks = refl; attenuation = e }
  tick-steps (Some controller) c e = stepped-steps (Controller.ticked controller now) c

  -- ---- all that a Pass sends

  pub record Dues (out : Sending) (c : Common) : Type 0 where
    pub streams : out.streams ≡ (high_streams c.clocks ++ (rx_tx_streams c.clocks ++ general_streams c.clocks)) ++ step_streams (ticking c.attenuation now)
    pub clocks : out.common.clocks ≡ step_clocks (due_clocks c.clocks now) (ticking c.attenuation now) now
    pub attenuation : out.common.attenuation ≡ (ticking c.attenuation now).attenuation

  pub due-is : (c : Common) → Dues (due_packets now c) c
  unfolding due_packets
  due-is c =
      let k = keepalive-sends c in
      let d = (keepalive now c).common in
      let a = k.attenuation in
      let t = tick-steps d.attenuation d refl in
      record {
        streams = joined k.streams (t.streams ∙ ap (λ (x : Option Controller). step_streams (ticking x now)) a);
        clocks = t.clocks ∙ both _ _ _ _ k.clocks a;
        attenuation = t.attenuation ∙ ap (λ (x : Option Controller). (ticking x now).attenuation) a;
      }
    where
      both : (k l : Clocks) (x y : Option Controller) → k ≡ l → x ≡ y → step_clocks k (ticking x now) now ≡ step_clocks l (ticking y now) now
      both k l x y p q = rw (p, q) refl

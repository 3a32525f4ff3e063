-- What the radio keeps before any packet, and what is kept when a packet sets one stream's part. Definitions only.
use Rattle.std.specs.Prelude.{false}
use Rattle.radio.specs.declared.state.General.{General}
use Rattle.radio.specs.declared.state.RxSpecific.{RxSpecific}
use Rattle.radio.specs.declared.state.TxSpecific.{TxSpecific}
use Rattle.radio.specs.declared.state.HighPriority.{HighPriority}
use Rattle.radio.specs.declared.state.Radio.{Radio}

-- all is 0
abbrev pub at_first : Radio
at_first =
    record {
      general = record { seq = 0; filter_enable = 0 };
      rx_specific = record { seq = 0; adc_count = 0; rate_khz = 0 };
      tx_specific = record { seq = 0 };
      high_priority = record { seq = 0; run = false; ddc_phase = 0; duc_phase = 0; alex1 = 0; alex0 = 0; attenuation = 0 };
    }

-- ---- one stream's part changed, the other three as they were

abbrev pub with_general : Radio → General → Radio
with_general r x = record { general = x; rx_specific = r.rx_specific; tx_specific = r.tx_specific; high_priority = r.high_priority }

abbrev pub with_rx_specific : Radio → RxSpecific → Radio
with_rx_specific r x = record { general = r.general; rx_specific = x; tx_specific = r.tx_specific; high_priority = r.high_priority }

abbrev pub with_tx_specific : Radio → TxSpecific → Radio
with_tx_specific r x = record { general = r.general; rx_specific = r.rx_specific; tx_specific = x; high_priority = r.high_priority }

abbrev pub with_high_priority : Radio → HighPriority → Radio
with_high_priority r x = record { general = r.general; rx_specific = r.rx_specific; tx_specific = r.tx_specific; high_priority = x }

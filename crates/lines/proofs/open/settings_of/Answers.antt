-- `lines::open::settings_of` takes each setting from its key. Assumes nothing.
use Rattle.lines.specs.Open.{settings_of}
use Rattle.lines.proofs.Openings.{rate-bits, centre-bits}
use Rattle.lines.proofs.open.settings_of.Goals as goal

pub returns : goal.returns
unfolding settings_of
returns c =
    rw (
      c.or_else-ddc_count.ensures,
      c.or_else-center_count.ensures,
      c.double_or-sample_rate_hz.ensures,
      c.double_or-center_freq_hz.ensures,
      c.or_else-port.ensures,
      c.or_else-radio_ip.ensures,
      c.board_of-board.ensures,
      c.or_else.ensures,
      c.choice_of-attenuation.ensures,
      c.or_else-soft_after.ensures,
      c.or_else-stall_after.ensures,
      c.or_else-park_window.ensures,
      c.or_else-max_consecutive_malformed.ensures,
      rate-bits,
      centre-bits,
    )

-- 01's edges, M, hold, by computation. Assumes nothing.
use mathlib.Core.Path.{refl}
use lib.Ieee.{of_int, mul, div, lt, round}
use Rattle.base.specs.Pick.{pick}
use Rattle.base.specs.Search.{first}
use Rattle.base.specs.Cases.{Hold}
use Rattle.tuning.specs.Edges.{edges}
use Rattle.double.specs.Whole.{nat_of}
use Rattle.tuning.specs.Alex.{on_rung, hpf_of, lpf_of, alex_words}
use Rattle.tuning.specs.Phase.{phase_word_of}

pub edges-hold : Hold edges
unfolding phase_word_of nat_of mul div of_int lt round on_rung hpf_of lpf_of alex_words first pick
edges-hold = refl

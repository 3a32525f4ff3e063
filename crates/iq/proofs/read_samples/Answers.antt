-- `iq::read_samples` meets its contract: each turn of the loop leaves one sample more at the front. Assumes nothing.
use Prim.Native.Nat.{ℕ, ◌+◌, ◌*◌}
use mathlib.Core.Path.{◌≡◌, refl, ap, sym, ◌∙◌}
use mathlib.Core.List.{List, ◌++◌}
use lib.ListN.{set, drop, length-set}
use native.Mathlib.Omega.{arith}
use lib.Ieee.{Float, nan}
use Rattle.octets.specs.Number.{be_at}
use Rattle.octets.specs.Table.{tab}
use Rattle.octets.proofs.Tables.{length-tab, tab-none, tab-more}
use Rattle.octets.proofs.Writes.{written-front}
use Rattle.iq.specs.Iq.{sample_of, samples_of}
use Rattle.iq.proofs.read_samples.Goals as goal

abbrev sampled : List ℕ → ℕ → Float
sampled buf k = sample_of (be_at 3 buf (16 + 3 * k))

pub loop-i-init : goal.loop-i-init
loop-i-init c = (refl, tab-none _ _)

pub loop-i-preserved : goal.loop-i-preserved
loop-i-preserved c =
    let l = c.loop-i in
    let a = c.args in
    let e : 15 + 3 * l.i + 1 ≡ 16 + 3 * l.i = omega arith in (
      simp length-set l.invariant.0,
      ap (λ (x : List Float). set x l.i c.s24_after.result) l.invariant.1
          ∙ tab-more l.i (sampled a.buf.now) a.out.now c.s24_after.result nan (omega arith)
          (c.s24_after.ensures ∙ ap (λ (at : ℕ). sample_of (be_at 3 a.buf.now at)) e),
    )

pub returns : goal.returns
unfolding samples_of
returns c =
    let l = c.loop-i in
    let a = c.args in
    let e : l.i ≡ 476 = omega arith in
    l.invariant.1
    ∙ ap (λ (k : ℕ). tab k (sampled a.buf.now) ++ drop k a.out.now) e
    ∙ sym (written-front a.out.now (samples_of a.buf.now) 476 (length-tab 476 (sampled a.buf.now)))

-- `tuning::alex::alex_words` meets its contract: each scheme's words are the bits that its ladders give. Assumes nothing.
use Rattle.std.proofs.Common.{◌≡◌}
use lib.Ieee.{of_bits, of_int}
use Rattle.tuning.specs.Alex.{alex_words, hpf_of, lpf_of, bpf_of}
use Rattle.tuning.proofs.alex.alex_words.Goals as goal

pub returns-in-None : goal.returns-in-None
unfolding alex_words
returns-in-None c = rw c.in-None.is

pub returns-in-Classic : goal.returns-in-Classic
unfolding alex_words hpf_of lpf_of of_bits of_int
returns-in-Classic c =
    let f = c.args.f in
    let h : c.bits_at.result ≡ hpf_of f = c.bits_at.ensures in
    let l : c.bits_at-in-Classic.result ≡ lpf_of f = c.bits_at-in-Classic.ensures in
    let m : c.bits_at-in-Classic-2.result ≡ lpf_of f = c.bits_at-in-Classic-2.ensures in
    rw (c.in-Classic.is, h, l, m)

pub returns-in-BandPassDual : goal.returns-in-BandPassDual
unfolding alex_words bpf_of lpf_of of_bits of_int
returns-in-BandPassDual c =
    let f = c.args.f in
    let b : c.bits_at-in-BandPassDual.result ≡ bpf_of f = c.bits_at-in-BandPassDual.ensures in
    let l : c.bits_at-in-BandPassDual-2.result ≡ lpf_of f = c.bits_at-in-BandPassDual-2.ensures in
    let m : c.bits_at-in-BandPassDual-3.result ≡ lpf_of f = c.bits_at-in-BandPassDual-3.ensures in
    rw (c.in-BandPassDual.is, b, l, m)

pub returns-in-BandPass : goal.returns-in-BandPass
unfolding alex_words bpf_of lpf_of of_bits of_int
returns-in-BandPass c =
    let f = c.args.f in
    let b : c.bits_at-in-BandPass.result ≡ bpf_of f = c.bits_at-in-BandPass.ensures in
    let l : c.bits_at-in-BandPass-2.result ≡ lpf_of f = c.bits_at-in-BandPass-2.ensures in
    let m : c.bits_at-in-BandPass-3.result ≡ lpf_of f = c.bits_at-in-BandPass-3.ensures in
    rw (c.in-BandPass.is, b, l, m)

pub returns-in-Bypass : goal.returns-in-Bypass
unfolding alex_words
returns-in-Bypass c = rw c.in-Bypass.is

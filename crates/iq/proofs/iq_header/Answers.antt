-- `iq::iq_header` meets its contract: each test is a row of 01's, in its order. Assumes nothing.
use mathlib.Core.Path.{sym, ap, ◌∙◌}
use Prim.Native.Nat.{ℕ}
use mathlib.Core.List.{[], ◌∷◌}
use Rattle.base.specs.Told.{gives, refused}
use Rattle.iq.specs.Iq.{count_of, header_told}
use Rattle.iq.proofs.Headers.{row-7, row-8, row-9, past}
use Rattle.iq.proofs.iq_header.Goals as goal

pub returns-then-n-ne-IQ_DATAGRAM_LEN : goal.returns-then-n-ne-IQ_DATAGRAM_LEN
unfolding header_told
returns-then-n-ne-IQ_DATAGRAM_LEN c =
    let b = c.args.buf.now in
    sym (row-7 b (count_of b) c.if-n-ne-IQ_DATAGRAM_LEN.true)

pub returns-then-bits-ne-BITS_PER_SAMPLE : goal.returns-then-bits-ne-BITS_PER_SAMPLE
unfolding header_told
returns-then-bits-ne-BITS_PER_SAMPLE c =
    let b = c.args.buf.now in
    let e = c.get_u16-bits.ensures in
    ap (λ (v : ℕ). refused 8 (v ∷ [])) e ∙ sym (row-8 b (count_of b) c.if-n-ne-IQ_DATAGRAM_LEN.false (λ k. c.if-bits-ne-BITS_PER_SAMPLE.true (e ∙ k)))

pub returns-then-samples-ne-SAMPLES_PER_FRAME : goal.returns-then-samples-ne-SAMPLES_PER_FRAME
unfolding header_told
returns-then-samples-ne-SAMPLES_PER_FRAME c =
    let b = c.args.buf.now in
    let w = c.get_u16-bits.ensures in
    let e = c.get_u16-samples.ensures in
    ap (λ (v : ℕ). refused 9 (v ∷ [])) e
    ∙ sym (row-9 b (count_of b) c.if-n-ne-IQ_DATAGRAM_LEN.false (sym w ∙ c.if-bits-ne-BITS_PER_SAMPLE.false) (λ k. c.if-samples-ne-SAMPLES_PER_FRAME.true (e ∙ k)))

pub returns : goal.returns
unfolding header_told
returns c =
    let b = c.args.buf.now in
    let w = c.get_u16-bits.ensures in
    let e = c.get_u16-samples.ensures in
    ap (λ (n : ℕ). gives (n ∷ [])) c.get_u32.ensures
    ∙ sym (past b (count_of b) c.if-n-ne-IQ_DATAGRAM_LEN.false (sym w ∙ c.if-bits-ne-BITS_PER_SAMPLE.false) (sym e ∙ c.if-samples-ne-SAMPLES_PER_FRAME.false))

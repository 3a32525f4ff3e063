-- `iq::parse_iq_datagram` meets its contract: the header's rows, then room, then the samples. Assumes nothing.
use native.Mathlib.Omega.{arith}
use Rattle.std.specs.Prelude.{◌≡◌, Err}
use Rattle.std.proofs.lemmas.Grind.{common_steps}
use Rattle.iq.proofs.Headers.{right-header, parsed-bad, parsed-no-room, parsed-count}
use Rattle.iq.proofs.parse_iq_datagram.Goals as goal

pub returns-in_err-seq : goal.returns-in_err-seq
returns-in_err-seq c =
    let a = c.args in
    let e : c.from_residual.result ≡ Err c.in_err-seq.field-0.0 = grind (arith, common_steps) in
    rw e (parsed-bad a.buf.now a.out.now c.in_err-seq.field-0.0 c.in_err-seq.ensures)

pub returns-then-out-lt-F32_PER_DATAGRAM : goal.returns-then-out-lt-F32_PER_DATAGRAM
returns-then-out-lt-F32_PER_DATAGRAM c =
    let a = c.args in
    parsed-no-room a.buf.now a.out.now c.in_ok-seq.seq c.in_ok-seq.ensures (omega arith)

pub read_samples-requires : goal.read_samples-requires
read_samples-requires c =
    let n = (right-header c.args.buf.now c.in_ok-seq.seq c.in_ok-seq.ensures).0 in
    (omega (arith, n), omega arith)

pub returns : goal.returns
returns c =
    let a = c.args in
    parsed-count a.buf.now a.out.now c.in_ok-seq.seq c.in_ok-seq.ensures c.read_samples.new.out (omega arith)
    c.read_samples.ensures

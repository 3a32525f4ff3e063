-- `arriving::arrival::arrival` meets its contract: six rows, then the rest. Assumes nothing.
use mathlib.Core.Path.{refl}
use native.Mathlib.Omega.{arith}
use borrow.Author.Tests.{lt-ltb, le-ltb}
use Rattle.base.proofs.Tests.{was}
use Rattle.model.specs.Gives.{joined, incoming_of}
use Rattle.sending.proofs.Givings.{gives-told, gives_as}
use Rattle.arriving.proofs.Arrivals.{row-10, row-11, row-12, row-13, row-14, row-15, no_row}
use Rattle.arriving.proofs.arrival.arrival.Goals as goal

pub returns-then-not_reading : goal.returns-then-not_reading
returns-then-not_reading c = let a = c.args in gives-told _ _ _ _ _ refl (row-10 (joined a.s.now a.samples.now) (incoming_of a.i) a.packets.now (was c.not_reading.ensures c.if-not_reading.true))

pub returns-then-i-s : goal.returns-then-i-s
returns-then-i-s c = let a = c.args in gives-told _ _ _ _ _ refl (row-11 (joined a.s.now a.samples.now) (incoming_of a.i) a.packets.now (was c.not_reading.ensures c.if-not_reading.false) (lt-ltb _ _ c.if-i-s.true))

pub returns-then-waits : goal.returns-then-waits
returns-then-waits c = let a = c.args in
    gives-told _ _ _ _ _ refl
    (row-12 (joined a.s.now a.samples.now) (incoming_of a.i) a.packets.now
    (was c.not_reading.ensures c.if-not_reading.false) (le-ltb _ _ c.if-i-s.false) (was c.waits.ensures c.if-waits.true))

pub returns-then-i : goal.returns-then-i
returns-then-i c = let a = c.args in
    gives-told _ _ _ _ _ refl
    (row-13 (joined a.s.now a.samples.now) (incoming_of a.i) a.packets.now
    (was c.not_reading.ensures c.if-not_reading.false) (le-ltb _ _ c.if-i-s.false) (was c.waits.ensures c.if-waits.false) c.if-i.true)

pub returns-then-i-gt-MAX_BUFFERED_DATAGRAMS : goal.returns-then-i-gt-MAX_BUFFERED_DATAGRAMS
returns-then-i-gt-MAX_BUFFERED_DATAGRAMS c = let a = c.args in
    gives-told _ _ _ _ _ refl
    (row-14 (joined a.s.now a.samples.now) (incoming_of a.i) a.packets.now
    (was c.not_reading.ensures c.if-not_reading.false) (le-ltb _ _ c.if-i-s.false) (was c.waits.ensures c.if-waits.false) c.if-i.false c.if-i-gt-MAX_BUFFERED_DATAGRAMS.true)

pub returns-then-packets-lt-ARRIVAL_LEN : goal.returns-then-packets-lt-ARRIVAL_LEN
returns-then-packets-lt-ARRIVAL_LEN c = let a = c.args in
    gives-told _ _ _ _ _ refl
    (row-15 (joined a.s.now a.samples.now) (incoming_of a.i) a.packets.now
    (was c.not_reading.ensures c.if-not_reading.false) (le-ltb _ _ c.if-i-s.false) (was c.waits.ensures c.if-waits.false) c.if-i.false c.if-i-gt-MAX_BUFFERED_DATAGRAMS.false (omega (arith, c.if-packets-lt-ARRIVAL_LEN.true)))

pub returns : goal.returns
returns c = let a = c.args in
    gives_as _ _ _ _ _ _
    (no_row (joined a.s.now a.samples.now) (incoming_of a.i) a.packets.now
    (was c.not_reading.ensures c.if-not_reading.false) (le-ltb _ _ c.if-i-s.false) (was c.waits.ensures c.if-waits.false) c.if-i.false c.if-i-gt-MAX_BUFFERED_DATAGRAMS.false c.if-packets-lt-ARRIVAL_LEN.false)
    c.arrived.ensures

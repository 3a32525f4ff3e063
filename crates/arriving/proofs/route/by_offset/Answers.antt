-- `arriving::route::by_offset` meets its contract. Assumes nothing.
use Rattle.arriving.proofs.Routes.{header_refused, header-right, offset-status, offset-ignored, offset-past}
use Rattle.arriving.proofs.route.by_offset.Goals as goal

pub returns-in_default : goal.returns-in_default
returns-in_default c = let a = c.args in
    header_refused a.offset a.datagram.now c.if-offset-eq-DDC0_PORT_OFFSET.true c.iq_header.result c.iq_header.ensures
    c.in_default.not-Ok

pub returns-then-offset-eq-DDC0_PORT_OFFSET : goal.returns-then-offset-eq-DDC0_PORT_OFFSET
returns-then-offset-eq-DDC0_PORT_OFFSET c = let a = c.args in header-right a.offset a.datagram.now c.if-offset-eq-DDC0_PORT_OFFSET.true c.iq_header.result c.iq_header.ensures _ c.in-Ok.is

pub returns-then-offset-eq-STATUS_PORT_OFFSET : goal.returns-then-offset-eq-STATUS_PORT_OFFSET
returns-then-offset-eq-STATUS_PORT_OFFSET c = let a = c.args in offset-status a.offset a.datagram.now c.if-offset-eq-DDC0_PORT_OFFSET.false c.if-offset-eq-STATUS_PORT_OFFSET.true

pub returns-then-offset-le-LAST_IGNORED_PORT_OFFSET : goal.returns-then-offset-le-LAST_IGNORED_PORT_OFFSET
returns-then-offset-le-LAST_IGNORED_PORT_OFFSET c = let a = c.args in offset-ignored a.offset a.datagram.now c.if-offset-eq-DDC0_PORT_OFFSET.false c.if-offset-eq-STATUS_PORT_OFFSET.false c.if-offset-le-LAST_IGNORED_PORT_OFFSET.true

pub returns : goal.returns
returns c = let a = c.args in offset-past a.offset a.datagram.now c.if-offset-eq-DDC0_PORT_OFFSET.false c.if-offset-eq-STATUS_PORT_OFFSET.false c.if-offset-le-LAST_IGNORED_PORT_OFFSET.false

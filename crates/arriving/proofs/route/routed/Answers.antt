-- `arriving::route::routed` meets its contract. Assumes nothing.
use Rattle.arriving.proofs.Routes.{from-v6, wrong-address, below-base, from-base}
use Rattle.arriving.proofs.route.routed.Goals as goal

pub returns-in_default : goal.returns-in_default
returns-in_default c = let a = c.args in from-v6 a.radio_ip a.base a.from a.datagram.now c.in_default.is

pub returns-then-ip-radio_ip : goal.returns-then-ip-radio_ip
returns-then-ip-radio_ip c = let a = c.args in wrong-address a.radio_ip a.base a.from a.datagram.now _ _ c.in-V4.is c.if-ip-radio_ip.true

pub returns-then-port-base : goal.returns-then-port-base
returns-then-port-base c = let a = c.args in below-base a.radio_ip a.base a.from a.datagram.now _ _ c.in-V4.is c.if-ip-radio_ip.false c.if-port-base.true

pub returns : goal.returns
returns c = let a = c.args in from-base a.radio_ip a.base a.from a.datagram.now _ _ c.in-V4.is c.if-ip-radio_ip.false _ c.if-port-base.false c.by_offset.ensures

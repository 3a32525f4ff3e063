-- `arriving::arrival::arrived` meets its contract: by what the arrival is. Assumes nothing.
use mathlib.Core.Path.{refl}
use Rattle.model.specs.Arrival as Arrival
use Rattle.model.specs.Gives.{joined, incoming_of}
use Rattle.arriving.specs.declared.route.Route.TheVariants.{Status, Ignored, Malformed}
use Rattle.arriving.proofs.Arrivals.{iq-header, by-route, by-iq}
use Rattle.sending.proofs.Givings.{gives-told, gives-kept}
use Rattle.arriving.proofs.arrival.arrived.Goals as goal

pub hear-heard-requires : goal.hear-heard-requires
hear-heard-requires c = let a = c.args in iq-header (joined a.s.now a.samples.now) (incoming_of a.i) a.packets.now _ c.routed.ensures _ c.in-Iq.is

pub returns-in-Iq : goal.returns-in-Iq
returns-in-Iq c = let a = c.args in
    gives-told _ _ _ _ _ refl (by-iq (joined a.s.now a.samples.now) (incoming_of a.i) a.packets.now _ c.routed.ensures _ _ _ _ _ c.in-Iq.is c.hear-heard.ensures)

pub returns-in-Status : goal.returns-in-Status
unfolding Arrival.arrived
returns-in-Status c = let a = c.args in
    gives-kept _ _ _ _ a.samples.now _ _ (by-route (joined a.s.now a.samples.now) (incoming_of a.i) a.packets.now _ c.routed.ensures Status c.in-Status.is)
    c.handle_status.ensures

pub returns-in-Ignored : goal.returns-in-Ignored
unfolding Arrival.arrived
returns-in-Ignored c = let a = c.args in
    gives-told _ _ _ _ _ refl (by-route (joined a.s.now a.samples.now) (incoming_of a.i) a.packets.now _ c.routed.ensures Ignored c.in-Ignored.is)

pub returns-in-Malformed : goal.returns-in-Malformed
unfolding Arrival.arrived
returns-in-Malformed c = let a = c.args in
    gives-kept _ _ _ _ a.samples.now _ _ (by-route (joined a.s.now a.samples.now) (incoming_of a.i) a.packets.now _ c.routed.ensures Malformed c.in-Malformed.is)
    (c.malformed.ensures a.packets.now)

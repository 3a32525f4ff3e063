-- What an arrival is, in the code's words. Definitions only.
use Rattle.model.specs.Routing.{Routed}
use Rattle.model.specs.Routing as Routing
use Rattle.arriving.specs.declared.route.Route.{Route}
use Rattle.arriving.specs.declared.route.Route.TheVariants.{Iq, Status, Ignored, Malformed}

abbrev pub route_of : Route → Routed
route_of (Iq count) = Routing.iq count
route_of Status = Routing.status
route_of Ignored = Routing.ignored
route_of Malformed = Routing.malformed

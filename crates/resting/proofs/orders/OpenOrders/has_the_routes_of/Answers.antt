use Rattle.std.proofs.Common.{◌≡◌, Decides, rules}
use Rattle.std.proofs.lemmas.Iterator.{YieldsList-from_slice, YieldsList-from_map}
use Rattle.std.proofs.lemmas.Iterator.Consumers.{YieldsList-from_copied}
use Rattle.ranking.specs.Lists.{lines_of}
use Rattle.market.specs.declared.types.Route.{Route}
use Rattle.market.specs.contracts.types.RoutePartialEq.TheImpl as TheImpl
use Rattle.market.specs.Sheets.{route_line}
use Rattle.resting.proofs.Sheets.{same_from_eq}
use Rattle.resting.proofs.orders.OpenOrders.has_the_routes_of.Goals as goal

same_route : (x y : Route) → Decides (TheImpl.ghosts.eq x y) (x ≡ y)
same_route x y = search rules

pub returns-then-ours-theirs : goal.returns-then-ours-theirs
returns-then-ours-theirs c =
    same_from_eq c.map-then-ours-theirs.result c.eq.result c.eq.ensures.ran
    (YieldsList-from_map _ route_line (YieldsList-from_copied (YieldsList-from_slice (lines_of c.args.self.now.routes) cc)) c.map.ensures.closure (λ x r q k. search rules))
    (YieldsList-from_map _ route_line (YieldsList-from_copied (YieldsList-from_slice (lines_of c.args.other.now.routes) cc)) c.map-then-ours-theirs.ensures.closure (λ x r q k. search rules))
    same_route

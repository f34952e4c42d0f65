use Rattle.std.proofs.Common.{rules}
use Rattle.market.specs.States.{route_bears}
use Rattle.resting.proofs.orders.OpenOrders.find_route.Goals as goal

pub returns : goal.returns
returns c = c.find.ensures.found (route_bears c.args.number) (λ x r k. search rules)

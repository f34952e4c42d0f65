use Rattle.std.proofs.Common.{◌≡◌, not, rules}
use Rattle.ranking.specs.Place.{every}
use Rattle.market.specs.States.{route_bears}
use Rattle.resting.proofs.orders.OpenOrders.is_free.Goals as goal

pub returns-then-is_free_on-2 : goal.returns-then-is_free_on-2
returns-then-is_free_on-2 c =
    let routes : c.lacks.result ≡ every (λ r. not (route_bears c.args.number r)) c.args.self.now.routes.lines.items = c.lacks.ensures.none (route_bears c.args.number) (λ x r k. search rules) in
    search rules

use Rattle.std.proofs.Common.{subst, rules}
use Rattle.ranking.specs.Place.{Found}
use Rattle.market.specs.States.{owned}
use Rattle.resting.proofs.Sounds.{on_side}
use Rattle.resting.proofs.orders.OpenOrders.find_on.Goals as goal

pub returns : goal.returns
returns c =
    let o = c.args.self.now in
    let there = on_side c.args.side o c.on.result.now c.on.ensures in
    subst (λ l. Found (owned c.args.user c.args.number) l c.find.result) there (c.find.ensures.found (owned c.args.user c.args.number) (λ x r k. search rules))

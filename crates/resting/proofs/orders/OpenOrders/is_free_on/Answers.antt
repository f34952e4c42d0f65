use Rattle.std.proofs.Common.{ap, ◌∙◌, rules, not}
use Rattle.ranking.specs.Place.{every}
use Rattle.market.specs.States.{resting_bears}
use Rattle.resting.proofs.Sounds.{on_side}
use Rattle.resting.proofs.orders.OpenOrders.is_free_on.Goals as goal

pub returns : goal.returns
returns c =
    let o = c.args.self.now in
    let there = on_side c.args.side o c.on.result.now c.on.ensures in
    c.lacks.ensures.none (resting_bears c.args.number) (λ x r k. search rules) ∙ ap (every (λ p. not (resting_bears c.args.number p))) there

use Rattle.resting.specs.Orders.{state_of}
use Rattle.resting.proofs.Sounds.{sound_ended}
use Rattle.resting.proofs.orders.OpenOrders.end_route.Goals as goal

pub invariant_of-self : goal.invariant_of-self
invariant_of-self c =
    let o = c.args.self.now in
    record { sound = sound_ended c.args.place c.remove.result (state_of o) _ c.requires c.remove.ensures.lines o.sound }

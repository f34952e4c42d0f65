use Rattle.std.proofs.Common.{ap, ◌∙◌}
use Rattle.market.specs.Orders.{traded}
use Rattle.soundness.proofs.Keeps.{sound_traded}
use Rattle.resting.specs.Orders.{state_of}
use Rattle.resting.proofs.Sounds.{on_side, sound_put}
use Rattle.resting.proofs.orders.OpenOrders.trade.Goals as goal

pub invariant_of-self : goal.invariant_of-self
invariant_of-self c =
    let d = c.args.side in
    let o = c.args.self.now in
    let there = on_side d o c.on_mut.result.now c.on_mut.ensures.value in
    let lines = c.trade_first.ensures ∙ ap (traded d c.args.k) there in
    record { sound = sound_put d o c.trade_first.new.list _ lines (sound_traded d c.args.k (state_of o) o.sound) }

use Rattle.std.proofs.Common.{ℕ, sym, subst}
use Rattle.ranking.specs.Lists.{lines_of}
use Rattle.market.specs.States.{state}
use Rattle.market.specs.Sound.{Sound}
use Rattle.soundness.proofs.Keeps.{sound_numbered}
use Rattle.resting.specs.Orders.{state_of}
use Rattle.resting.proofs.orders.OpenOrders.take_number.Goals as goal

pub invariant_of-self : goal.invariant_of-self
invariant_of-self c =
    let o = c.args.self.now in
    let P : ℕ → Type 0 = λ n. Sound (state (lines_of o.sides.buy) (lines_of o.sides.sell) (lines_of o.routes) n) in
    record { sound = subst P (sym c.number_after-self.ensures) (sound_numbered (state_of o) c.requires o.sound) }

use Rattle.std.proofs.Common.{subst}
use Rattle.market.specs.declared.types.Side.{Side}
use Rattle.market.specs.declared.types.Side.TheVariants.{Buy, Sell}
use Rattle.ranking.specs.Place.{place}
use Rattle.market.specs.Sides.{resting_before}
use Rattle.market.specs.States.{on, put}
use Rattle.market.specs.Sound.{Sound}
use Rattle.soundness.proofs.Keeps.{sound_placed}
use Rattle.resting.specs.Orders.{state_of}
use Rattle.resting.proofs.Sounds.{sound_put}
use Rattle.resting.proofs.orders.OpenOrders.rest.Goals as goal

pub invariant_of-self : goal.invariant_of-self
invariant_of-self c =
    let o = c.args.self.now in
    let s = state_of o in
    let P : Side → Type 0 = λ d. Sound (put d (place (resting_before d) c.args.p (on d s)) s) in
    record { sound = sound_put Buy o c.insert.new.self _ c.insert.ensures.lines (subst P c.in-Buy.is (sound_placed c.args.side c.args.p s c.requires.may o.sound)) }

pub invariant_of-self-in-Sell : goal.invariant_of-self-in-Sell
invariant_of-self-in-Sell c =
    let o = c.args.self.now in
    let s = state_of o in
    let P : Side → Type 0 = λ d. Sound (put d (place (resting_before d) c.args.p (on d s)) s) in
    record { sound = sound_put Sell o c.insert-in-Sell.new.self _ c.insert-in-Sell.ensures.lines (subst P c.in-Sell.is (sound_placed c.args.side c.args.p s c.requires.may o.sound)) }

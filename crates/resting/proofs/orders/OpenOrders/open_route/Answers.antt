use Rattle.std.proofs.Common.{List, sym, ap, ◌∙◌, subst}
use Rattle.ranking.specs.Lists.{lines_of}
use Rattle.ranking.specs.Place.{place}
use Rattle.market.specs.declared.types.Route.{Route}
use Rattle.market.specs.Sides.{route_before}
use Rattle.market.specs.States.{State, state}
use Rattle.market.specs.Orders.{routed}
use Rattle.market.specs.Sound.{Sound}
use Rattle.soundness.proofs.Keeps.{sound_sent}
use Rattle.resting.specs.Orders.{state_of}
use Rattle.resting.proofs.orders.OpenOrders.open_route.Goals as goal

pub invariant_of-self : goal.invariant_of-self
invariant_of-self c =
    let s = state_of c.args.self.now in
    let o = c.take_number-number.new.self in
    let r = c.to_route.ensures ∙ ap (λ n. routed c.args.o c.args.q n c.args.k) c.take_number-number.ensures.number in
    let lines = c.insert.ensures.lines ∙ ap (λ x. place route_before x (lines_of o.routes)) r in
    let P : State → Type 0 = λ z. Sound (state z.buys z.sells (place route_before (routed c.args.o c.args.q s.next c.args.k) z.routes) z.next) in
    let Q : List Route → Type 0 = λ rs. Sound (state (lines_of o.sides.buy) (lines_of o.sides.sell) rs o.next) in
    record { sound = subst Q (sym lines) (subst P (sym c.take_number-number.ensures.state) (sound_sent c.args.o c.args.q c.args.k s c.requires.able c.requires.left c.requires.some.0 c.requires.some.1 c.args.self.now.sound)) }

-- The open orders as the model's state, and where an order stands in it.
use Rattle.std.specs.Prelude.{◌≡◌, ℕ, ◌<◌, length, Some, None, Option}
use Rattle.ranking.specs.Lists.{lines_of}
use Rattle.ranking.specs.Place.{place, spot_at}
use Rattle.market.specs.declared.types.Side.{Side}
use Rattle.market.specs.declared.types.Resting.{Resting}
use Rattle.market.specs.declared.types.Route.{Route}
use Rattle.market.specs.Sides.{route_before}
use Rattle.market.specs.Numbers.{after}
use Rattle.market.specs.States.{State, state, on}
use Rattle.market.specs.Calls.{Place, find}
use Rattle.resting.specs.declared.orders.OpenOrders.{OpenOrders}
use Rattle.resting.specs.declared.orders.looks.Standing.{Standing}

abbrev pub state_of : OpenOrders → State
state_of o = state (lines_of o.sides.buy) (lines_of o.sides.sell) (lines_of o.routes) o.next

-- one more route, under the next number
abbrev pub sent_out : Route → State → State
sent_out r s = state s.buys s.sells (place route_before r s.routes) (after s.next)

-- the resting order at a place of a side; x only fills in past the end
abbrev pub at_place : Side → ℕ → State → Resting → Place
at_place d i s x = record { side = d; spot = spot_at (on d s) i x }

-- a resting order stands there
abbrev pub Stands : Standing → State → Type 0
Stands w s = w.place < length (on w.side s)

-- where the model finds the order, it stands
abbrev pub Located : ℕ → ℕ → State → Option Standing → Type 0
Located user n s None = find user n s ≡ None
Located user n s (Some w) = Stands w s × ((x : Resting) → find user n s ≡ Some (at_place w.side w.place s x))

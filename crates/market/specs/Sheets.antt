-- Equal books: all that a comparison covers.
use Rattle.std.specs.Prelude.{◌≡◌, min, map}
use Rattle.market.specs.declared.types.Resting.{Resting}
use Rattle.market.specs.declared.types.Route.{Route}
use Rattle.market.specs.declared.types.Order.{Order}
use Rattle.market.specs.States.{State, state}
use Rattle.market.specs.Orders.{next_show, with_show, with_route_show, with_order_show}
use Rattle.market.specs.Calls.{Pass, ready, ended, in_hand}

-- a line of the rank sheet: number, user, price, shown, held and next show
abbrev pub line : Resting → Resting
line p = with_show (next_show p) p

-- a line of the route list: the show counts at most the shares out
abbrev pub route_line : Route → Route
route_line r = with_route_show (min r.show r.out) r

-- an order in hand as it is seen: the show counts at most the shares
abbrev pub hand_line : Order → Order
hand_line o = with_order_show (min o.show o.shares) o

-- all that a comparison covers of a book: both sides of the rank sheet, the route list, the next number
abbrev pub sheet : State → State
sheet s = state (map line s.buys) (map line s.sells) (map route_line s.routes) s.next

abbrev pub seen : Pass → Pass
seen ready = ready
seen ended = ended
seen (in_hand o) = in_hand (hand_line o)

-- EQUAL BOOKS
abbrev pub Equal : State → State → Type 0
Equal s s' = sheet s ≡ sheet s'

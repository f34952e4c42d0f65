-- What every book keeps: no book value exists otherwise.
use Rattle.std.specs.Prelude.{◌≡◌, ℕ, Bool, true, not, ◌&&◌, List, [], ◌∷◌, ◌==◌, nat_le, nat_lt}
use Rattle.ranking.specs.Place.{in_rank, every}
use Rattle.market.specs.declared.types.Side.TheVariants.{Buy, Sell}
use Rattle.market.specs.declared.types.Resting.{Resting}
use Rattle.market.specs.declared.types.Route.{Route}
use Rattle.market.specs.declared.types.Order.{Order}
use Rattle.market.specs.Sides.{resting_before, route_before}
use Rattle.market.specs.Legal.{legal_price, legal_user, legal_size}
use Rattle.market.specs.Numbers.{given}
use Rattle.market.specs.States.{State, resting_bears, route_bears}
use Rattle.market.specs.Orders.{total}

-- a resting order that may stand in a book whose next number is this: it displays some, and can always display more
abbrev pub resting_fair : ℕ → Resting → Bool
resting_fair next p =
    given p.number next && (legal_user p.user && (legal_price p.price && (nat_le 1 p.shown && (nat_le 1 p.show && nat_le (total p) 999999))))

abbrev pub route_fair : ℕ → Route → Bool
route_fair next r = given r.number next && (legal_user r.user && (legal_price r.limit && (nat_le 1 r.show && legal_size r.out)))

-- an order that may be in hand
abbrev pub able : Order → Bool
able o = legal_user o.user && (legal_price o.limit && (legal_size o.shares && nat_le 1 o.show))

-- no number stands twice in a list
abbrev pub resting_apart : List Resting → Bool
resting_apart [] = true
resting_apart (p ∷ ps) = every (λ x. not (resting_bears p.number x)) ps && resting_apart ps

abbrev pub routes_apart : List Route → Bool
routes_apart [] = true
routes_apart (r ∷ rs) = every (λ x. not (route_bears r.number x)) rs && routes_apart rs

-- a buy and a sell that meet neither in number nor in price
abbrev pub parted : Resting → Resting → Bool
parted b s = not (b.number == s.number) && nat_lt b.price s.price

-- a route and a resting order of different numbers
abbrev pub clear_of : Route → Resting → Bool
clear_of r p = not (p.number == r.number)

-- both sides and the routes are in rank
abbrev pub Ranked : State → Type 0
Ranked s = (in_rank (resting_before Buy) s.buys ≡ true) × (in_rank (resting_before Sell) s.sells ≡ true) × (in_rank route_before s.routes ≡ true)

-- every line is fair
abbrev pub Fair : State → Type 0
Fair s = (every (resting_fair s.next) s.buys ≡ true) × (every (resting_fair s.next) s.sells ≡ true) × (every (route_fair s.next) s.routes ≡ true)

-- no number stands twice in one list
abbrev pub Apart : State → Type 0
Apart s = (resting_apart s.buys ≡ true) × (resting_apart s.sells ≡ true) × (routes_apart s.routes ≡ true)

-- no buy meets a sell, and no number stands in two lists
abbrev pub Parted : State → Type 0
Parted s = (every (λ b. every (parted b) s.sells) s.buys ≡ true) × (every (λ r. every (clear_of r) s.buys) s.routes ≡ true) × (every (λ r. every (clear_of r) s.sells) s.routes ≡ true)

abbrev pub Sound : State → Type 0
Sound s = Ranked s × Fair s × Apart s × Parted s

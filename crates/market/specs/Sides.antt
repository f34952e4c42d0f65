-- The two sides, and what stands first on each.
use Rattle.std.specs.Prelude.{ℕ, Bool, ◌&&◌, ◌||◌, ◌==◌, nat_le, nat_lt}
use Rattle.market.specs.declared.types.Side.{Side}
use Rattle.market.specs.declared.types.Side.TheVariants.{Buy, Sell}
use Rattle.market.specs.declared.types.Resting.{Resting}
use Rattle.market.specs.declared.types.Quotation.{Quotation}
use Rattle.market.specs.declared.types.Route.{Route}

-- the opposite side
abbrev pub across_of : Side → Side
across_of Buy = Sell
across_of Sell = Buy

-- one of two, by the side
abbrev pub pick : {X : Type 0} → Side → X → X → X
pick Buy b s = b
pick Sell b s = s

-- the first price is better than the second on this side: higher among buys and bids, lower among sells and offers
abbrev pub ahead : Side → ℕ → ℕ → Bool
ahead Buy a b = nat_lt b a
ahead Sell a b = nat_lt a b

-- the price is within the limit of an order of this side
abbrev pub within : Side → ℕ → ℕ → Bool
within Buy limit price = nat_le price limit
within Sell limit price = nat_le limit price

-- resting orders go by price, and equal prices keep arrival
abbrev pub resting_before : Side → Resting → Resting → Bool
resting_before d x y = ahead d x.price y.price

-- quotations go by price, then by the lower venue
abbrev pub quotation_before : Side → Quotation → Quotation → Bool
quotation_before d x y = ahead d x.price y.price || (x.price == y.price && nat_lt x.venue y.venue)

-- open routes go by number
abbrev pub route_before : Route → Route → Bool
route_before x y = nat_lt x.number y.number

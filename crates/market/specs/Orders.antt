-- What happens to one order: it rests, is lessened, refreshed, cut, sent out and returned.
use Rattle.std.specs.Prelude.{ℕ, ◌+◌, ◌-◌, min, Bool, cond, ◌&&◌, List, [], ◌∷◌, Some, None, Option, ◌==◌, nat_lt}
use Rattle.ranking.specs.Place.{place}
use Rattle.market.specs.declared.types.Side.{Side}
use Rattle.market.specs.declared.types.Kind.TheVariants.{Limit}
use Rattle.market.specs.declared.types.Resting.{Resting}
use Rattle.market.specs.declared.types.Route.{Route}
use Rattle.market.specs.declared.types.Quotation.{Quotation}
use Rattle.market.specs.declared.types.Order.{Order}
use Rattle.market.specs.declared.types.Terms.{Terms}
use Rattle.market.specs.Sides.{resting_before}

-- resting orders

abbrev pub total : Resting → ℕ
total p = p.shown + p.held

-- the same order with other shares displayed and held
abbrev pub sharing : ℕ → ℕ → Resting → Resting
sharing shown held p = record { number = p.number; user = p.user; price = p.price; shown = shown; held = held; show = p.show }

abbrev pub with_show : ℕ → Resting → Resting
with_show n p = record { number = p.number; user = p.user; price = p.price; shown = p.shown; held = p.held; show = n }

-- what is displayed of n shares at one time
abbrev pub display : ℕ → ℕ → ℕ
display show n = min show n

-- displayed shares lessened where they rest
abbrev pub less : ℕ → Resting → Resting
less k p = sharing (p.shown - k) p.held p

-- the display is to be renewed: nothing is displayed, and some is held
abbrev pub due : Resting → Bool
due p = p.shown == 0 && nat_lt 0 p.held

-- the display renewed from all that is left
abbrev pub refresh : Resting → Resting
refresh p = sharing (display p.show (total p)) (total p - display p.show (total p)) p

-- next show: what a refresh would display
abbrev pub next_show : Resting → ℕ
next_show p = min p.show p.held

-- a cut takes held shares first, then displayed ones
abbrev pub trimmed : ℕ → Resting → Resting
trimmed k p = sharing (p.shown - (k - p.held)) (p.held - k) p

-- a side whose first order has been lessened: it is refreshed behind its price, or goes, or stays where it rests
abbrev pub settled : Side → Resting → List Resting → List Resting
settled d p ps = cond (due p) (place (resting_before d) (refresh p) ps) (cond (p.shown == 0) ps (p ∷ ps))

-- a side after a trade of k shares with its first order
abbrev pub traded : Side → ℕ → List Resting → List Resting
traded d k [] = []
traded d k (p ∷ ps) = settled d (less k p) ps

-- orders in hand

abbrev pub entered : Side → Terms → ℕ → Order
entered d t n = record { number = n; user = t.user; side = d; limit = t.price; shares = t.size; show = t.show; kind = t.kind }

abbrev pub with_shares : ℕ → Order → Order
with_shares k o = record { number = o.number; user = o.user; side = o.side; limit = o.limit; shares = k; show = o.show; kind = o.kind }

abbrev pub with_order_show : ℕ → Order → Order
with_order_show n o = record { number = o.number; user = o.user; side = o.side; limit = o.limit; shares = o.shares; show = n; kind = o.kind }

-- what is left in hand once k shares are gone
abbrev pub remaining : ℕ → Order → Option Order
remaining k o = cond (o.shares == k) None (Some (with_shares (o.shares - k) o))

-- the order come to rest
abbrev pub rested : Order → Resting
rested o = record { number = o.number; user = o.user; price = o.limit; shown = display o.show o.shares; held = o.shares - display o.show o.shares; show = o.show }

-- routes

-- k shares of the order sent to a quotation under the number n
abbrev pub routed : Order → Quotation → ℕ → ℕ → Route
routed o q n k = record { number = n; user = o.user; side = o.side; limit = o.limit; show = o.show; price = q.price; venue = q.venue; out = k }

abbrev pub with_route_show : ℕ → Route → Route
with_route_show n r = record { number = r.number; user = r.user; side = r.side; limit = r.limit; show = n; price = r.price; venue = r.venue; out = r.out }

-- the shares that come back unfilled, as an L under the route's number
abbrev pub returned : ℕ → Route → Order
returned k r = record { number = r.number; user = r.user; side = r.side; limit = r.limit; shares = r.out - k; show = r.show; kind = Limit }

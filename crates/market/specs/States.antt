-- A book as its lists: two sides in rank, the open routes and the next number; and a board as its two lists.
use Rattle.std.specs.Prelude.{ℕ, Bool, not, ◌&&◌, List, [], ◌==◌}
use Rattle.ranking.specs.Place.{every}
use Rattle.market.specs.declared.types.Side.{Side}
use Rattle.market.specs.declared.types.Resting.{Resting}
use Rattle.market.specs.declared.types.Route.{Route}
use Rattle.market.specs.declared.types.Quotation.{Quotation}
use Rattle.market.specs.Sides.{pick}
use Rattle.market.specs.Numbers.{given, after}

pub record State : Type 0 where
  pub buys : List Resting
  pub sells : List Resting
  pub routes : List Route
  pub next : ℕ

pub record Quotes : Type 0 where
  pub bids : List Quotation
  pub offers : List Quotation

abbrev pub state : List Resting → List Resting → List Route → ℕ → State
state b s r n = record { buys = b; sells = s; routes = r; next = n }

abbrev pub quotes_of : List Quotation → List Quotation → Quotes
quotes_of b o = record { bids = b; offers = o }

-- a book with nothing in it
abbrev pub new_state : ℕ → State
new_state n = state [] [] [] n

abbrev pub no_quotes : Quotes
no_quotes = quotes_of [] []

-- the resting orders of a side
abbrev pub on : Side → State → List Resting
on d s = pick d s.buys s.sells

abbrev pub put : Side → List Resting → State → State
put d xs s = state (pick d xs s.buys) (pick d s.sells xs) s.routes s.next

abbrev pub with_routes : List Route → State → State
with_routes rs s = state s.buys s.sells rs s.next

-- the next number given away
abbrev pub numbered : State → State
numbered s = state s.buys s.sells s.routes (after s.next)

-- the quotations of a side: bids are buys, offers are sells
abbrev pub quoted : Side → Quotes → List Quotation
quoted d q = pick d q.bids q.offers

abbrev pub put_quotes : Side → List Quotation → Quotes → Quotes
put_quotes d xs q = quotes_of (pick d xs q.bids) (pick d q.offers xs)

abbrev pub resting_bears : ℕ → Resting → Bool
resting_bears n p = p.number == n

abbrev pub route_bears : ℕ → Route → Bool
route_bears n r = r.number == n

-- the number of a user's resting order
abbrev pub owned : ℕ → ℕ → Resting → Bool
owned user n p = p.number == n && p.user == user

abbrev pub venue_is : ℕ → Quotation → Bool
venue_is v q = q.venue == v

-- the number stands nowhere in the book
abbrev pub free : ℕ → State → Bool
free n s = every (λ p. not (resting_bears n p)) s.buys && (every (λ p. not (resting_bears n p)) s.sells && every (λ r. not (route_bears n r)) s.routes)

-- an order in hand may be worked: its number is given, and stands nowhere in the book
abbrev pub fits : ℕ → State → Bool
fits n s = given n s.next && free n s

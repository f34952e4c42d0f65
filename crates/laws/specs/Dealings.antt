-- Fair dealing: what one call does to the board, to the order in hand and to the order that it trades with, read off its reports.
use Rattle.std.specs.Prelude.{◌≡◌, ℕ, ◌+◌, ◌<◌, ◌≤◌, true, false, not, ◌≢◌, List, Some}
use Rattle.ranking.specs.Place.{every, place, head_of}
use Rattle.market.specs.declared.types.Side.{Side}
use Rattle.market.specs.declared.types.Resting.{Resting}
use Rattle.market.specs.declared.types.Quotation.{Quotation}
use Rattle.market.specs.declared.types.Order.{Order}
use Rattle.market.specs.declared.types.Report.{Report}
use Rattle.market.specs.declared.types.What.TheVariants.{Trade, Sent}
use Rattle.market.specs.declared.types.Refusal.{Refusal}
use Rattle.market.specs.declared.types.Call.{Call}
use Rattle.market.specs.Sides.{across_of, ahead, within, route_before}
use Rattle.market.specs.Legal.{trades_past}
use Rattle.market.specs.States.{State, Quotes, on, quoted, put_quotes, with_routes, numbered}
use Rattle.market.specs.Quotes.{Shown, size_at, lessened}
use Rattle.market.specs.Orders.{routed}
use Rattle.market.specs.Reports.{refusal_number}
use Rattle.market.specs.Steps.{step}
use Rattle.market.specs.Calls.{Pass, in_hand, refused, Outcome, refuse, call}
use Rattle.market.specs.Sound.{Sound, able}
use Rattle.laws.specs.Strings.{Reported}
use Rattle.laws.specs.Refusals.{first_failed}

-- no quotation of a side is better than the price
abbrev pub NoneBetter : Side → ℕ → List Quotation → Type 0
NoneBetter d price qs = every (λ x. not (ahead d x.price price)) qs ≡ true

-- what a report r of shares sent says of the book, the board and the pass before, and of the outcome t
pub record Sends (s : State) (q : Quotes) (p : Pass) (r : Report) (t : Outcome) : Type 0 where
  pub order : Order
  pub quotation : Quotation
  -- the order is in hand, and the quotation is the first across, within its limit
  pub hand : p ≡ in_hand order
  pub first : Some quotation ≡ head_of (quoted (across_of order.side) q)
  pub limit : within order.side order.limit quotation.price ≡ true
  -- both are those of the report
  pub told : (r.side ≡ order.side) × (r.price ≡ quotation.price) × (r.what ≡ Sent quotation.venue)
  -- no more is sent than is in hand and than the quotation shows; and some is, if the order and the board are legal
  pub most : (r.shares ≤ order.shares) × (r.shares ≤ quotation.size)
  pub some : able order ≡ true → Shown q → 0 < r.shares
  -- the board is as before, but that venue's line is lessened by the shares sent
  pub board : t.quotes ≡ put_quotes (across_of order.side) (lessened quotation.venue r.shares (quoted (across_of order.side) q)) q
  pub gone : Shown q → size_at quotation.venue (quoted (across_of order.side) t.quotes) + r.shares ≡ size_at quotation.venue (quoted (across_of order.side) q)
  pub others : (v : ℕ) → v ≢ quotation.venue → size_at v (quoted (across_of order.side) t.quotes) ≡ size_at v (quoted (across_of order.side) q)
  -- the book is as before, but a route is open for the shares sent, under the next number
  pub number : r.number ≡ s.next
  pub route : t.state ≡ with_routes (place route_before (routed order quotation r.number r.shares) s.routes) (numbered s)

-- SENT WITHIN: shares that a call reports sent go to the first quotation across, within the limit, and the board loses exactly these
abbrev pub SentWithin : Type 0
SentWithin =
    (q : Quotes) (c : Call) (s : State) (p : Pass) (r : Report) (v : ℕ) → Reported r (call q c s p).says → r.what ≡ Sent v → Sends s q p r (call q c s p)

-- BOARD ELSE UNMOVED: a call that reports no shares sent leaves the board as it was
abbrev pub BoardElseUnmoved : Type 0
BoardElseUnmoved =
    (q : Quotes) (c : Call) (s : State) (p : Pass) → ((r : Report) (v : ℕ) → Reported r (call q c s p).says → r.what ≢ Sent v) → (call q c s p).quotes ≡ q

-- what a report r of a trade says of the book, the board and the pass before
pub record Trades (s : State) (q : Quotes) (p : Pass) (r : Report) : Type 0 where
  pub order : Order
  pub taken : Resting
  -- the order is in hand, and trades with the first resting order across
  pub hand : p ≡ in_hand order
  pub first : Some taken ≡ head_of (on (across_of order.side) s)
  -- both are those of the report, and the price is the resting order's
  pub told : (r.side ≡ order.side) × (r.price ≡ taken.price) × (r.what ≡ Trade taken.number)
  -- no more is traded than is in hand and than is displayed; and some is, if the order and the book are sound
  pub most : (r.shares ≤ order.shares) × (r.shares ≤ taken.shown)
  pub some : able order ≡ true → Sound s → 0 < r.shares
  -- the price is within the limit, and no quotation across is better, unless the kind may trade past one
  pub limit : within order.side order.limit r.price ≡ true
  pub through : trades_past order.kind ≡ false → NoneBetter (across_of order.side) r.price (quoted (across_of order.side) q)

-- NO TRADE-THROUGH: every trade is within the limit, and none is at a price than which a quotation across is better, unless the kind may
abbrev pub NoTradeThrough : Type 0
NoTradeThrough =
    (q : Quotes) (c : Call) (s : State) (p : Pass) (r : Report) (n : ℕ) → Reported r (call q c s p).says → r.what ≡ Trade n → Trades s q p r

-- the order o less k shares, the same in all else
pub record Less (k : ℕ) (o o' : Order) : Type 0 where
  pub number : o'.number ≡ o.number
  pub user : o'.user ≡ o.user
  pub side : o'.side ≡ o.side
  pub limit : o'.limit ≡ o.limit
  pub show : o'.show ≡ o.show
  pub kind : o'.kind ≡ o.kind
  pub shares : o'.shares + k ≡ o.shares

-- REMAINDER NEVER GROWS: what a step leaves in hand is the order less the shares reported; and these are some, if order, book and board are sound
abbrev pub RemainderNeverGrows : Type 0
RemainderNeverGrows =
    (s : State) (q : Quotes) (o o' : Order) → Some o' ≡ (step s q o).left →
    Less (step s q o).report.shares o o' × (able o ≡ true → Sound s → Shown q → o'.shares < o.shares)

-- REFUSALS CHANGE NOTHING: whenever a call says refused, the book, the board and the pass are as before
abbrev pub RefusalsChangeNothing : Type 0
RefusalsChangeNothing =
    (q : Quotes) (c : Call) (s : State) (p : Pass) (n : ℕ) → (call q c s p).says ≡ refused n →
    ((call q c s p).state ≡ s) × ((call q c s p).quotes ≡ q) × ((call q c s p).pass ≡ p)

-- REFUSED EXACTLY: a call is refused exactly when a check fails, with the number of the first that does
abbrev pub RefusedExactly : Type 0
RefusedExactly =
    (q : Quotes) (c : Call) (s : State) (p : Pass) →
    ((why : Refusal) → first_failed c s p ≡ Some why → call q c s p ≡ refuse why s q p)
    × ((n : ℕ) → (call q c s p).says ≡ refused n → (why : Refusal) × (first_failed c s p ≡ Some why) × (n ≡ refusal_number why))

-- The reports, and the numbers of reasons and refusals.
use Rattle.std.specs.Prelude.{ℕ, ◌-◌}
use Rattle.market.specs.declared.types.Side.{Side}
use Rattle.market.specs.declared.types.Resting.{Resting}
use Rattle.market.specs.declared.types.Route.{Route}
use Rattle.market.specs.declared.types.Quotation.{Quotation}
use Rattle.market.specs.declared.types.Order.{Order}
use Rattle.market.specs.declared.types.Report.{Report}
use Rattle.market.specs.declared.types.What.{What}
use Rattle.market.specs.declared.types.What.TheVariants.{In, Trade, Sent, Rest, Off, Back}
use Rattle.market.specs.declared.types.Reason.{Reason}
use Rattle.market.specs.declared.types.Reason.TheVariants.{Cancelled, Cut, Replaced, Expired, Unfilled, WouldLock, NoRoute, SideFull}
use Rattle.market.specs.declared.types.Refusal.{Refusal}
use Rattle.market.specs.declared.types.Refusal.TheVariants.{WrongPass, User, Size, Price, Show, NotResting, CutTooLarge, NotOut, ReplyTooLarge, NumbersUsedUp, Venue, NoSuchLine, NothingResting, NoPass}
use Rattle.market.specs.Orders.{rested}

abbrev pub reason_number : Reason → ℕ
reason_number Cancelled = 1
reason_number Cut = 2
reason_number Replaced = 3
reason_number Expired = 4
reason_number Unfilled = 5
reason_number WouldLock = 6
reason_number NoRoute = 7
reason_number SideFull = 8

abbrev pub refusal_number : Refusal → ℕ
refusal_number WrongPass = 1
refusal_number User = 2
refusal_number Size = 3
refusal_number Price = 4
refusal_number Show = 5
refusal_number NotResting = 6
refusal_number CutTooLarge = 7
refusal_number NotOut = 8
refusal_number ReplyTooLarge = 9
refusal_number NumbersUsedUp = 10
refusal_number Venue = 11
refusal_number NoSuchLine = 12
refusal_number NothingResting = 13
refusal_number NoPass = 47

-- a report has number, user, side, price, shares, held and other. The last two are borne by what it tells of: a kind that does not
-- bear one has 0 here, and then alone the line has -

-- held: the shares held back by an order that comes to rest, or left unfilled by a reply
abbrev pub held_told : What → ℕ
held_told In = 0
held_told (Trade n) = 0
held_told (Sent v) = 0
held_told (Rest held) = held
held_told (Off why) = 0
held_told (Back unfilled v) = unfilled

-- other: the resting number of a trade, the venue of a send or a reply, the reason of a take-off
abbrev pub other_told : What → ℕ
other_told In = 0
other_told (Trade n) = n
other_told (Sent venue) = venue
other_told (Rest held) = 0
other_told (Off why) = reason_number why
other_told (Back unfilled venue) = venue

-- accepted: the limit and the size
abbrev pub in_report : Order → Report
in_report o = record { what = In; number = o.number; user = o.user; side = o.side; price = o.limit; shares = o.shares }

-- k shares traded at a price with the resting number n
abbrev pub trade_report : Order → ℕ → ℕ → ℕ → Report
trade_report o n price k = record { what = Trade n; number = o.number; user = o.user; side = o.side; price = price; shares = k }

-- k shares sent to a quotation under the number n
abbrev pub sent_report : Order → Quotation → ℕ → ℕ → Report
sent_report o q n k = record { what = Sent q.venue; number = n; user = o.user; side = o.side; price = q.price; shares = k }

-- come to rest: the limit, displayed and held shares
abbrev pub rest_report : Order → Report
rest_report o = record { what = Rest (rested o).held; number = o.number; user = o.user; side = o.side; price = o.limit; shares = (rested o).shown }

-- k shares of a resting order taken off
abbrev pub off_report : Reason → ℕ → Side → Resting → Report
off_report why k d p = record { what = Off why; number = p.number; user = p.user; side = d; price = p.price; shares = k }

-- all that is in hand taken off
abbrev pub off_hand : Reason → Order → Report
off_hand why o = record { what = Off why; number = o.number; user = o.user; side = o.side; price = o.limit; shares = o.shares }

-- a route's reply: k shares filled at the price sent, the others unfilled
abbrev pub back_report : ℕ → Route → Report
back_report k r = record { what = Back (r.out - k) r.venue; number = r.number; user = r.user; side = r.side; price = r.price; shares = k }

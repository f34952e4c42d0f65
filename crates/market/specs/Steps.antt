-- One step of work: which rule applies first, and what it does.
use Rattle.std.specs.Prelude.{ℕ, zero, suc, min, Bool, false, cond, not, ◌&&◌, ◌||◌, List, [], ◌∷◌, length, Some, None, Option, ◌==◌, nat_le}
use Rattle.ranking.specs.Place.{place, head_of}
use Rattle.market.specs.declared.types.Side.{Side}
use Rattle.market.specs.declared.types.Kind.{Kind}
use Rattle.market.specs.declared.types.Resting.{Resting}
use Rattle.market.specs.declared.types.Quotation.{Quotation}
use Rattle.market.specs.declared.types.Order.{Order}
use Rattle.market.specs.declared.types.Report.{Report}
use Rattle.market.specs.declared.types.Reason.TheVariants.{Unfilled, WouldLock, NoRoute, SideFull}
use Rattle.market.specs.declared.types.Move.{Move}
use Rattle.market.specs.declared.types.Move.TheVariants.{Trade, Send, TakeOff, Rest}
use Rattle.market.specs.Sides.{across_of, ahead, within, resting_before, route_before}
use Rattle.market.specs.Legal.{goes_out, trades_past, never_rests, never_locks}
use Rattle.market.specs.Numbers.{after}
use Rattle.market.specs.States.{State, Quotes, state, on, put, quoted, put_quotes}
use Rattle.market.specs.Orders.{traded, rested, routed, remaining}
use Rattle.market.specs.Reports.{trade_report, sent_report, off_hand, rest_report}
use Rattle.market.specs.Quotes.{lessened}

-- some quotation is better than the price
abbrev pub any_better : Side → ℕ → List Quotation → Bool
any_better d p [] = false
any_better d p (q ∷ qs) = ahead d q.price p || any_better d p qs

-- the first resting order, or quotation, is within the order's limit
abbrev pub resting_near : Order → Option Resting → Bool
resting_near o None = false
resting_near o (Some p) = within o.side o.limit p.price

abbrev pub quotation_near : Order → Option Quotation → Bool
quotation_near o None = false
quotation_near o (Some q) = within o.side o.limit q.price

-- no route can be opened
abbrev pub no_route : State → Bool
no_route s = nat_le 64 (length s.routes) || s.next == 0

-- the side has 256 resting orders
abbrev pub side_full : Side → State → Bool
side_full d s = nat_le 256 (length (on d s))

-- rules 3 to 6: an order that never rests goes; one that would lock goes; a full side takes no more; else it rests
abbrev pub ends : Bool → Bool → Kind → Move
ends near full k = cond (never_rests k) (TakeOff Unfilled) (cond (never_locks k && near) (TakeOff WouldLock) (cond full (TakeOff SideFull) Rest))

-- rule 2: an order that goes out is sent to the first quotation within its limit
abbrev pub sends : Order → Option Quotation → Bool → Move → Move
sends o None unable m = m
sends o (Some q) unable m = cond (goes_out o.kind && within o.side o.limit q.price) (cond unable (TakeOff NoRoute) (Send q)) m

-- rule 1: the first resting order across is within the limit, and the kind trades past or no quotation is better
abbrev pub trades : Order → Option Resting → List Quotation → Move → Move
trades o None qs m = m
trades o (Some p) qs m =
    cond (within o.side o.limit p.price && (trades_past o.kind || not (any_better (across_of o.side) p.price qs))) (Trade p.number p.price p.shown) m

-- the first rule that applies
abbrev pub move_of : State → Quotes → Order → Move
move_of s q o =
    trades o (head_of (on (across_of o.side) s)) (quoted (across_of o.side) q)
    (sends o (head_of (quoted (across_of o.side) q)) (no_route s)
    (ends (resting_near o (head_of (on (across_of o.side) s)) || quotation_near o (head_of (quoted (across_of o.side) q))) (side_full o.side s) o.kind))

-- a step done: its report, book and board afterwards, and what is left in hand
pub record Step : Type 0 where
  pub report : Report
  pub state : State
  pub quotes : Quotes
  pub left : Option Order

abbrev pub act : Move → State → Quotes → Order → Step
act (Trade n price shown) s q o = record {
  report = trade_report o n price (min o.shares shown);
  state = put (across_of o.side) (traded (across_of o.side) (min o.shares shown) (on (across_of o.side) s)) s;
  quotes = q;
  left = remaining (min o.shares shown) o;
}
act (Send x) s q o = record {
  report = sent_report o x s.next (min o.shares x.size);
  state = state s.buys s.sells (place route_before (routed o x s.next (min o.shares x.size)) s.routes) (after s.next);
  quotes = put_quotes (across_of o.side) (lessened x.venue (min o.shares x.size) (quoted (across_of o.side) q)) q;
  left = remaining (min o.shares x.size) o;
}
act (TakeOff why) s q o = record { report = off_hand why o; state = s; quotes = q; left = None }
act Rest s q o = record {
  report = rest_report o;
  state = put o.side (place (resting_before o.side) (rested o) (on o.side s)) s;
  quotes = q;
  left = None;
}

abbrev pub step : State → Quotes → Order → Step
step s q o = act (move_of s q o) s q o

-- steps one after another, until the order is done or n steps are done
pub record Run : Type 0 where
  pub reports : List Report
  pub state : State
  pub quotes : Quotes
  pub left : Option Order

abbrev pub then_run : Report → Run → Run
then_run r t = record { reports = r ∷ t.reports; state = t.state; quotes = t.quotes; left = t.left }

abbrev pub run : ℕ → Option Order → State → Quotes → Run
run n None s q = record { reports = []; state = s; quotes = q; left = None }
run zero (Some o) s q = record { reports = []; state = s; quotes = q; left = Some o }
run (suc n) (Some o) s q = then_run (step s q o).report (run n (step s q o).left (step s q o).state (step s q o).quotes)

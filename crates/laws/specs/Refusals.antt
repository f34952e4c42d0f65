-- Which check of a call fails first: the refusal that the call answers with.
use Rattle.std.specs.Prelude.{ℕ, List, [], ◌∷◌, Some, None, Option, nat_le, nat_lt}
use Rattle.ranking.specs.Place.{Spot, locate}
use Rattle.market.specs.declared.types.Resting.{Resting}
use Rattle.market.specs.declared.types.Route.{Route}
use Rattle.market.specs.declared.types.Order.{Order}
use Rattle.market.specs.declared.types.Refusal.{Refusal}
use Rattle.market.specs.declared.types.Refusal.TheVariants.{WrongPass, NotResting, CutTooLarge, NotOut, ReplyTooLarge, NothingResting, NoPass}
use Rattle.market.specs.declared.types.Call.{Call}
use Rattle.market.specs.declared.types.Call.TheVariants.{Enter, Work, Cut, Cancel, Replace, Reply, Close, Expire}
use Rattle.market.specs.States.{State, route_bears, fits}
use Rattle.market.specs.Orders.{total}
use Rattle.market.specs.Calls.{Pass, ready, ended, in_hand, unless, or_else, terms_refusal, numbers_refusal, enter_refusal, cancel_refusal, cut_refusal, found_refusal, Place, find}

-- 6, 7: the order is there, and has more shares than are cut
abbrev pub cut_found : ℕ → Option Place → Option Refusal
cut_found k None = Some NotResting
cut_found k (Some p) = unless (nat_lt k (total p.spot.line)) CutTooLarge

-- 8, 9: the route is open, and has as many shares out as are filled
abbrev pub reply_found : ℕ → Option (Spot Route) → Option Refusal
reply_found k None = Some NotOut
reply_found k (Some r) = unless (nat_le k r.line.out) ReplyTooLarge

-- 13: something rests
abbrev pub expire_found : List Resting → List Resting → Option Refusal
expire_found [] [] = Some NothingResting
expire_found [] (y ∷ ys) = None
expire_found (x ∷ xs) ys = None

-- the checks of each call, in their order; a call that is not open to the pass is refused with 47
abbrev pub fails_ready : Call → State → Option Refusal
fails_ready (Enter d t) s = enter_refusal t s
fails_ready (Cut k user n) s = or_else (cut_refusal k user) (cut_found k (find user n s))
fails_ready (Cancel user n) s = or_else (cancel_refusal user) (found_refusal (find user n s))
fails_ready (Replace t n) s = or_else (terms_refusal t) (or_else (found_refusal (find t.user n s)) (numbers_refusal s))
fails_ready (Reply k n) s = reply_found k (locate (route_bears n) s.routes)
fails_ready Close s = None
fails_ready Work s = Some NoPass
fails_ready Expire s = Some NoPass

abbrev pub fails_in_hand : Order → Call → State → Option Refusal
fails_in_hand o Work s = unless (fits o.number s) WrongPass
fails_in_hand o (Enter d t) s = Some NoPass
fails_in_hand o (Cut k user n) s = Some NoPass
fails_in_hand o (Cancel user n) s = Some NoPass
fails_in_hand o (Replace t n) s = Some NoPass
fails_in_hand o (Reply k n) s = Some NoPass
fails_in_hand o Close s = Some NoPass
fails_in_hand o Expire s = Some NoPass

abbrev pub fails_ended : Call → State → Option Refusal
fails_ended (Reply k n) s = reply_found k (locate (route_bears n) s.routes)
fails_ended Expire s = expire_found s.buys s.sells
fails_ended (Enter d t) s = Some NoPass
fails_ended (Cut k user n) s = Some NoPass
fails_ended (Cancel user n) s = Some NoPass
fails_ended (Replace t n) s = Some NoPass
fails_ended Work s = Some NoPass
fails_ended Close s = Some NoPass

-- the first check that fails, if any does
abbrev pub first_failed : Call → State → Pass → Option Refusal
first_failed c s ready = fails_ready c s
first_failed c s (in_hand o) = fails_in_hand o c s
first_failed c s ended = fails_ended c s

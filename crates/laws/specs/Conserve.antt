-- No share is lost: what was entered is traded (twice, once for each order), filled away, taken off, resting, sent out or in hand.
use Rattle.std.specs.Prelude.{◌≡◌, ℕ, ◌+◌, ◌*◌, List, [], ◌∷◌}
use Rattle.market.specs.declared.types.Resting.{Resting}
use Rattle.market.specs.declared.types.Route.{Route}
use Rattle.market.specs.declared.types.Report.{Report}
use Rattle.market.specs.declared.types.What.{What}
use Rattle.market.specs.declared.types.What.TheVariants.{In, Trade, Sent, Rest, Off, Back}
use Rattle.market.specs.declared.types.Call.{Call}
use Rattle.market.specs.declared.types.Call.TheVariants.{Enter, Work, Cut, Cancel, Replace, Reply, Close, Expire}
use Rattle.market.specs.States.{State, new_state}
use Rattle.market.specs.Orders.{total}
use Rattle.market.specs.Calls.{Pass, ready, ended, in_hand, Says, reports, refused}
use Rattle.laws.specs.Strings.{Turn, does, state_after, pass_after, said}

-- shares resting, displayed and held
abbrev pub resting : List Resting → ℕ
resting [] = 0
resting (p ∷ ps) = total p + resting ps

-- shares sent out
abbrev pub sent_out : List Route → ℕ
sent_out [] = 0
sent_out (r ∷ rs) = r.out + sent_out rs

abbrev pub shares_in_hand : Pass → ℕ
shares_in_hand ready = 0
shares_in_hand ended = 0
shares_in_hand (in_hand o) = o.shares

-- the shares of the reports of one kind
abbrev pub trade_shares : What → ℕ → ℕ
trade_shares (Trade m) n = n
trade_shares In n = 0
trade_shares (Sent v) n = 0
trade_shares (Rest held) n = 0
trade_shares (Off why) n = 0
trade_shares (Back unfilled v) n = 0

abbrev pub back_shares : What → ℕ → ℕ
back_shares (Back unfilled v) n = n
back_shares In n = 0
back_shares (Trade m) n = 0
back_shares (Sent v) n = 0
back_shares (Rest held) n = 0
back_shares (Off why) n = 0

abbrev pub off_shares : What → ℕ → ℕ
off_shares (Off why) n = n
off_shares In n = 0
off_shares (Trade m) n = 0
off_shares (Sent v) n = 0
off_shares (Rest held) n = 0
off_shares (Back unfilled v) n = 0

abbrev pub sum_of : (What → ℕ → ℕ) → List Report → ℕ
sum_of f [] = 0
sum_of f (r ∷ rs) = f r.what r.shares + sum_of f rs

abbrev pub sum_said : (What → ℕ → ℕ) → List Says → ℕ
sum_said f [] = 0
sum_said f (reports rs ∷ ss) = sum_of f rs + sum_said f ss
sum_said f (refused n ∷ ss) = sum_said f ss

-- traded, filled away and taken off: the shares of the trade, back and off reports
abbrev pub traded : List Says → ℕ
traded = sum_said trade_shares

abbrev pub filled_away : List Says → ℕ
filled_away = sum_said back_shares

abbrev pub taken_off : List Says → ℕ
taken_off = sum_said off_shares

-- entered: the sizes of accepted enters and replaces
abbrev pub accepted : Says → ℕ → ℕ
accepted (reports rs) n = n
accepted (refused m) n = 0

abbrev pub entered_by : Call → Says → ℕ
entered_by (Enter d t) s = accepted s t.size
entered_by (Replace t n) s = accepted s t.size
entered_by Work s = 0
entered_by (Cut k user n) s = 0
entered_by (Cancel user n) s = 0
entered_by (Reply k n) s = 0
entered_by Close s = 0
entered_by Expire s = 0

abbrev pub entered : List Turn → State → Pass → ℕ
entered [] s p = 0
entered (t ∷ ts) s p = entered_by t.call (does t s p).says + entered ts (does t s p).state (does t s p).pass

-- all the shares that a book and its pass have
abbrev pub holds : State → Pass → ℕ
holds s p = resting s.buys + resting s.sells + sent_out s.routes + shares_in_hand p

-- THE LAW: from a new book, after any succession of calls, over every board, with quotations changed in any way between calls
abbrev pub SharesConserved : Type 0
SharesConserved =
    (n : ℕ) (ts : List Turn) →
    let s : State = new_state n in
    entered ts s ready
    ≡ 2 * traded (said ts s ready) + filled_away (said ts s ready) + taken_off (said ts s ready)
    + (resting (state_after ts s ready).buys + resting (state_after ts s ready).sells)
    + sent_out (state_after ts s ready).routes + shares_in_hand (pass_after ts s ready)

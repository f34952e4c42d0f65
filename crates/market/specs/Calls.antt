-- Every call, as one function of the book, the board and the pass.
use Rattle.std.specs.Prelude.{ℕ, Bool, cond, not, List, [], ◌∷◌, ◌++◌, Some, None, Ok, Err, Option, Result, ◌==◌, nat_le, nat_lt}
use Rattle.ranking.specs.Place.{Spot, locate}
use Rattle.market.specs.declared.types.Side.{Side}
use Rattle.market.specs.declared.types.Side.TheVariants.{Buy, Sell}
use Rattle.market.specs.declared.types.Resting.{Resting}
use Rattle.market.specs.declared.types.Route.{Route}
use Rattle.market.specs.declared.types.Order.{Order}
use Rattle.market.specs.declared.types.Terms.{Terms}
use Rattle.market.specs.declared.types.Report.{Report}
use Rattle.market.specs.declared.types.Reason.TheVariants.{Cancelled, Cut as Trimmed, Replaced, Expired}
use Rattle.market.specs.declared.types.Refusal.{Refusal}
use Rattle.market.specs.declared.types.Refusal.TheVariants.{WrongPass, User, Size, Price, Show, NotResting, CutTooLarge, NotOut, ReplyTooLarge, NumbersUsedUp, NothingResting, NoPass}
use Rattle.market.specs.declared.types.Call.{Call}
use Rattle.market.specs.declared.types.Call.TheVariants.{Enter, Work, Cut, Cancel, Replace, Reply, Close, Expire}
use Rattle.market.specs.Legal.{legal_price, legal_size, legal_user, legal_show}
use Rattle.market.specs.States.{State, Quotes, put, with_routes, numbered, owned, route_bears, fits}
use Rattle.market.specs.Orders.{total, trimmed, entered, returned}
use Rattle.market.specs.Reports.{refusal_number, in_report, off_report, off_hand, back_report}
use Rattle.market.specs.Steps.{Step, step}

-- the pass: who may call next
pub data Pass : Type 0 where
  ready ended : Pass
  in_hand : Order → Pass

-- what a call says: its reports, or the number of its refusal
pub data Says : Type 0 where
  reports : List Report → Says
  refused : ℕ → Says

pub record Outcome : Type 0 where
  pub says : Says
  pub state : State
  pub quotes : Quotes
  pub pass : Pass

-- a refusal alters nothing and returns the pass
abbrev pub refuse : Refusal → State → Quotes → Pass → Outcome
refuse why s q p = record { says = refused (refusal_number why); state = s; quotes = q; pass = p }

abbrev pub answer : List Report → State → Quotes → Pass → Outcome
answer rs s q p = record { says = reports rs; state = s; quotes = q; pass = p }

-- checks, one after another: the first that fails refuses
abbrev pub unless : Bool → Refusal → Option Refusal
unless ok why = cond ok None (Some why)

-- what a check answers
abbrev pub verdict : Option Refusal → Result (Unit {0}) Refusal
verdict None = Ok tt
verdict (Some why) = Err why

abbrev pub or_else : Option Refusal → Option Refusal → Option Refusal
or_else (Some why) o = Some why
or_else None o = o

abbrev pub checked : Option Refusal → State → Quotes → Pass → Outcome → Outcome
checked (Some why) s q p o = refuse why s q p
checked None s q p o = o

-- the checks of an entry's terms: 2, 3, 4, 5
abbrev pub terms_refusal : Terms → Option Refusal
terms_refusal t =
    or_else (unless (legal_user t.user) User)
    (or_else (unless (legal_size t.size) Size)
    (or_else (unless (legal_price t.price) Price)
    (unless (legal_show t.size t.show t.kind) Show)))

-- 10
abbrev pub numbers_refusal : State → Option Refusal
numbers_refusal s = unless (not (s.next == 0)) NumbersUsedUp

-- enter: 2, 3, 4, 5, 10
abbrev pub enter_refusal : Terms → State → Option Refusal
enter_refusal t s = or_else (terms_refusal t) (numbers_refusal s)

-- accepted: the next number is given, and the order is in hand
abbrev pub admit : List Report → Side → Terms → State → Quotes → Outcome
admit before d t s q = answer (before ++ in_report (entered d t s.next) ∷ []) (numbered s) q (in_hand (entered d t s.next))

abbrev pub enter_call : Side → Terms → State → Quotes → Outcome
enter_call d t s q = checked (enter_refusal t s) s q ready (admit [] d t s q)

-- a resting order found, with its side
pub record Place : Type 0 where
  pub side : Side
  pub spot : Spot Resting

abbrev pub either : Option (Spot Resting) → Option (Spot Resting) → Option Place
either (Some s) o = Some (record { side = Buy; spot = s })
either None (Some s) = Some (record { side = Sell; spot = s })
either None None = None

-- the resting order of this user and number
abbrev pub find : ℕ → ℕ → State → Option Place
find user n s = either (locate (owned user n) s.buys) (locate (owned user n) s.sells)

abbrev pub found_refusal : Option Place → Option Refusal
found_refusal None = Some NotResting
found_refusal (Some p) = None

abbrev pub taken_out : Place → State → State
taken_out p s = put p.side (p.spot.front ++ p.spot.rest) s

abbrev pub changed_to : Resting → Place → State → State
changed_to x p s = put p.side (p.spot.front ++ x ∷ p.spot.rest) s

-- cancel: 2, 6
abbrev pub cancel_at : Option Place → State → Quotes → Outcome
cancel_at None s q = refuse NotResting s q ready
cancel_at (Some p) s q = answer (off_report Cancelled (total p.spot.line) p.side p.spot.line ∷ []) (taken_out p s) q ready

abbrev pub cancel_refusal : ℕ → Option Refusal
cancel_refusal user = unless (legal_user user) User

abbrev pub cancel_call : ℕ → ℕ → State → Quotes → Outcome
cancel_call user n s q = checked (cancel_refusal user) s q ready (cancel_at (find user n s) s q)

-- cut: 2, 3, 6, 7; the order keeps its place
abbrev pub cut_at : ℕ → Option Place → State → Quotes → Outcome
cut_at k None s q = refuse NotResting s q ready
cut_at k (Some p) s q =
    cond (nat_lt k (total p.spot.line))
    (answer (off_report Trimmed k p.side p.spot.line ∷ []) (changed_to (trimmed k p.spot.line) p s) q ready)
    (refuse CutTooLarge s q ready)

abbrev pub cut_refusal : ℕ → ℕ → Option Refusal
cut_refusal k user = or_else (unless (legal_user user) User) (unless (legal_size k) Size)

abbrev pub cut_call : ℕ → ℕ → ℕ → State → Quotes → Outcome
cut_call k user n s q = checked (cut_refusal k user) s q ready (cut_at k (find user n s) s q)

-- replace: 2, 3, 4, 5, 6, 10; off, then in, both or neither
abbrev pub replace_at : Terms → Option Place → State → Quotes → Outcome
replace_at t None s q = refuse NotResting s q ready
replace_at t (Some p) s q =
    checked (numbers_refusal s) s q ready (admit (off_report Replaced (total p.spot.line) p.side p.spot.line ∷ []) p.side t (taken_out p s) q)

abbrev pub replace_call : Terms → ℕ → State → Quotes → Outcome
replace_call t n s q = checked (terms_refusal t) s q ready (replace_at t (find t.user n s) s q)

-- reply: 8, 9; under Ready the unfilled shares return in hand, under Ended they are taken off
abbrev pub unrouted : Spot Route → State → State
unrouted r s = with_routes (r.front ++ r.rest) s

abbrev pub hand_back : ℕ → Route → Pass
hand_back k r = cond (r.out == k) ready (in_hand (returned k r))

abbrev pub reply_at : ℕ → Option (Spot Route) → State → Quotes → Outcome
reply_at k None s q = refuse NotOut s q ready
reply_at k (Some r) s q =
    cond (nat_le k r.line.out) (answer (back_report k r.line ∷ []) (unrouted r s) q (hand_back k r.line)) (refuse ReplyTooLarge s q ready)

abbrev pub late_reports : ℕ → Route → List Report
late_reports k r = back_report k r ∷ cond (r.out == k) [] (off_hand Expired (returned k r) ∷ [])

abbrev pub late_reply_at : ℕ → Option (Spot Route) → State → Quotes → Outcome
late_reply_at k None s q = refuse NotOut s q ended
late_reply_at k (Some r) s q =
    cond (nat_le k r.line.out) (answer (late_reports k r.line) (unrouted r s) q ended) (refuse ReplyTooLarge s q ended)

abbrev pub reply_call : ℕ → ℕ → State → Quotes → Outcome
reply_call k n s q = reply_at k (locate (route_bears n) s.routes) s q

abbrev pub late_reply_call : ℕ → ℕ → State → Quotes → Outcome
late_reply_call k n s q = late_reply_at k (locate (route_bears n) s.routes) s q

-- close: Ready becomes Ended
abbrev pub close_call : State → Quotes → Outcome
close_call s q = answer [] s q ended

-- expire: 13; the first buy, else the first sell
abbrev pub expire_from : List Resting → List Resting → State → Quotes → Outcome
expire_from [] [] s q = refuse NothingResting s q ended
expire_from [] (p ∷ ps) s q = answer (off_report Expired (total p) Sell p ∷ []) (put Sell ps s) q ended
expire_from (p ∷ ps) ys s q = answer (off_report Expired (total p) Buy p ∷ []) (put Buy ps s) q ended

abbrev pub expire_call : State → Quotes → Outcome
expire_call s q = expire_from s.buys s.sells s q

-- work: 1; one step
abbrev pub held_by : Option Order → Pass
held_by None = ready
held_by (Some o) = in_hand o

abbrev pub stepped : Step → Outcome
stepped t = answer (t.report ∷ []) t.state t.quotes (held_by t.left)

abbrev pub work_call : Order → State → Quotes → Outcome
work_call o s q = cond (fits o.number s) (stepped (step s q o)) (refuse WrongPass s q (in_hand o))

-- a call with the book's own pass; a call without its pass is refused with 47
abbrev pub when_ready : Call → State → Quotes → Outcome
when_ready (Enter d t) s q = enter_call d t s q
when_ready Work s q = refuse NoPass s q ready
when_ready (Cut k user n) s q = cut_call k user n s q
when_ready (Cancel user n) s q = cancel_call user n s q
when_ready (Replace t n) s q = replace_call t n s q
when_ready (Reply k n) s q = reply_call k n s q
when_ready Close s q = close_call s q
when_ready Expire s q = refuse NoPass s q ready

abbrev pub when_in_hand : Order → Call → State → Quotes → Outcome
when_in_hand o Work s q = work_call o s q
when_in_hand o (Enter d t) s q = refuse NoPass s q (in_hand o)
when_in_hand o (Cut k user n) s q = refuse NoPass s q (in_hand o)
when_in_hand o (Cancel user n) s q = refuse NoPass s q (in_hand o)
when_in_hand o (Replace t n) s q = refuse NoPass s q (in_hand o)
when_in_hand o (Reply k n) s q = refuse NoPass s q (in_hand o)
when_in_hand o Close s q = refuse NoPass s q (in_hand o)
when_in_hand o Expire s q = refuse NoPass s q (in_hand o)

abbrev pub when_ended : Call → State → Quotes → Outcome
when_ended (Reply k n) s q = late_reply_call k n s q
when_ended Expire s q = expire_call s q
when_ended Work s q = refuse NoPass s q ended
when_ended (Enter d t) s q = refuse NoPass s q ended
when_ended (Cut k user n) s q = refuse NoPass s q ended
when_ended (Cancel user n) s q = refuse NoPass s q ended
when_ended (Replace t n) s q = refuse NoPass s q ended
when_ended Close s q = refuse NoPass s q ended

abbrev pub call : Quotes → Call → State → Pass → Outcome
call q c s ready = when_ready c s q
call q c s (in_hand o) = when_in_hand o c s q
call q c s ended = when_ended c s q

-- What a caller sees of a call, as the model's outcome.
use Rattle.std.specs.Prelude.{ℕ, List, [], ◌∷◌, Some, None, Ok, Err, Option, Result, ◌==◌}
use Rattle.std.specs.Option.{option_map}
use Rattle.market.specs.declared.types.Call.{Call}
use Rattle.market.specs.declared.types.Order.{Order}
use Rattle.market.specs.declared.types.Report.{Report}
use Rattle.market.specs.declared.types.Reason.TheVariants.{Expired}
use Rattle.market.specs.declared.types.Refusal.{Refusal}
use Rattle.market.specs.declared.types.Refusal.TheVariants.{WrongPass}
use Rattle.market.specs.States.{State, Quotes}
use Rattle.market.specs.Reports.{off_hand}
use Rattle.market.specs.Calls.{Pass, ready, ended, in_hand, Outcome, refuse, answer, unless, checked, call, held_by}
use Rattle.resting.specs.Orders.{state_of}
use Rattle.book.specs.declared.book.Book.{Book}
use Rattle.book.specs.declared.passes.Ready.{Ready}
use Rattle.book.specs.declared.passes.InHand.{InHand}
use Rattle.book.specs.declared.passes.Ended.{Ended}
use Rattle.book.specs.declared.passes.Refused.{Refused}
use Rattle.book.specs.declared.passes.Next.{Next}
use Rattle.book.specs.declared.passes.Next.TheVariants.{Done, More}

abbrev pub book_state : Book → State
book_state b = state_of b.orders

-- the numbers that a book and its passes bear
abbrev pub id_of : Book → ℕ
id_of b = b.id

abbrev pub ready_book : Ready → ℕ
ready_book p = p.book

abbrev pub hand_book : InHand → ℕ
hand_book p = p.book

abbrev pub ended_book : Ended → ℕ
ended_book p = p.book

abbrev pub order_of : InHand → Order
order_of p = p.order

-- what a caller has of a call: the outcome, with the number that the book bears afterwards and the number that the pass bears
pub record Seen : Type 0 where
  pub book : ℕ
  pub bears : ℕ
  pub outcome : Outcome

-- what is seen of the book b afterwards, where the pass bears this number
abbrev pub seen : Book → ℕ → Outcome → Seen
seen b bears o = record { book = b.id; bears = bears; outcome = o }

-- a call on the book b with a pass that bears a number: another book's pass is refusal 1, before all others; both numbers stay
abbrev pub own_call : Book → ℕ → Quotes → Call → Pass → Seen
own_call b bears q c p = seen b bears (checked (unless (bears == b.id) WrongPass) (book_state b) q p (call q c (book_state b) p))

-- what the pass that comes back has in hand
abbrev pub left_in : Next → Option Order
left_in (Done r) = None
left_in (More h) = Some h.order

abbrev pub next_pass : Next → Pass
next_pass next = held_by (left_in next)

abbrev pub next_book : Next → ℕ
next_book (Done r) = r.book
next_book (More h) = h.book

-- refused: the reason, with the pass handed back
abbrev pub refused_as : Refused Ready → Book → Quotes → Seen
refused_as r b q = seen b r.pass.book (refuse r.why (book_state b) q ready)

-- a call that may be refused, with the pass handed back where it is
abbrev pub or_back : {T : Type 0} → Ready → Result T Refusal → Result T (Refused Ready)
or_back p (Ok x) = Ok x
or_back p (Err why) = Err (record { why = why; pass = p })

-- enter
abbrev pub entered_as : Result (InHand × Report) (Refused Ready) → Book → Quotes → Seen
entered_as (Ok (hand, report)) b q = seen b hand.book (answer (report ∷ []) (book_state b) q (in_hand hand.order))
entered_as (Err r) b q = refused_as r b q

-- replace: off, then in
abbrev pub replaced_as : Result (InHand × Report × Report) (Refused Ready) → Book → Quotes → Seen
replaced_as (Ok (hand, off, entered)) b q = seen b hand.book (answer (off ∷ entered ∷ []) (book_state b) q (in_hand hand.order))
replaced_as (Err r) b q = refused_as r b q

-- cut, cancel and expire, which only borrow their pass p and the number that it bears
abbrev pub reported_as : Pass → ℕ → Result Report Refusal → Book → Quotes → Seen
reported_as p bears (Ok report) b q = seen b bears (answer (report ∷ []) (book_state b) q p)
reported_as p bears (Err why) b q = seen b bears (refuse why (book_state b) q p)

-- reply under Ready: the back, and what comes back in hand
abbrev pub returning : Result (Report × Option Order) Refusal → State → Quotes → Outcome
returning (Ok (back, left)) s q = answer (back ∷ []) s q (held_by left)
returning (Err why) s q = refuse why s q ready

abbrev pub replied_as : Result (Next × Report) (Refused Ready) → Book → Quotes → Seen
replied_as (Ok (next, back)) b q = seen b (next_book next) (returning (Ok (back, left_in next)) (book_state b) q)
replied_as (Err r) b q = refused_as r b q

-- reply under Ended: the back, then the off of what comes back unfilled, if any
abbrev pub late_list : Option Report → List Report
late_list None = []
late_list (Some off) = off ∷ []

abbrev pub late_as : ℕ → Result (Report × Option Report) Refusal → Book → Quotes → Seen
late_as bears (Ok (report, off)) b q = seen b bears (answer (report ∷ late_list off) (book_state b) q ended)
late_as bears (Err why) b q = seen b bears (refuse why (book_state b) q ended)

-- what comes back under Ended, taken off
abbrev pub lapsed : Result (Report × Option Order) Refusal → Result (Report × Option Report) Refusal
lapsed (Ok (back, left)) = Ok (back, option_map (off_hand Expired) left)
lapsed (Err why) = Err why

-- close
abbrev pub closed_as : Result Ended (Refused Ready) → Book → Quotes → Seen
closed_as (Ok e) b q = seen b e.book (answer [] (book_state b) q ended)
closed_as (Err r) b q = refused_as r b q

-- work
abbrev pub worked_as : Result (Next × Report) (Refused InHand) → Book → Quotes → Seen
worked_as (Ok (next, report)) b q = seen b (next_book next) (answer (report ∷ []) (book_state b) q (next_pass next))
worked_as (Err r) b q = seen b r.pass.book (refuse r.why (book_state b) q (in_hand r.pass.order))

-- What work and work on do.
use Rattle.std.specs.Prelude.{◌≡◌, ℕ, Bool, true, false, ◌&&◌, List, ◌++◌, length, drop, Some, Ok, Err, Option, Result, ◌==◌}
use Rattle.market.specs.declared.types.Order.{Order}
use Rattle.market.specs.declared.types.Report.{Report}
use Rattle.market.specs.declared.types.Refusal.TheVariants.{WrongPass}
use Rattle.market.specs.States.{State, Quotes, fits}
use Rattle.market.specs.Steps.{Step, Run, run}
use Rattle.book.specs.Outcomes.{book_state, next_book, left_in}
use Rattle.book.specs.declared.book.Book.{Book}
use Rattle.book.specs.declared.passes.InHand.{InHand}
use Rattle.book.specs.declared.passes.Refused.{Refused}
use Rattle.book.specs.declared.passes.Next.{Next}

-- a step done: what is reported, what is left in hand, and book and board afterwards
abbrev pub Did : Step → Book → Book → Quotes → Report × Option Order → Type 0
Did t b b' q' r = (b'.id ≡ b.id) × (r.0 ≡ t.report) × (r.1 ≡ t.left) × (book_state b' ≡ t.state) × (q' ≡ t.quotes)

-- the pass is this book's, and its number given and free
abbrev pub accepts : Book → InHand → Bool
accepts b h = h.book == b.id && fits h.order.number (book_state b)

-- an accepted pass is the same pass, and a refused one is handed back
abbrev pub Accepted : Book → InHand → Result InHand (Refused InHand) → Type 0
Accepted b h (Ok h') = (accepts b h ≡ true) × (h' ≡ h)
Accepted b h (Err r) = (accepts b h ≡ false) × (r.why ≡ WrongPass) × (r.pass ≡ h)

-- a run of steps: its reports stand at the front of the list, n of them, and what stood behind stays
pub record Ran (t : Run) (s' : State) (q' : Quotes) (l l' : List Report) (n : ℕ) (left : Option Order) : Type 0 where
  pub count : n ≡ length t.reports
  pub list : l' ≡ t.reports ++ drop n l
  pub hand : left ≡ t.left
  pub book : s' ≡ t.state
  pub board : q' ≡ t.quotes

-- work on
--   1. accepted: as many steps as the list has room for, or until the order is done
--   2. refused: nothing has changed
abbrev pub WorksOn : InHand → Book → Book → Quotes → Quotes → List Report → List Report → Result (Next × ℕ) (Refused InHand) → Type 0
WorksOn h b b' q q' l l' (Ok (next, n)) =
    (accepts b h ≡ true) × (b'.id ≡ b.id) × (next_book next ≡ h.book) × Ran (run (length l) (Some h.order) (book_state b) q) (book_state b') q' l l' n (left_in next)
WorksOn h b b' q q' l l' (Err r) = (accepts b h ≡ false) × (r.why ≡ WrongPass) × (r.pass ≡ h) × (b' ≡ b) × (q' ≡ q) × (l' ≡ l)

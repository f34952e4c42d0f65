-- What several calls do alike: a resting order is taken off, or an order is taken in hand.
use Rattle.std.specs.Prelude.{◌≡◌}
use Rattle.market.specs.declared.types.Side.{Side}
use Rattle.market.specs.declared.types.Resting.{Resting}
use Rattle.market.specs.declared.types.Order.{Order}
use Rattle.market.specs.declared.types.Terms.{Terms}
use Rattle.market.specs.declared.types.Report.{Report}
use Rattle.market.specs.declared.types.Reason.{Reason}
use Rattle.market.specs.States.{State, numbered}
use Rattle.market.specs.Orders.{total, entered}
use Rattle.market.specs.Reports.{in_report, off_report}
use Rattle.market.specs.Calls.{Place, taken_out}
use Rattle.resting.specs.Orders.{at_place}
use Rattle.resting.specs.declared.orders.looks.Standing.{Standing}
use Rattle.book.specs.declared.book.Book.{Book}
use Rattle.book.specs.Outcomes.{book_state}

-- the order p found in a book, taken off: it goes, with a report of all its shares
abbrev pub Removes : Reason → Place → State → State → Report → Type 0
Removes why p s s' r = (r ≡ off_report why (total p.spot.line) p.side p.spot.line) × (s' ≡ taken_out p s)

-- the order that stands at a place of a book, taken off (x only fills in past the end)
abbrev pub TakesOff : Reason → Standing → Book → Book → Report → Type 0
TakesOff why at b b' r = (b'.id ≡ b.id) × ((x : Resting) → Removes why (at_place at.side at.place (book_state b) x) (book_state b) (book_state b') r)

-- an order in hand under the next number, with its report
abbrev pub Admits : Side → Terms → Book → Book → Order × Report → Type 0
Admits d t b b' r =
    (b'.id ≡ b.id) × (r.0 ≡ entered d t (book_state b).next) × (r.1 ≡ in_report (entered d t (book_state b).next)) × (book_state b' ≡ numbered (book_state b))

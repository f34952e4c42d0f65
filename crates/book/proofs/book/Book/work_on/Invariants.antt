use Rattle.std.proofs.Common.{◌≡◌, ◌≤◌, true, length, Some}
use Rattle.market.specs.States.{quotes_of, fits}
use Rattle.market.specs.Steps.{run}
use Rattle.book.specs.Outcomes.{book_state}
use Rattle.book.proofs.Runs.{Along}
use Rattle.book.proofs.book.Book.work_on.Given as goal

abbrev pub invariant-loop-n : goal.invariant-loop-n
invariant-loop-n g l =
    (fits l.hand.order.number (book_state l.self) ≡ true) × (l.n ≤ length l.reports) × (l.self.id ≡ l.initial.self.id) × (l.hand.book ≡ l.initial.hand.book)
    × Along l.initial.reports (run (length l.initial.reports) (Some l.initial.hand.order) (book_state l.initial.self) (quotes_of (g.B.Board.bids l.initial.board) (g.B.Board.offers l.initial.board))) l.reports l.n (Some l.hand.order) (book_state l.self) (quotes_of (g.B.Board.bids l.board) (g.B.Board.offers l.board))

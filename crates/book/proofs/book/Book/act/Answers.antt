use Rattle.std.proofs.Common.{sym}
use Rattle.market.specs.Sides.{across_of}
use Rattle.soundness.proofs.Moves.{trade_when, send_when, rest_when}
use Rattle.book.specs.Outcomes.{book_state}
use Rattle.book.proofs.Hands.{shown_first}
use Rattle.book.proofs.book.Book.act.Goals as goal

pub trade-requires : goal.trade-requires
trade-requires g c =
    let h = trade_when (book_state c.args.self.now) _ c.args.hand.now.order c.in-Trade.number c.in-Trade.price c.in-Trade.shown (sym c.in-Trade.ensures) in
    shown_first _ h.0 c.in-Trade.shown h.1 h.5

pub send-requires : goal.send-requires
send-requires g c =
    let h = send_when (book_state c.args.self.now) _ c.args.hand.now.order c.in-Send.q (sym c.in-Send.ensures) in
    record { first = h.0; room = h.2; left = h.3 }

pub rest-requires : goal.rest-requires
rest-requires g c =
    let o = c.args.hand.now.order in
    let h = rest_when (book_state c.args.self.now) _ o (g.met.B.Board.ranked c.args.board.now (across_of o.side)) (sym c.in-Rest.ensures) in
    record { number = c.requires; room = h.1; clear = h.0 }

use Rattle.laws.proofs.Dealings.{remainder_never_grows}
use Rattle.table_board.specs.Quoting.{lists_of}
use Rattle.book.specs.declared.passes.Next.TheVariants.{Done, More}
use Rattle.book.specs.Outcomes.{book_state, order_of}
use Rattle.replay.specs.Desks.{held_working}
use Rattle.replay.specs.declared.desk.Stage.TheVariants.{Open}
use Rattle.replay.proofs.Boards.{table_shown}
use Rattle.replay.proofs.Calls.{made_next}
use Rattle.replay.proofs.Works.{onward_start, done, onward, left_is}
use Rattle.replay.proofs.desk.Desk.finish.Goals as goal

pub loop-worked-init : goal.loop-worked-init
loop-worked-init c = onward_start c.args.self.now c.args.hand c.requires

pub returns-in-Done : goal.returns-in-Done
returns-in-Done c =
    let l = c.loop-worked in
    let e = c.in-Ok.ensures in
    done c.args.hand l.hand (Open c.in-Done.ready) l.invariant (made_next c.in-Ok.worked.1 c.in-Ok.worked.0 (Done c.in-Done.ready) l.invariant.may.own e c.note.ensures c.in-Done.is)

pub loop-worked-smaller : goal.loop-worked-smaller
loop-worked-smaller c =
    let l = c.loop-worked in
    let e = c.in-Ok.ensures in
    let m = made_next {p = held_working l.hand} {d' = record { book = c.work.new.self; board = c.work.new.board; log = c.note.new.self }} c.in-Ok.worked.1 c.in-Ok.worked.0 (More c.in-More.rest) l.invariant.may.own e c.note.ensures c.in-More.is in
    (remainder_never_grows (book_state l.self.book) (lists_of l.self.board) (order_of l.hand) (order_of c.in-More.rest) (left_is c.args.hand l.hand c.in-More.rest l.invariant m)).1 l.hand.fit l.self.book.orders.sound (table_shown l.self.board)

pub loop-worked-preserved : goal.loop-worked-preserved
loop-worked-preserved c =
    let l = c.loop-worked in
    let e = c.in-Ok.ensures in
    onward c.args.hand l.hand c.in-More.rest l.invariant (made_next c.in-Ok.worked.1 c.in-Ok.worked.0 (More c.in-More.rest) l.invariant.may.own e c.note.ensures c.in-More.is)

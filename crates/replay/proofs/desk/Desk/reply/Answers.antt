use Rattle.market.specs.declared.types.Call.TheVariants.{Reply}
use Rattle.table_board.specs.Quoting.{lists_of}
use Rattle.book.specs.declared.passes.Next.TheVariants.{Done, More}
use Rattle.replay.specs.Desks.{held_working, held_between}
use Rattle.replay.specs.declared.desk.Stage.TheVariants.{Open}
use Rattle.replay.proofs.Calls.{handed_back, made_next, at_once, and_finished, may_work}
use Rattle.replay.proofs.desk.Desk.reply.Goals as goal

pub returns-in-Err : goal.returns-in-Err
returns-in-Err c =
    let e = c.in-Err.ensures in
    handed_back c.in-Err.refused c.turned_down.result c.reply.new.self c.args.self.now.board c.requires (e (lists_of c.args.self.now.board)) c.turned_down.ensures.pass c.turned_down.ensures.noted c.turned_down.ensures.book c.turned_down.ensures.board

pub finish-requires : goal.finish-requires
finish-requires c =
    let e = c.in-Ok.ensures in
    may_work (Reply c.args.filled c.args.number) c.args.self.now (held_between (Open c.args.pass)) c.in-More.hand (made_next c.in-Ok.report c.in-Ok.next (More c.in-More.hand) c.requires (e (lists_of c.args.self.now.board)) c.note.ensures c.in-More.is) c.requires tt

pub returns-in-More : goal.returns-in-More
returns-in-More c =
    let e = c.in-Ok.ensures in
    and_finished {p₁ = held_working c.in-More.hand} (made_next c.in-Ok.report c.in-Ok.next (More c.in-More.hand) c.requires (e (lists_of c.args.self.now.board)) c.note.ensures c.in-More.is) c.finish.ensures

pub returns-in-Done : goal.returns-in-Done
returns-in-Done c =
    let e = c.in-Ok.ensures in
    at_once (Open c.in-Done.back) (made_next c.in-Ok.report c.in-Ok.next (Done c.in-Done.back) c.requires (e (lists_of c.args.self.now.board)) c.note.ensures c.in-Done.is)

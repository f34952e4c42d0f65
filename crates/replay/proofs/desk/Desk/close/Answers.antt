use Rattle.std.proofs.Common.{[]}
use Rattle.market.specs.Calls.{reports}
use Rattle.table_board.specs.Quoting.{lists_of}
use Rattle.replay.specs.declared.desk.Stage.TheVariants.{Over}
use Rattle.replay.proofs.Notes.{noted_none}
use Rattle.replay.proofs.Calls.{handed_back, made, at_once}
use Rattle.replay.proofs.desk.Desk.close.Goals as goal

pub returns-in-Ok : goal.returns-in-Ok
returns-in-Ok c =
    let e = c.in-Ok.ensures in
    at_once (Over c.in-Ok.ended) (made (reports []) c.requires (e (lists_of c.args.self.now.board)) (noted_none c.args.self.now.log))

pub returns-in-Err : goal.returns-in-Err
returns-in-Err c =
    let e = c.in-Err.ensures in
    handed_back c.in-Err.refused c.turned_down.result c.close.new.self c.args.self.now.board c.requires (e (lists_of c.args.self.now.board)) c.turned_down.ensures.pass c.turned_down.ensures.noted c.turned_down.ensures.book c.turned_down.ensures.board

use Rattle.std.proofs.Common.{[], ◌∷◌}
use Rattle.market.specs.declared.types.Call.TheVariants.{Enter}
use Rattle.market.specs.Calls.{reports}
use Rattle.table_board.specs.Quoting.{lists_of}
use Rattle.replay.specs.Desks.{held_working, held_between}
use Rattle.replay.specs.declared.desk.Stage.TheVariants.{Open}
use Rattle.replay.proofs.Calls.{handed_back, made, and_finished, may_work}
use Rattle.replay.proofs.desk.Desk.enter.Goals as goal

pub returns-in-Err : goal.returns-in-Err
returns-in-Err c =
    let e = c.in-Err.ensures in
    handed_back c.in-Err.refused c.turned_down.result c.enter.new.self c.args.self.now.board c.requires (e (lists_of c.args.self.now.board)) c.turned_down.ensures.pass c.turned_down.ensures.noted c.turned_down.ensures.book c.turned_down.ensures.board

pub finish-requires : goal.finish-requires
finish-requires c =
    let e = c.in-Ok.ensures in
    may_work (Enter c.args.side c.args.t) c.args.self.now (held_between (Open c.args.pass)) c.in-Ok.hand (made (reports (c.in-Ok.report ∷ [])) c.requires (e (lists_of c.args.self.now.board)) c.note.ensures) c.requires tt

pub returns-in-Ok : goal.returns-in-Ok
returns-in-Ok c =
    let e = c.in-Ok.ensures in
    and_finished {p₁ = held_working c.in-Ok.hand} (made (reports (c.in-Ok.report ∷ [])) c.requires (e (lists_of c.args.self.now.board)) c.note.ensures) c.finish.ensures

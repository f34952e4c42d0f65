use Rattle.replay.specs.declared.desk.Stage.TheVariants.{Open}
use Rattle.table_board.specs.Quoting.{lists_of}
use Rattle.replay.proofs.Calls.{borrowed}
use Rattle.replay.proofs.desk.Desk.cut.Goals as goal

pub returns : goal.returns
returns c = borrowed (Open c.args.pass.now) c.cut.result c.requires (c.cut.ensures (lists_of c.args.self.now.board)) c.note.ensures

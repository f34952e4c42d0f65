use Rattle.replay.specs.declared.desk.Stage.TheVariants.{Over}
use Rattle.table_board.specs.Quoting.{lists_of}
use Rattle.replay.proofs.Calls.{borrowed}
use Rattle.replay.proofs.desk.Desk.expire.Goals as goal

pub returns : goal.returns
returns c = borrowed (Over c.args.pass.now) c.expire.result c.requires (c.expire.ensures (lists_of c.args.self.now.board)) c.note.ensures

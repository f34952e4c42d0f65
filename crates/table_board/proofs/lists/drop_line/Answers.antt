use Rattle.std.proofs.Common.{sym, ◌∙◌}
use Rattle.ranking.specs.Lists.{lines_of}
use Rattle.table_board.proofs.Finding.{none_dropped, dropped}
use Rattle.table_board.proofs.lists.drop_line.Goals as goal

pub returns-in-Some : goal.returns-in-Some
returns-in-Some c =
    let found = c.in-Some.ensures in
    c.remove.ensures.lines ∙ sym (dropped c.args.venue (lines_of c.args.lines.now) c.in-Some.place found.0 found.1 c.remove.result)

pub returns-in_default : goal.returns-in_default
returns-in_default c = sym (none_dropped c.args.venue (lines_of c.args.lines.now) c.in_default.ensures)

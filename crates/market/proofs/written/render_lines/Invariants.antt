use Rattle.std.proofs.Common.{string_bytes, take}
use Rattle.market.specs.Written.{LinesUnder}
use Rattle.market.proofs.written.render_lines.Given as goal

abbrev pub invariant-loop-item : goal.invariant-loop-item
invariant-loop-item g l = LinesUnder g.T.Display.output l.names (take l.item-index l.items) (string_bytes l.out)

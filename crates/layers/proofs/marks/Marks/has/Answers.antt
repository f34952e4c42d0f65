use Rattle.std.proofs.Common.{rules}
use Rattle.layers.proofs.Bits.{mark_had}
use Rattle.layers.proofs.marks.Marks.has.Goals as goal

pub returns : goal.returns
returns c = mark_had c.bit.result c.args.self.now c.args.venue c.is_ok_and.result c.bit.ensures (search rules)

use Rattle.layers.proofs.Bits.{mark_cleared}
use Rattle.layers.proofs.marks.Marks.clear.Goals as goal

pub returns : goal.returns
returns c =
    let bit = c.in_ok-self-inside.ensures in
    rw (bit.1, ← c.self.view_is) (bit.0, mark_cleared c.self.inside.word c.args.venue bit.0)

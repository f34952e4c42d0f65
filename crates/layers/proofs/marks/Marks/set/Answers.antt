use Rattle.layers.proofs.Bits.{mark_set}
use Rattle.layers.proofs.marks.Marks.set.Goals as goal

pub returns : goal.returns
returns c =
    let bit = c.in_ok-self-inside.ensures in
    rw (bit.1, ← c.self.view_is) (bit.0, mark_set c.self.inside.word c.args.venue bit.0)

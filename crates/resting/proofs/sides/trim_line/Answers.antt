use Rattle.resting.proofs.Places.{trim_room, trimmed_by}
use Rattle.resting.proofs.sides.trim_line.Goals as goal

pub overflow_sub-line-3 : goal.overflow_sub-line-3
overflow_sub-line-3 c = trim_room _ c.args.place c.args.k _ c.line_mut-line.result.now c.requires.place c.line_mut-line.ensures.value c.min-from_held.ensures c.requires.few

pub returns : goal.returns
returns c = trimmed_by _ c.args.place c.args.k _ c.line_mut-line.result.now c.requires.place c.line_mut-line.ensures.value c.min-from_held.ensures

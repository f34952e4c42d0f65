use Rattle.laws.proofs.Happens.{nothing_else}
use Rattle.laws.proofs.nothing_else_happens.Goals as goal

pub returns : goal.returns
returns c = nothing_else

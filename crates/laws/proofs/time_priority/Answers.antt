use Rattle.laws.proofs.Priority.{time_priority_lem}
use Rattle.laws.proofs.time_priority.Goals as goal

pub returns : goal.returns
returns c = time_priority_lem

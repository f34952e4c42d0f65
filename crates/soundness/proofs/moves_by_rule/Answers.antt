use Rattle.soundness.proofs.Moves.{moves_by_rule_lem}
use Rattle.soundness.proofs.moves_by_rule.Goals as goal

pub returns : goal.returns
returns c = moves_by_rule_lem

use Rattle.laws.proofs.Conserve.{shares_conserved_lem}
use Rattle.laws.proofs.shares_conserved.Goals as goal

pub returns : goal.returns
returns c = shares_conserved_lem

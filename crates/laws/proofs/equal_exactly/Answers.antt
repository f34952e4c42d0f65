use Rattle.laws.proofs.Sheets.{equal_answer_alike}
use Rattle.laws.proofs.Equal.{equal_or_told_apart, equal_exactly_lem}
use Rattle.laws.proofs.equal_exactly.Goals as goal

pub returns : goal.returns
returns c = record { alike = equal_answer_alike; apart = equal_or_told_apart; exactly = equal_exactly_lem }

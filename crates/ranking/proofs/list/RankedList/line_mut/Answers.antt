use Rattle.std.proofs.Common.{refl}
use Rattle.ranking.proofs.Same.{same_list}
use Rattle.ranking.proofs.list.RankedList.line_mut.Goals as goal

pub returns : goal.returns
returns g c = ((refl, λ w. same_list g.L.Limit _ _ _ _ _ _), record { follows = tt; value = c.index_mut.ensures.value })

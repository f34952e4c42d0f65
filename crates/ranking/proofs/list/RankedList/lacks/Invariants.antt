use Rattle.std.proofs.Common.{false}
use Rattle.std.specs.Fn.{FnReturnsAt}
use Rattle.std.specs.List.{AllWithin}
use Rattle.ranking.proofs.list.RankedList.lacks.Given as goal

abbrev pub invariant-loop-line : goal.invariant-loop-line
invariant-loop-line g l = AllWithin (λ x. FnReturnsAt g.F.Fn l.test x false) l.line-items 0 l.line-index

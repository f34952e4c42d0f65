use Rattle.std.proofs.Common.{false}
use Rattle.std.specs.Fn.{FnReturnsAt}
use Rattle.std.specs.List.{AllWithin}
use Rattle.ranking.proofs.list.RankedList.find.Given as goal

abbrev pub invariant-loop-place : goal.invariant-loop-place
invariant-loop-place g l = AllWithin (λ x. FnReturnsAt g.F.Fn l.test x false) l.line-items 0 l.place

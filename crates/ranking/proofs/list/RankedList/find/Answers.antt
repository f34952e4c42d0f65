use Rattle.std.proofs.Common.{true, false, Some, None, refl, subst}
use Rattle.std.specs.Fn.{FnReturnsAt}
use Rattle.std.proofs.lemmas.Fn.{says_at}
use Rattle.ranking.specs.Tests.{FirstAnswered}
use Rattle.ranking.proofs.Finding.{none_yet, one_more, holds_here, all_of, found}
use Rattle.ranking.proofs.list.RankedList.find.Goals as goal

pub loop-place-init : goal.loop-place-init
loop-place-init g c = none_yet (λ x. FnReturnsAt g.F.Fn c.args.test x false) c.deref-line-items.result.now

pub loop-place-preserved : goal.loop-place-preserved
loop-place-preserved g c = one_more (λ x. FnReturnsAt g.F.Fn c.args.test x false) c.deref-line-items.result.now c.loop-place.place c.line-item.result c.loop-place-test.true c.line-item.is (says_at g.F.Fn c.if-test.ensures refl) c.loop-place.invariant

pub returns-then-test : goal.returns-then-test
returns-then-test g c =
    let passes = holds_here (λ x. FnReturnsAt g.F.Fn c.args.test x true) c.deref-line-items.result.now c.loop-place.place c.line-item.result c.loop-place-test.true c.line-item.is (says_at g.F.Fn c.if-test.ensures refl) in
    let answered = subst (λ xs. FirstAnswered g.F.Fn c.args.test xs (Some c.loop-place.place)) c.deref-line-items.ensures.value (c.loop-place-test.true, passes, c.loop-place.invariant) in
    record { answered = answered; found = λ t tests. found g.F.Fn c.args.test t tests c.args.self.now.lines.items (Some c.loop-place.place) answered }

pub returns : goal.returns
returns g c =
    let answered = subst (λ xs. FirstAnswered g.F.Fn c.args.test xs None) c.deref-line-items.ensures.value (all_of (λ x. FnReturnsAt g.F.Fn c.args.test x false) c.deref-line-items.result.now c.loop-place.place c.loop-place-test.false c.loop-place.invariant) in
    record { answered = answered; found = λ t tests. found g.F.Fn c.args.test t tests c.args.self.now.lines.items None answered }

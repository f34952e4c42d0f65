use Rattle.std.proofs.Common.{true, false, refl, subst}
use Rattle.std.specs.Fn.{FnReturnsAt}
use Rattle.std.proofs.lemmas.Fn.{says_at}
use Rattle.ranking.specs.Tests.{NoneAnswered}
use Rattle.ranking.proofs.Finding.{none_yet, one_more, holds_here, all_of, lacking}
use Rattle.ranking.proofs.list.RankedList.lacks.Goals as goal

pub loop-line-init : goal.loop-line-init
loop-line-init g c = none_yet (λ x. FnReturnsAt g.F.Fn c.args.test x false) c.deref-line-items.result.now

pub loop-line-preserved : goal.loop-line-preserved
loop-line-preserved g c = one_more (λ x. FnReturnsAt g.F.Fn c.args.test x false) c.deref-line-items.result.now c.loop-line.line-index c.line-item.result c.loop-line-test.true c.line-item.is (says_at g.F.Fn c.if-test.ensures refl) c.loop-line.invariant

pub returns-then-test : goal.returns-then-test
returns-then-test g c =
    let passes = holds_here (λ x. FnReturnsAt g.F.Fn c.args.test x true) c.deref-line-items.result.now c.loop-line.line-index c.line-item.result c.loop-line-test.true c.line-item.is (says_at g.F.Fn c.if-test.ensures refl) in
    let answered = subst (λ xs. NoneAnswered g.F.Fn c.args.test xs false) c.deref-line-items.ensures.value (c.loop-line.line-index, c.loop-line-test.true, passes) in
    record { answered = answered; none = λ t tests. lacking g.F.Fn c.args.test t tests c.args.self.now.lines.items false answered }

pub returns : goal.returns
returns g c =
    let answered = subst (λ xs. NoneAnswered g.F.Fn c.args.test xs true) c.deref-line-items.ensures.value (all_of (λ x. FnReturnsAt g.F.Fn c.args.test x false) c.deref-line-items.result.now c.loop-line.line-index c.loop-line-test.false c.loop-line.invariant) in
    record { answered = answered; none = λ t tests. lacking g.F.Fn c.args.test t tests c.args.self.now.lines.items true answered }

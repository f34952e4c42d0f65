use Rattle.std.proofs.Common.{sym, arith}
use Rattle.ranking.proofs.Placing.{place_more, place_here, place_last}
use Rattle.ranking.proofs.list.methods.place_of.Goals as goal

pub returns-then-stands_before : goal.returns-then-stands_before
returns-then-stands_before g c = record {
  within = omega arith;
  place = place_here (g.R.Rank.before c.args.by.now) _ _ _ c.index-lines-i.result c.loop-i-test.true c.index-lines-i.is (sym c.if-stands_before.ensures) c.loop-i.invariant;
}

pub loop-i-preserved : goal.loop-i-preserved
loop-i-preserved g c =
    place_more (g.R.Rank.before c.args.by.now) _ _ _ c.index-lines-i.result c.loop-i-test.true c.index-lines-i.is (sym c.if-stands_before.ensures) c.loop-i.invariant

pub returns : goal.returns
returns g c = record {
  within = omega arith;
  place = place_last (g.R.Rank.before c.args.by.now) _ _ c.loop-i.i _ (omega arith) c.loop-i-test.false c.loop-i.invariant;
}

use Rattle.std.proofs.Common.{◌≡◌, ◌++◌, take, drop}
use Rattle.ranking.specs.Place.{place}
use Rattle.ranking.proofs.list.methods.place_of.Given as goal

abbrev pub invariant-loop-i : goal.invariant-loop-i
invariant-loop-i g l = place (g.R.Rank.before l.by) l.x l.lines ≡ take l.i l.lines ++ place (g.R.Rank.before l.by) l.x (drop l.i l.lines)

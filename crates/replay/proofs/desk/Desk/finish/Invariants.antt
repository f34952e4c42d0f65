use Rattle.book.specs.Outcomes.{order_of}
use Rattle.replay.proofs.Works.{Onward}
use Rattle.replay.proofs.desk.Desk.finish.Given as goal

abbrev pub invariant-loop-worked : goal.invariant-loop-worked
invariant-loop-worked l = Onward l.initial.self l.initial.hand l.self l.hand

abbrev pub decreases-loop-worked : goal.decreases-loop-worked
decreases-loop-worked l = (order_of l.hand).shares

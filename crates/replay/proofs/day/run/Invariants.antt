use Rattle.replay.proofs.Days.{SoFar}
use Rattle.replay.proofs.day.run.Given as goal

abbrev pub invariant-loop-i : goal.invariant-loop-i
invariant-loop-i l = SoFar l.instructions l.initial.desk l.initial.stage l.i-index l.desk l.stage

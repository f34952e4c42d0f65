use Rattle.std.proofs.Common.{sym, ◌∙◌}
use Rattle.replay.specs.declared.desk.Stage.TheVariants.{Open}
use Rattle.replay.proofs.Days.{so_far_start, so_far_more, so_far_all, ran}
use Rattle.replay.proofs.day.run.Goals as goal

pub loop-i-init : goal.loop-i-init
loop-i-init c = let m = c.in-Ok.ensures in so_far_start c.args.instructions.now _ _ (m.1 ∙ sym m.0)

pub loop-i-preserved : goal.loop-i-preserved
loop-i-preserved c =
    let l = c.loop-i in so_far_more c.args.instructions.now _ _ l.i-index _ l.desk c.follow-stage.new.self l.stage c.follow-stage.result c.loop-i-test.true l.invariant c.follow-stage.ensures

pub returns : goal.returns
returns c =
    let l = c.loop-i in
    ran c.args.instructions.now _ c.in-Ok.made.1 l.desk l.stage c.in-Ok.ensures.2 c.in_ok-board.ensures c.new-log.ensures (so_far_all c.args.instructions.now (record { book = c.in-Ok.made.0; board = c.in_ok-board.board; log = c.new-log.result }) (Open c.in-Ok.made.1) l.i-index l.desk l.stage c.loop-i-test.false l.invariant)

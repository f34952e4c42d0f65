use Rattle.std.proofs.Common.{◌≡◌, ap, ◌∙◌, refl, subst}
use Rattle.ranking.specs.Lists.{lines_of}
use Rattle.market.specs.States.{quoted}
use Rattle.table_board.specs.Quoting.{lists_of, TakenFrom}
use Rattle.table_board.proofs.Keeping.{list_of, shown_with, showable_taken}
use Rattle.table_board.proofs.table.methods.TableBoardBoard.take.Goals as goal

pub invariant_of-self : goal.invariant_of-self
invariant_of-self c =
    let d = c.args.side in
    let b = c.args.self.now in
    let there : lines_of c.on_mut.result.now ≡ quoted d (lists_of b) = ap lines_of c.on_mut.ensures.value ∙ list_of d b in
    let taken = subst (λ xs. TakenFrom c.args.venue c.args.shares xs (lines_of c.take_from.new.lines) c.take_from.result) there c.take_from.ensures in
    record { shown = shown_with d b c.take_from.new.lines _ refl (showable_taken d b _ c.args.venue c.args.shares c.take_from.result taken) }

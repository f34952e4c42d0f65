use Rattle.std.proofs.Common.{get_or, ap, ◌∙◌}
use Rattle.resting.proofs.Sounds.{on_side, few_on}
use Rattle.resting.proofs.orders.OpenOrders.line_at.Goals as goal

pub returns-clause-few : goal.returns-clause-few
returns-clause-few c =
    let d = c.args.at.side in
    let o = c.args.self.now in
    let there = on_side d o c.on.result.now c.on.ensures in
    few_on d o c.args.at.place c.line_at.result c.requires (c.line_at.ensures _ ∙ ap (λ xs. get_or xs c.args.at.place c.line_at.result) there)

use Rattle.std.proofs.Common.{Decides, rules}
use Rattle.std.proofs.lemmas.Bool.Decides.{same_from_decides}
use Rattle.market.specs.Sheets.{Equal}
use Rattle.resting.specs.Orders.{state_of}
use Rattle.resting.proofs.Sheets.{same_sheet_decides}
use Rattle.resting.proofs.orders.sheets.OpenOrdersPartialEq.eq.Goals as goal

pub returns-then-has_the_side_of-2 : goal.returns-then-has_the_side_of-2
returns-then-has_the_side_of-2 c =
    let equal : Decides c.has_the_routes_of.result (Equal (state_of c.args.self.now) (state_of c.args.other.now)) = search rules in
    same_from_decides _ _ equal (same_sheet_decides c.args.self.now c.args.other.now)

pub returns-else-has_the_side_of-2 : goal.returns-else-has_the_side_of-2
returns-else-has_the_side_of-2 c =
    let equal : Decides c.if-has_the_side_of.value (Equal (state_of c.args.self.now) (state_of c.args.other.now)) = search rules in
    same_from_decides _ _ equal (same_sheet_decides c.args.self.now c.args.other.now)

use Rattle.std.proofs.Common.{Decides, sym, subst}
use Rattle.market.specs.Sheets.{Equal}
use Rattle.resting.specs.Orders.{state_of}
use Rattle.resting.proofs.Sheets.{same_sheet_decides}
use Rattle.resting.proofs.orders.OpenOrders.equals.Goals as goal

pub returns : goal.returns
returns c =
    let x = c.args.self.now in
    let y = c.args.other.now in
    subst (λ r. Decides r (Equal (state_of x) (state_of y))) (sym c.eq.ensures) (same_sheet_decides x y)

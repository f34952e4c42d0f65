-- The comparison of open orders: of their next numbers, rank sheets and route lists, line by line.
use Rattle.std.specs.Prelude.{Bool, ◌==◌}
use Rattle.std.specs.Ordering.{on, eq_of_both}
use Rattle.std.specs.Cmp.Lexicographic.{pointwise}
use Rattle.market.specs.contracts.types.RestingPartialEq.TheImpl as resting
use Rattle.market.specs.contracts.types.RoutePartialEq.TheImpl as route
use Rattle.market.specs.States.{State}
use Rattle.market.specs.Sheets.{sheet}
use Rattle.resting.specs.Orders.{state_of}
use Rattle.resting.specs.declared.orders.OpenOrders.{OpenOrders}

-- all that a comparison covers
abbrev pub sheet_of : OpenOrders → State
sheet_of o = sheet (state_of o)

abbrev pub same_sheet : OpenOrders → OpenOrders → Bool
same_sheet =
    eq_of_both (on (λ o. (sheet_of o).next) ◌==◌)
    (eq_of_both (on (λ o. (sheet_of o).buys) (pointwise resting.ghosts.eq))
    (eq_of_both (on (λ o. (sheet_of o).sells) (pointwise resting.ghosts.eq))
    (on (λ o. (sheet_of o).routes) (pointwise route.ghosts.eq))))

-- Which side's first order expires next.
use Rattle.std.specs.Prelude.{List, [], ◌∷◌, Some, None, Option}
use Rattle.market.specs.declared.types.Side.{Side}
use Rattle.market.specs.declared.types.Side.TheVariants.{Buy, Sell}
use Rattle.market.specs.declared.types.Resting.{Resting}
use Rattle.market.specs.States.{State}

abbrev pub first_of_two : List Resting → List Resting → Option Side
first_of_two [] [] = None
first_of_two [] (p ∷ ps) = Some Sell
first_of_two (p ∷ ps) ys = Some Buy

abbrev pub oldest_side : State → Option Side
oldest_side s = first_of_two s.buys s.sells

-- A pair of values, one for each side.
use Rattle.std.specs.Borrow.{Lends, MutBor, Fml, RattleType}
use Rattle.market.specs.declared.types.Side.{Side}
use Rattle.market.specs.declared.sides.Sides.{Sides}
use Rattle.market.specs.contracts.sides.Sides.{the_row}
use Rattle.market.specs.Sides.{pick}

-- the pair with the value of a side replaced
abbrev pub with_side : {X : Type 0} → Side → Sides X → X → Sides X
with_side d s x = record { buy = pick d x s.buy; sell = pick d s.sell x }

-- once the loan r ends, s has on the side d what r was left with, and its other side as it was
abbrev pub LendsSide : (T : RattleType) → Side → MutBor (Sides T.Denot) → MutBor T.Denot → Fml
LendsSide T d s r = Lends (the_row T) T s r (with_side d s.now)

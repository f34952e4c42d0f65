-- What a trade and a cut do to one side.
use Rattle.std.specs.Prelude.{ℕ, zero, suc, List, [], ◌∷◌}
use Rattle.market.specs.declared.types.Side.{Side}
use Rattle.market.specs.declared.types.Resting.{Resting}
use Rattle.market.specs.Orders.{less, settled, trimmed, total}

abbrev pub first_shown : List Resting → ℕ
first_shown [] = 0
first_shown (p ∷ ps) = p.shown

abbrev pub less_first : ℕ → List Resting → List Resting
less_first k [] = []
less_first k (p ∷ ps) = less k p ∷ ps

abbrev pub settle_first : Side → List Resting → List Resting
settle_first d [] = []
settle_first d (p ∷ ps) = settled d p ps

-- the shares of the order at a place
abbrev pub total_at : ℕ → List Resting → ℕ
total_at i [] = 0
total_at zero (p ∷ ps) = total p
total_at (suc i) (p ∷ ps) = total_at i ps

-- the order at a place cut by k shares
abbrev pub trim_at : ℕ → ℕ → List Resting → List Resting
trim_at i k [] = []
trim_at zero k (p ∷ ps) = trimmed k p ∷ ps
trim_at (suc i) k (p ∷ ps) = p ∷ trim_at i k ps

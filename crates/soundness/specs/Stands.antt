-- Where a line stands in a list, and a resting order in a book.
use Rattle.std.specs.Prelude.{◌≡◌, List, ◌∷◌, ◌++◌}
use Rattle.ranking.specs.Place.{Spot}
use Rattle.market.specs.States.{State, on}
use Rattle.market.specs.Calls.{Place}

-- a line stands in a list, behind its front and ahead of its rest
abbrev pub Among : {X : Type 0} → List X → Spot X → Type 0
Among xs s = xs ≡ s.front ++ s.line ∷ s.rest

-- a resting order stands on its side of the book
abbrev pub Stands : State → Place → Type 0
Stands s p = Among (on p.side s) p.spot

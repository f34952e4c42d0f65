-- What an order owes to come to rest on a side: it may stand there, under a number of its own, and meets no order across.
use Rattle.std.specs.Prelude.{◌≡◌, true, not}
use Rattle.ranking.specs.Place.{every}
use Rattle.market.specs.declared.types.Side.{Side}
use Rattle.market.specs.declared.types.Resting.{Resting}
use Rattle.market.specs.Sides.{across_of, within}
use Rattle.market.specs.States.{State, on, free}
use Rattle.market.specs.Sound.{resting_fair}

pub record Restable (d : Side) (p : Resting) (s : State) : Type 0 where
  pub fair : resting_fair s.next p ≡ true
  pub free : free p.number s ≡ true
  pub clear : every (λ x. not (within d p.price x.price)) (on (across_of d) s) ≡ true

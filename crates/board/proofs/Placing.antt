-- Placing a line of a venue that has none keeps what holds of the lines.
use Rattle.std.proofs.Common.{◌≡◌, Bool, true, false, List, [], ◌∷◌, refl, arith}
use Rattle.std.proofs.lemmas.Bool.Decides.{nat_tests}
use Rattle.ranking.specs.Place.{every, place}
use Rattle.ranking.proofs.Ranking.{place_in_rank}
use Rattle.market.specs.declared.types.Side.{Side}
use Rattle.market.specs.declared.types.Side.TheVariants.{Buy, Sell}
use Rattle.market.specs.declared.types.Quotation.{Quotation}
use Rattle.market.specs.Sides.{quotation_before}
use Rattle.market.specs.Quotes.{quotation_legal, one_a_venue, Showable}
use Rattle.board.proofs.Pairs.{apart}
use Rattle.board.proofs.Dropping.{lacking}

pub never_before_itself : (d : Side) (x : Quotation) → quotation_before d x x ≡ false
never_before_itself Buy x = grind (arith, nat_tests)
never_before_itself Sell x = grind (arith, nat_tests)

pub before_on : (d : Side) (x y z : Quotation) → quotation_before d x y ≡ true → quotation_before d y z ≡ true → quotation_before d x z ≡ true
before_on Buy x y z h k = grind (arith, nat_tests)
before_on Sell x y z h k = grind (arith, nat_tests)

-- of two lines of two venues one stands before the other
pub one_before : (d : Side) (x y : Quotation) → apart x y ≡ true → quotation_before d x y ≡ false → quotation_before d y x ≡ true
one_before Buy x y h k = grind (arith, nat_tests)
one_before Sell x y h k = grind (arith, nat_tests)

pub apart_back : (x y : Quotation) → apart x y ≡ true → apart y x ≡ true
apart_back x y h = grind (arith, nat_tests)

pub every_place : {X : Type 0} (b : X → X → Bool) (x : X) (t : X → Bool) (ys : List X) → t x ≡ true → every t ys ≡ true → every t (place b x ys) ≡ true
every_place b x t [] here h = grind arith
every_place b x t (y ∷ ys) here h = let rest = every_place b x t ys here in grind arith

pub venues_place : (b : Quotation → Quotation → Bool) (q : Quotation) (ys : List Quotation) → lacking q.venue ys ≡ true → one_a_venue ys ≡ true → one_a_venue (place b q ys) ≡ true
venues_place b q [] none h = refl
venues_place b q (y ∷ ys) none h =
    let back = apart_back q y in
    let others = every_place b q (apart y) ys in
    let rest = venues_place b q ys in grind arith

pub showable_place : (d : Side) (q : Quotation) (ys : List Quotation) → quotation_legal q ≡ true → lacking q.venue ys ≡ true → Showable d ys → Showable d (place (quotation_before d) q ys)
showable_place d q ys legal none h = record {
  ranked = place_in_rank (quotation_before d) (never_before_itself d) (before_on d) q ys h.ranked;
  legal = every_place (quotation_before d) q quotation_legal ys legal h.legal;
  venues = venues_place (quotation_before d) q ys none h.venues;
}

-- The lines that pass a test keep what holds of all the lines.
use Rattle.std.proofs.Common.{◌≡◌, ◌^◌, ◌<◌, ◌≤◌, Bool, true, List, [], ◌∷◌, length, refl, arith}
use Rattle.ranking.specs.Place.{every, in_rank, those}
use Rattle.market.specs.declared.types.Quotation.{Quotation}
use Rattle.market.specs.declared.types.Side.{Side}
use Rattle.market.specs.declared.types.Side.TheVariants.{Buy, Sell}
use Rattle.market.specs.Sides.{pick, quotation_before}
use Rattle.market.specs.Quotes.{quotation_legal, one_a_venue}
use Rattle.board.proofs.Pairs.{pairwise, in_turn, apart, in_rank_by, venues_by}

module _ {X : Type 0} (p : X → Bool) where
  pub length_those : (xs : List X) → length (those p xs) ≤ length xs
  length_those [] = omega arith
  length_those (x ∷ xs) = let rest = length_those xs in grind arith

  pub every_those : (t : X → Bool) (xs : List X) → every t xs ≡ true → every t (those p xs) ≡ true
  every_those t [] h = refl
  every_those t (x ∷ xs) h = let rest = every_those t xs in grind arith

  pairwise_those : (r : X → X → Bool) (xs : List X) → pairwise r xs ≡ true → pairwise r (those p xs) ≡ true
  pairwise_those r [] h = refl
  pairwise_those r (x ∷ xs) h =
      let here = every_those (r x) xs in
      let rest = pairwise_those r xs in grind arith

  pub in_rank_those : (b : X → X → Bool) (xs : List X) → in_rank b xs ≡ true → in_rank b (those p xs) ≡ true
  in_rank_those b = in_rank_by b (those p) (pairwise_those (in_turn b))

pub venues_those : (p : Quotation → Bool) (xs : List Quotation) → one_a_venue xs ≡ true → one_a_venue (those p xs) ≡ true
venues_those p = venues_by (those p) (pairwise_those p apart)

pub pick_those : {X : Type 0} (p : X → Bool) (d : Side) (xs ys : List X) → pick d (those p xs) (those p ys) ≡ those p (pick d xs ys)
pick_those p Buy xs ys = refl
pick_those p Sell xs ys = refl

-- the laws of a board hold of the lines that are shown
module _ (p : Quotation → Bool) (d : Side) (b o : List Quotation) where
  pub ranked_shown : in_rank (quotation_before d) (pick d b o) ≡ true → in_rank (quotation_before d) (pick d (those p b) (those p o)) ≡ true
  ranked_shown h = rw (pick_those p d b o) (in_rank_those p (quotation_before d) (pick d b o) h)

  pub legal_shown : every quotation_legal (pick d b o) ≡ true → every quotation_legal (pick d (those p b) (those p o)) ≡ true
  legal_shown h = rw (pick_those p d b o) (every_those p quotation_legal (pick d b o) h)

  pub venues_shown : one_a_venue (pick d b o) ≡ true → one_a_venue (pick d (those p b) (those p o)) ≡ true
  venues_shown h = rw (pick_those p d b o) (venues_those p (pick d b o) h)

  pub few_shown : length (pick d b o) < 2 ^ 64 → length (pick d (those p b) (those p o)) < 2 ^ 64
  few_shown h = rw (pick_those p d b o) (omega (arith, length_those p (pick d b o)))

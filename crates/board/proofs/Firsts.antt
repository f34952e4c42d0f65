-- The first line says whether any is better.
use Rattle.std.proofs.Common.{◌≡◌, ℕ, true, false, List, [], ◌∷◌, refl, arith}
use Rattle.std.proofs.lemmas.Bool.Decides.{nat_tests}
use Rattle.std.specs.Option.{option_map_or}
use Rattle.ranking.specs.Place.{in_rank, none_before, head_of}
use Rattle.market.specs.declared.types.Quotation.{Quotation}
use Rattle.market.specs.declared.types.Side.{Side}
use Rattle.market.specs.declared.types.Side.TheVariants.{Buy, Sell}
use Rattle.market.specs.Sides.{ahead, quotation_before}
use Rattle.market.specs.Steps.{any_better}

-- behind a line that is not better than a price there is none
none_better : (d : Side) (p : ℕ) (q : Quotation) (rs : List Quotation) → none_before (quotation_before d) q rs ≡ true → ahead d q.price p ≡ false → any_better d p rs ≡ false
none_better d p q [] l b = refl
none_better Buy p q (r ∷ rs) l b = let rest = none_better Buy p q rs in grind (arith, nat_tests)
none_better Sell p q (r ∷ rs) l b = let rest = none_better Sell p q rs in grind (arith, nat_tests)

pub first_says : (d : Side) (p : ℕ) (qs : List Quotation) → in_rank (quotation_before d) qs ≡ true → any_better d p qs ≡ option_map_or (λ q. ahead d q.price p) (head_of qs) false
first_says d p [] o = refl
first_says d p (q ∷ rs) o = let rest = none_better d p q rs in grind (arith, nat_tests)

-- Dropping a venue's line keeps what holds of the lines, and leaves none of that venue.
use Rattle.std.proofs.Common.{◌≡◌, ℕ, ◌+◌, ◌≤◌, Bool, true, not, List, [], ◌∷◌, length, refl, arith}
use Rattle.std.proofs.lemmas.Bool.Decides.{nat_tests}
use Rattle.ranking.specs.Place.{every, in_rank}
use Rattle.market.specs.declared.types.Side.{Side}
use Rattle.market.specs.declared.types.Quotation.{Quotation}
use Rattle.market.specs.Sides.{quotation_before}
use Rattle.market.specs.States.{venue_is}
use Rattle.market.specs.Quotes.{quotation_legal, one_a_venue, without, Showable}
use Rattle.board.proofs.Pairs.{pairwise, in_turn, apart, in_rank_by, venues_by}

-- no line of the venue
abbrev pub lacking : ℕ → List Quotation → Bool
lacking v xs = every (λ x. not (venue_is v x)) xs

module _ (v : ℕ) where
  pub length_without : (xs : List Quotation) → length xs ≤ length (without v xs) + 1
  length_without [] = omega arith
  length_without (x ∷ xs) = let rest = length_without xs in grind arith

  pub every_without : (t : Quotation → Bool) (xs : List Quotation) → every t xs ≡ true → every t (without v xs) ≡ true
  every_without t [] h = refl
  every_without t (x ∷ xs) h = let rest = every_without t xs in grind arith

  pairwise_without : (r : Quotation → Quotation → Bool) (xs : List Quotation) → pairwise r xs ≡ true → pairwise r (without v xs) ≡ true
  pairwise_without r [] h = refl
  pairwise_without r (x ∷ xs) h =
      let here = every_without (r x) xs in
      let rest = pairwise_without r xs in grind arith

  pub in_rank_without : (b : Quotation → Quotation → Bool) (xs : List Quotation) → in_rank b xs ≡ true → in_rank b (without v xs) ≡ true
  in_rank_without b = in_rank_by b (without v) (pairwise_without (in_turn b))

  pub venues_without : (xs : List Quotation) → one_a_venue xs ≡ true → one_a_venue (without v xs) ≡ true
  venues_without = venues_by (without v) (pairwise_without apart)

  pub lacking_without : (xs : List Quotation) → one_a_venue xs ≡ true → lacking v (without v xs) ≡ true
  lacking_without [] h = refl
  lacking_without (x ∷ xs) h = let rest = lacking_without xs in grind (arith, nat_tests)

  pub showable_without : (d : Side) (xs : List Quotation) → Showable d xs → Showable d (without v xs)
  showable_without d xs h = record { ranked = in_rank_without (quotation_before d) xs h.ranked; legal = every_without quotation_legal xs h.legal; venues = venues_without xs h.venues }

-- Taking shares from a venue's line keeps what holds of the lines.
use Rattle.std.proofs.Common.{◌≡◌, ℕ, ◌-◌, ◌≤◌, Bool, true, List, [], ◌∷◌, refl, arith}
use Rattle.std.proofs.lemmas.Bool.Decides.{nat_tests}
use Rattle.ranking.specs.Place.{every, in_rank}
use Rattle.market.specs.declared.types.Side.{Side}
use Rattle.market.specs.declared.types.Quotation.{Quotation}
use Rattle.market.specs.Sides.{quotation_before}
use Rattle.market.specs.Quotes.{quotation_legal, one_a_venue, size_at, resized, lessened, Showable}
use Rattle.board.proofs.Pairs.{pairwise, in_turn, apart, in_rank_by, venues_by}

module _ (v n : ℕ) where
  -- what holds of a line at any size
  every_lessened : (t : Quotation → Bool) → ((q : Quotation) (m : ℕ) → t (resized m q) ≡ t q) → (xs : List Quotation) → every t xs ≡ true → every t (lessened v n xs) ≡ true
  every_lessened t sizeless [] h = refl
  every_lessened t sizeless (x ∷ xs) h =
      let same = sizeless x (x.size - n) in
      let rest = every_lessened t sizeless xs in grind arith

  -- what holds of two lines at any sizes
  module _ (r : Quotation → Quotation → Bool) (here : (q x : Quotation) (m : ℕ) → r q (resized m x) ≡ r q x) (first : (q : Quotation) (m : ℕ) (xs : List Quotation) → every (r (resized m q)) xs ≡ every (r q) xs) where
    pairwise_lessened : (xs : List Quotation) → pairwise r xs ≡ true → pairwise r (lessened v n xs) ≡ true
    pairwise_lessened [] h = refl
    pairwise_lessened (x ∷ xs) h =
        let same = first x (x.size - n) xs in
        let ahead = every_lessened (r x) (here x) xs in
        let rest = pairwise_lessened xs in grind arith

  pub in_rank_lessened : (d : Side) (xs : List Quotation) → in_rank (quotation_before d) xs ≡ true → in_rank (quotation_before d) (lessened v n xs) ≡ true
  in_rank_lessened d = in_rank_by (quotation_before d) (lessened v n) (pairwise_lessened (in_turn (quotation_before d)) (λ q x m. refl) (λ q m xs. refl))

  pub venues_lessened : (xs : List Quotation) → one_a_venue xs ≡ true → one_a_venue (lessened v n xs) ≡ true
  venues_lessened = venues_by (lessened v n) (pairwise_lessened apart (λ q x m. refl) (λ q m xs. refl))

  -- the line has the shares that are taken
  legal_lessened : (xs : List Quotation) → n ≤ size_at v xs → every quotation_legal xs ≡ true → every quotation_legal (lessened v n xs) ≡ true
  legal_lessened [] enough h = refl
  legal_lessened (x ∷ xs) enough h = let rest = legal_lessened xs in grind (arith, nat_tests)

  pub showable_lessened : (d : Side) (xs : List Quotation) → n ≤ size_at v xs → Showable d xs → Showable d (lessened v n xs)
  showable_lessened d xs enough h = record { ranked = in_rank_lessened d xs h.ranked; legal = legal_lessened xs enough h.legal; venues = venues_lessened xs h.venues }

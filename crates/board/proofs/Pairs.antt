-- Lists in which each line stands well with every line behind it: to be in rank and to have one line a venue are two ways of that.
use Rattle.std.proofs.Common.{◌≡◌, Bool, true, not, ◌&&◌, List, [], ◌∷◌, sym, refl, ap, ◌∙◌}
use Rattle.ranking.specs.Place.{every, none_before, in_rank}
use Rattle.market.specs.declared.types.Quotation.{Quotation}
use Rattle.market.specs.States.{venue_is}
use Rattle.market.specs.Quotes.{one_a_venue}

abbrev pub pairwise : {X : Type 0} → (X → X → Bool) → List X → Bool
pairwise r [] = true
pairwise r (x ∷ xs) = every (r x) xs && pairwise r xs

-- the second line does not stand before the first
abbrev pub in_turn : {X : Type 0} → (X → X → Bool) → X → X → Bool
in_turn b x y = not (b y x)

-- the lines are of two venues
abbrev pub apart : Quotation → Quotation → Bool
apart q x = not (venue_is q.venue x)

none_before_is : {X : Type 0} (b : X → X → Bool) (x : X) (ys : List X) → none_before b x ys ≡ every (in_turn b x) ys
none_before_is b x [] = refl
none_before_is b x (y ∷ ys) = ap (λ t. not (b y x) && t) (none_before_is b x ys)

pub in_rank_is : {X : Type 0} (b : X → X → Bool) (xs : List X) → in_rank b xs ≡ pairwise (in_turn b) xs
in_rank_is b [] = refl
in_rank_is b (x ∷ xs) = ap (λ t. t && in_rank b xs) (none_before_is b x xs) ∙ ap (λ t. every (in_turn b x) xs && t) (in_rank_is b xs)

pub venues_are : (qs : List Quotation) → one_a_venue qs ≡ pairwise apart qs
venues_are [] = refl
venues_are (q ∷ qs) = ap (λ t. every (apart q) qs && t) (venues_are qs)

-- what keeps the lines in pairs keeps them in rank, and one a venue
pub in_rank_by : {X : Type 0} (b : X → X → Bool) (f : List X → List X) → ((xs : List X) → pairwise (in_turn b) xs ≡ true → pairwise (in_turn b) (f xs) ≡ true) → (xs : List X) → in_rank b xs ≡ true → in_rank b (f xs) ≡ true
in_rank_by b f keep xs h = in_rank_is b (f xs) ∙ keep xs (sym (in_rank_is b xs) ∙ h)

pub venues_by : (f : List Quotation → List Quotation) → ((xs : List Quotation) → pairwise apart xs ≡ true → pairwise apart (f xs) ≡ true) → (xs : List Quotation) → one_a_venue xs ≡ true → one_a_venue (f xs) ≡ true
venues_by f keep xs h = venues_are (f xs) ∙ keep xs (sym (venues_are xs) ∙ h)

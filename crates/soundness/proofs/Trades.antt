-- What a trade with the first resting order of a side keeps.
use Rattle.std.proofs.Common.{◌≡◌, ℕ, Bool, true, false, eqb, ◌≢◌, List, [], ◌∷◌, refl, ◌∙◌, arith}
use Rattle.std.proofs.lemmas.Bool.Decides.{nat_tests}
use Rattle.std.proofs.lemmas.Bool.{and_parts, and_from, cond_both, eqb-true}
use Rattle.ranking.specs.Place.{place, every, none_before, in_rank}
use Rattle.ranking.proofs.Ranking.{first_as}
use Rattle.market.specs.declared.types.Side.{Side}
use Rattle.market.specs.declared.types.Resting.{Resting}
use Rattle.market.specs.Sides.{resting_before}
use Rattle.market.specs.Orders.{less, due, refresh, settled, traded}
use Rattle.market.specs.Sound.{resting_apart, resting_fair}
use Rattle.soundness.proofs.Lists.{every_place, rank_place, apart_place, unlike}

-- only what holds some back is refreshed, and what displays nothing and is not refreshed holds nothing
pub due_holds : (p : Resting) → due p ≡ true → p.held ≢ 0
due_holds p e z = grind (arith, nat_tests)

spent_holds : (p : Resting) → due p ≡ false → p.shown ≡ 0 → p.held ≡ 0
spent_holds p e z = grind (arith, nat_tests)

-- the three ways of a first order that was lessened: refreshed behind its price, gone, or where it rests
pub settled_by : (d : Side) (p : Resting) (ps : List Resting) (P : List Resting → Type 0) → (due p ≡ true → P (place (resting_before d) (refresh p) ps)) → (p.shown ≡ 0 → p.held ≡ 0 → P ps) → (eqb p.shown 0 ≡ false → P (p ∷ ps)) → P (settled d p ps)
settled_by d p ps P again gone stays =
    cond_both (due p) _ _ P again
    (λ t. cond_both (eqb p.shown 0) _ _ P (λ u. let z : p.shown ≡ 0 = eqb-true p.shown 0 u in gone z (spent_holds p t z)) stays)

module _ (d : Side) (k : ℕ) where
  pub every_traded : (t : Resting → Bool) (xs : List Resting) → ((p : Resting) → eqb (less k p).shown 0 ≡ false → t p ≡ true → t (less k p) ≡ true) → ((p : Resting) → due (less k p) ≡ true → t p ≡ true → t (refresh (less k p)) ≡ true) → every t xs ≡ true → every t (traded d k xs) ≡ true
  every_traded t [] f g h = refl
  every_traded t (p ∷ ps) f g h =
      let q = and_parts (t p) (every t ps) h in
      settled_by d (less k p) ps (λ l. every t l ≡ true) (λ e. every_place (resting_before d) t (refresh (less k p)) ps (g p e q.0) q.1) (λ _ _. q.1) (λ e. and_from _ _ (f p e q.0) q.1)

  -- of a test that reads only what a trade leaves
  pub every_stays : (t : Resting → Bool) (xs : List Resting) → ((p : Resting) → t (less k p) ≡ t p) → ((p : Resting) → t (refresh (less k p)) ≡ t p) → every t xs ≡ true → every t (traded d k xs) ≡ true
  every_stays t xs f g = every_traded t xs (λ p _ h. f p ∙ h) (λ p _ h. g p ∙ h)

  pub apart_traded : (xs : List Resting) → resting_apart xs ≡ true → resting_apart (traded d k xs) ≡ true
  apart_traded [] h = refl
  apart_traded (p ∷ ps) h =
      let q = and_parts (every (unlike p.number) ps) (resting_apart ps) h in
      settled_by d (less k p) ps (λ l. resting_apart l ≡ true) (λ _. apart_place (resting_before d) (refresh (less k p)) ps q.0 q.1) (λ _ _. q.1) (λ _. h)

  pub rank_traded : (xs : List Resting) → in_rank (resting_before d) xs ≡ true → in_rank (resting_before d) (traded d k xs) ≡ true
  rank_traded [] h = refl
  rank_traded (p ∷ ps) h =
      let q = and_parts (none_before (resting_before d) p ps) (in_rank (resting_before d) ps) h in
      settled_by d (less k p) ps (λ l. in_rank (resting_before d) l ≡ true) (λ _. rank_place d (refresh (less k p)) ps q.1) (λ _ _. q.1) (λ _. first_as (resting_before d) p (less k p) ps (λ _. refl) h)

pub fair_less : (n k : ℕ) (p : Resting) → eqb (less k p).shown 0 ≡ false → resting_fair n p ≡ true → resting_fair n (less k p) ≡ true
fair_less n k p l h = grind (arith, nat_tests)

pub fair_refresh : (n k : ℕ) (p : Resting) → due (less k p) ≡ true → resting_fair n p ≡ true → resting_fair n (refresh (less k p)) ≡ true
fair_refresh n k p l h = grind (arith, nat_tests)

-- What a test of every line, rank and distinct numbers keep when a line is placed, taken out or changed.
use Rattle.std.proofs.Common.{◌≡◌, ℕ, Bool, true, false, not, ◌&&◌, eqb, List, [], ◌∷◌, ◌++◌, Some, sym, refl, ap, ◌∙◌, arith}
use Rattle.std.proofs.lemmas.Bool.Decides.{nat_tests}
use Rattle.std.proofs.lemmas.Bool.{and_parts, and_from, cond_both}
use Rattle.ranking.specs.Place.{place, every, none_before, in_rank, head_of}
use Rattle.ranking.proofs.Ranking.{place_in_rank}
use Rattle.market.specs.declared.types.Side.{Side}
use Rattle.market.specs.declared.types.Side.TheVariants.{Buy, Sell}
use Rattle.market.specs.declared.types.Resting.{Resting}
use Rattle.market.specs.declared.types.Route.{Route}
use Rattle.market.specs.Sides.{resting_before, route_before}
use Rattle.market.specs.States.{resting_bears, route_bears}
use Rattle.market.specs.Sound.{resting_apart, routes_apart}

-- every line

pub every_place : {X : Type 0} (b : X → X → Bool) (t : X → Bool) (x : X) (xs : List X) → t x ≡ true → every t xs ≡ true → every t (place b x xs) ≡ true
every_place b t x [] h k = and_from (t x) true h refl
every_place b t x (y ∷ ys) h k =
    let p = and_parts (t y) (every t ys) k in
    cond_both (b x y) (x ∷ y ∷ ys) (y ∷ place b x ys) (λ l. every t l ≡ true) (λ _. and_from (t x) (every t (y ∷ ys)) h k) (λ _. and_from (t y) (every t (place b x ys)) p.0 (every_place b t x ys h p.1))

pub every_imp : {X : Type 0} (t u : X → Bool) (xs : List X) → ((x : X) → t x ≡ true → u x ≡ true) → every t xs ≡ true → every u xs ≡ true
every_imp t u [] f h = refl
every_imp t u (x ∷ xs) f h = let p = and_parts (t x) (every t xs) h in and_from (u x) (every u xs) (f x p.0) (every_imp t u xs f p.1)

-- what stands first passes too
pub every_first : {X : Type 0} (t : X → Bool) (x : X) (xs : List X) → Some x ≡ head_of xs → every t xs ≡ true → t x ≡ true
every_first t x [] e h = cc
every_first t x (y ∷ ys) e h = let same : x ≡ y = cc in ap t same ∙ (and_parts (t y) (every t ys) h).0

-- two tests of every line, and what follows from both
pub every_both : {X : Type 0} (t u v : X → Bool) (xs : List X) → ((x : X) → t x ≡ true → u x ≡ true → v x ≡ true) → every t xs ≡ true → every u xs ≡ true → every v xs ≡ true
every_both t u v [] f h k = refl
every_both t u v (x ∷ xs) f h k =
    let p = and_parts (t x) (every t xs) h in
    let q = and_parts (u x) (every u xs) k in
    and_from (v x) (every v xs) (f x p.0 q.0) (every_both t u v xs f p.1 q.1)

module _ {X : Type 0} (t : X → Bool) where
  pub every_out : (fs rs : List X) (x : X) → every t (fs ++ x ∷ rs) ≡ true → every t (fs ++ rs) ≡ true
  every_out [] rs x h = (and_parts (t x) (every t rs) h).1
  every_out (f ∷ fs) rs x h = let p = and_parts (t f) (every t (fs ++ x ∷ rs)) h in and_from (t f) (every t (fs ++ rs)) p.0 (every_out fs rs x p.1)

  pub every_at : (fs rs : List X) (x : X) → every t (fs ++ x ∷ rs) ≡ true → t x ≡ true
  every_at [] rs x h = (and_parts (t x) (every t rs) h).0
  every_at (f ∷ fs) rs x h = every_at fs rs x (and_parts (t f) (every t (fs ++ x ∷ rs)) h).1

  pub every_swap : (fs rs : List X) (x y : X) → (t x ≡ true → t y ≡ true) → every t (fs ++ x ∷ rs) ≡ true → every t (fs ++ y ∷ rs) ≡ true
  every_swap [] rs x y g h = let p = and_parts (t x) (every t rs) h in and_from (t y) (every t rs) (g p.0) p.1
  every_swap (f ∷ fs) rs x y g h = let p = and_parts (t f) (every t (fs ++ x ∷ rs)) h in and_from (t f) (every t (fs ++ y ∷ rs)) p.0 (every_swap fs rs x y g p.1)

-- rank

module _ {X : Type 0} (b : X → X → Bool) where
  -- none stands before z is a test of every line
  none_is : (z : X) (xs : List X) → none_before b z xs ≡ every (λ y. not (b y z)) xs
  none_is z [] = refl
  none_is z (x ∷ xs) = ap (λ e. not (b x z) && e) (none_is z xs)

  none_out : (z : X) (fs rs : List X) (x : X) → none_before b z (fs ++ x ∷ rs) ≡ true → none_before b z (fs ++ rs) ≡ true
  none_out z fs rs x h = none_is z (fs ++ rs) ∙ every_out (λ y. not (b y z)) fs rs x (sym (none_is z (fs ++ x ∷ rs)) ∙ h)

  none_swap : (z : X) (fs rs : List X) (x y : X) → b y z ≡ b x z → none_before b z (fs ++ x ∷ rs) ≡ true → none_before b z (fs ++ y ∷ rs) ≡ true
  none_swap z fs rs x y e h = none_is z (fs ++ y ∷ rs) ∙ every_swap (λ w. not (b w z)) fs rs x y (λ g. ap not e ∙ g) (sym (none_is z (fs ++ x ∷ rs)) ∙ h)

  none_as : (x y : X) (rs : List X) → ((z : X) → b z y ≡ b z x) → none_before b x rs ≡ true → none_before b y rs ≡ true
  none_as x y [] e h = refl
  none_as x y (r ∷ rs) e h = let p = and_parts (not (b r x)) (none_before b x rs) h in and_from (not (b r y)) (none_before b y rs) (ap not (e r) ∙ p.0) (none_as x y rs e p.1)

  pub rank_out : (fs rs : List X) (x : X) → in_rank b (fs ++ x ∷ rs) ≡ true → in_rank b (fs ++ rs) ≡ true
  rank_out [] rs x h = (and_parts (none_before b x rs) (in_rank b rs) h).1
  rank_out (f ∷ fs) rs x h =
      let p = and_parts (none_before b f (fs ++ x ∷ rs)) (in_rank b (fs ++ x ∷ rs)) h in
      and_from (none_before b f (fs ++ rs)) (in_rank b (fs ++ rs)) (none_out f fs rs x p.0) (rank_out fs rs x p.1)

  -- a line changed that keeps its rank
  pub rank_swap : (fs rs : List X) (x y : X) → ((z : X) → b z y ≡ b z x) → ((z : X) → b y z ≡ b x z) → in_rank b (fs ++ x ∷ rs) ≡ true → in_rank b (fs ++ y ∷ rs) ≡ true
  rank_swap [] rs x y e e' h = let p = and_parts (none_before b x rs) (in_rank b rs) h in and_from (none_before b y rs) (in_rank b rs) (none_as x y rs e p.0) p.1
  rank_swap (f ∷ fs) rs x y e e' h =
      let p = and_parts (none_before b f (fs ++ x ∷ rs)) (in_rank b (fs ++ x ∷ rs)) h in
      and_from (none_before b f (fs ++ y ∷ rs)) (in_rank b (fs ++ y ∷ rs)) (none_swap f fs rs x y (e' f) p.0) (rank_swap fs rs x y e e' p.1)

resting_irr : (d : Side) (x : Resting) → resting_before d x x ≡ false
resting_irr Buy x = grind (arith, nat_tests)
resting_irr Sell x = grind (arith, nat_tests)

resting_trans : (d : Side) (x y z : Resting) → resting_before d x y ≡ true → resting_before d y z ≡ true → resting_before d x z ≡ true
resting_trans Buy x y z h k = grind (arith, nat_tests)
resting_trans Sell x y z h k = grind (arith, nat_tests)

pub rank_place : (d : Side) (x : Resting) (xs : List Resting) → in_rank (resting_before d) xs ≡ true → in_rank (resting_before d) (place (resting_before d) x xs) ≡ true
rank_place d = place_in_rank (resting_before d) (resting_irr d) (resting_trans d)

pub rank_route : (x : Route) (xs : List Route) → in_rank route_before xs ≡ true → in_rank route_before (place route_before x xs) ≡ true
rank_route = place_in_rank route_before (λ x. grind (arith, nat_tests)) (λ x y z h k. grind (arith, nat_tests))

-- distinct numbers

abbrev pub unlike : ℕ → Resting → Bool
unlike n p = not (resting_bears n p)

abbrev pub route_unlike : ℕ → Route → Bool
route_unlike n r = not (route_bears n r)

-- no line bears the number
abbrev pub Absent : ℕ → List Resting → Type 0
Absent n ps = every (unlike n) ps ≡ true

abbrev pub Unsent : ℕ → List Route → Type 0
Unsent n rs = every (route_unlike n) rs ≡ true

pub apart_place : (b : Resting → Resting → Bool) (x : Resting) (xs : List Resting) → every (unlike x.number) xs ≡ true → resting_apart xs ≡ true → resting_apart (place b x xs) ≡ true
apart_place b x [] h k = refl
apart_place b x (y ∷ ys) h k =
    let p = and_parts (every (unlike y.number) ys) (resting_apart ys) k in
    let q = and_parts (unlike x.number y) (every (unlike x.number) ys) h in
    cond_both (b x y) (x ∷ y ∷ ys) (y ∷ place b x ys) (λ l. resting_apart l ≡ true) (λ _. and_from _ _ h k)
    (λ _. and_from _ _ (every_place b (unlike y.number) x ys (let z = q.0 in grind (arith, nat_tests)) p.0) (apart_place b x ys q.1 p.1))

pub apart_out : (fs rs : List Resting) (x : Resting) → resting_apart (fs ++ x ∷ rs) ≡ true → resting_apart (fs ++ rs) ≡ true
apart_out [] rs x h = (and_parts (every (unlike x.number) rs) (resting_apart rs) h).1
apart_out (f ∷ fs) rs x h =
    let p = and_parts (every (unlike f.number) (fs ++ x ∷ rs)) (resting_apart (fs ++ x ∷ rs)) h in
    and_from _ _ (every_out (unlike f.number) fs rs x p.0) (apart_out fs rs x p.1)

-- a line changed that keeps its number
pub apart_swap : (fs rs : List Resting) (x y : Resting) → y.number ≡ x.number → resting_apart (fs ++ x ∷ rs) ≡ true → resting_apart (fs ++ y ∷ rs) ≡ true
apart_swap [] rs x y e h =
    let p = and_parts (every (unlike x.number) rs) (resting_apart rs) h in
    and_from _ _ (ap (λ n. every (unlike n) rs) e ∙ p.0) p.1
apart_swap (f ∷ fs) rs x y e h =
    let p = and_parts (every (unlike f.number) (fs ++ x ∷ rs)) (resting_apart (fs ++ x ∷ rs)) h in
    and_from _ _ (every_swap (unlike f.number) fs rs x y (λ g. ap (λ n. not (eqb n f.number)) e ∙ g) p.0) (apart_swap fs rs x y e p.1)

pub routes_place : (b : Route → Route → Bool) (x : Route) (xs : List Route) → every (route_unlike x.number) xs ≡ true → routes_apart xs ≡ true → routes_apart (place b x xs) ≡ true
routes_place b x [] h k = refl
routes_place b x (y ∷ ys) h k =
    let p = and_parts (every (route_unlike y.number) ys) (routes_apart ys) k in
    let q = and_parts (route_unlike x.number y) (every (route_unlike x.number) ys) h in
    cond_both (b x y) (x ∷ y ∷ ys) (y ∷ place b x ys) (λ l. routes_apart l ≡ true) (λ _. and_from _ _ h k)
    (λ _. and_from _ _ (every_place b (route_unlike y.number) x ys (let z = q.0 in grind (arith, nat_tests)) p.0) (routes_place b x ys q.1 p.1))

pub routes_out : (fs rs : List Route) (x : Route) → routes_apart (fs ++ x ∷ rs) ≡ true → routes_apart (fs ++ rs) ≡ true
routes_out [] rs x h = (and_parts (every (route_unlike x.number) rs) (routes_apart rs) h).1
routes_out (f ∷ fs) rs x h =
    let p = and_parts (every (route_unlike f.number) (fs ++ x ∷ rs)) (routes_apart (fs ++ x ∷ rs)) h in
    and_from _ _ (every_out (route_unlike f.number) fs rs x p.0) (routes_out fs rs x p.1)

-- What a sound book says of each of its lines.
use Rattle.std.proofs.Common.{◌≡◌, ℕ, ◌+◌, ◌<◌, ◌≤◌, Bool, true, not, ◌&&◌, leb, List, [], ◌∷◌, refl, arith}
use Rattle.std.proofs.lemmas.Bool.{and_parts, and_from}
use Rattle.std.proofs.lemmas.Bool.Decides.{nat_tests}
use Rattle.ranking.specs.Place.{every, none_before, in_rank}
use Rattle.market.specs.declared.types.Side.{Side}
use Rattle.market.specs.declared.types.Side.TheVariants.{Buy, Sell}
use Rattle.market.specs.declared.types.Resting.{Resting}
use Rattle.market.specs.declared.types.Route.{Route}
use Rattle.market.specs.Sides.{across_of, route_before}
use Rattle.market.specs.Legal.{legal_user}
use Rattle.market.specs.States.{State, on, resting_bears, route_bears}
use Rattle.soundness.proofs.Lists.{unlike, route_unlike, Absent, Unsent, every_imp}
use Rattle.market.specs.Sound.{resting_fair, route_fair, resting_apart, routes_apart, parted, Sound}

-- a resting order of a book whose next number is this, among the orders behind it and those across
pub record Fit (next : ℕ) (others behind : List Resting) (p : Resting) : Type 0 where
  pub fair : resting_fair next p ≡ true
  pub given : p.number < next
  pub user : legal_user p.user ≡ true
  pub low : 1 ≤ p.price
  pub high : p.price ≤ 2000000000
  pub size : p.shown + p.held ≤ 999999
  pub apart : Absent p.number behind
  pub across : Absent p.number others

abbrev pub Row : ℕ → List Resting → List Resting → Type 0
Row next others [] = Unit {0}
Row next others (p ∷ ps) = Fit next others ps p × Row next others ps

-- open routes rise by number from low, each under next, with shares out
pub record Open (next : ℕ) (r : Route) : Type 0 where
  pub given : r.number < next
  pub some : 1 ≤ r.out

abbrev pub Rising : ℕ → ℕ → List Route → Type 0
Rising next low [] = Unit {0}
Rising next low (r ∷ rs) = (low ≤ r.number) × Open next r × Rising next (r.number + 1) rs

-- a test of every two lines, the other way round
every_turned : {X Y : Type 0} (t : X → Y → Bool) (xs : List X) (ys : List Y) → every (λ x. every (t x) ys) xs ≡ true → every (λ y. every (λ x. t x y) xs) ys ≡ true
every_turned t xs [] h = refl
every_turned t xs (y ∷ ys) h =
    and_from (every (λ x. t x y) xs) (every (λ y. every (λ x. t x y) xs) ys)
    (every_imp (λ x. t x y && every (t x) ys) (λ x. t x y) xs (λ x e. (and_parts (t x y) (every (t x) ys) e).0) h)
    (every_turned t xs ys (every_imp (λ x. t x y && every (t x) ys) (λ x. every (t x) ys) xs (λ x e. (and_parts (t x y) (every (t x) ys) e).1) h))

-- what a fair line says, while numbers are unused
module _ (next : ℕ) (more : 1 ≤ next) where
  fit : (others behind : List Resting) (p : Resting) → resting_fair next p ≡ true → Absent p.number behind → Absent p.number others → Fit next others behind p
  fit others behind p fair a b = record {
    fair = fair;
    given = grind (arith, nat_tests);
    user = grind (arith, nat_tests);
    low = grind (arith, nat_tests);
    high = grind (arith, nat_tests);
    size = grind (arith, nat_tests);
    apart = a;
    across = b;
  }

  opens : (r : Route) → route_fair next r ≡ true → Open next r
  opens r fair = record { given = grind (arith, nat_tests); some = grind (arith, nat_tests) }

  pub fair_absent : (m : ℕ) → next ≤ m → (ps : List Resting) → every (resting_fair next) ps ≡ true → Absent m ps
  fair_absent m l ps = every_imp (resting_fair next) (unlike m) ps (λ p fair. grind (arith, nat_tests))

  pub fair_unsent : (m : ℕ) → next ≤ m → (rs : List Route) → every (route_fair next) rs ≡ true → Unsent m rs
  fair_unsent m l rs = every_imp (route_fair next) (route_unlike m) rs (λ r fair. grind (arith, nat_tests))

  row : (others ps : List Resting) → every (resting_fair next) ps ≡ true → resting_apart ps ≡ true → every (λ p. every (λ x. not (resting_bears p.number x)) others) ps ≡ true → Row next others ps
  row others [] h a c = tt
  row others (p ∷ ps) h a c =
      let h' = and_parts (resting_fair next p) (every (resting_fair next) ps) h in
      let a' = and_parts (every (λ x. not (resting_bears p.number x)) ps) (resting_apart ps) a in
      let c' = and_parts (every (λ x. not (resting_bears p.number x)) others) (every (λ p. every (λ x. not (resting_bears p.number x)) others) ps) c in
      (fit others ps p h'.0 a'.0 c'.0, row others ps h'.1 a'.1 c'.1)

  rising : (low : ℕ) (rs : List Route) → every (λ r. leb low r.number) rs ≡ true → every (route_fair next) rs ≡ true → in_rank route_before rs ≡ true → routes_apart rs ≡ true → Rising next low rs
  rising low [] l h k a = tt
  rising low (r ∷ rs) l h k a =
      let l' = and_parts (leb low r.number) (every (λ r. leb low r.number) rs) l in
      let h' = and_parts (route_fair next r) (every (route_fair next) rs) h in
      let k' = and_parts (none_before route_before r rs) (in_rank route_before rs) k in
      let a' = and_parts (every (λ x. not (route_bears r.number x)) rs) (routes_apart rs) a in
      (low_here l'.0, opens r h'.0, rising (r.number + 1) rs (behind r rs k'.0 a'.0) h'.1 k'.1 a'.1)
    where
      low_here : leb low r.number ≡ true → low ≤ r.number
      low_here e = grind (arith, nat_tests)

      behind : (r : Route) (xs : List Route) → none_before route_before r xs ≡ true → every (λ x. not (route_bears r.number x)) xs ≡ true → every (λ x. leb (r.number + 1) x.number) xs ≡ true
      behind r [] h k = refl
      behind r (x ∷ xs) h k =
          let b = and_parts (not (route_before x r)) (none_before route_before r xs) h in
          let c = and_parts (not (route_bears r.number x)) (every (λ x. not (route_bears r.number x)) xs) k in
          and_from (leb (r.number + 1) x.number) (every (λ x. leb (r.number + 1) x.number) xs) (above b.0 c.0) (behind r xs b.1 c.1)
        where
          above : not (route_before x r) ≡ true → not (route_bears r.number x) ≡ true → leb (r.number + 1) x.number ≡ true
          above h k = grind (arith, nat_tests)

-- the rows of a sound book
module _ (s : State) (sound : Sound s) (more : 1 ≤ s.next) where
  pub side_row : (d : Side) → Row s.next (on (across_of d) s) (on d s)
  side_row Buy =
      row s.next more s.sells s.buys sound.1.0 sound.2.0
      (every_imp (λ b. every (parted b) s.sells) (λ b. every (unlike b.number) s.sells) s.buys (λ b. every_imp (parted b) (unlike b.number) s.sells (clear b)) sound.3.0)
    where
      clear : (b x : Resting) → parted b x ≡ true → not (resting_bears b.number x) ≡ true
      clear b x h = grind (arith, nat_tests)
  side_row Sell =
      row s.next more s.buys s.sells sound.1.1 sound.2.1
      (every_imp (λ x. every (λ b. parted b x) s.buys) (λ x. every (unlike x.number) s.buys) s.sells (λ x. every_imp (λ b. parted b x) (unlike x.number) s.buys (clear x)) (every_turned parted s.buys s.sells sound.3.0))
    where
      clear : (x b : Resting) → parted b x ≡ true → not (resting_bears x.number b) ≡ true
      clear x b h = grind (arith, nat_tests)

  pub routes_rising : Rising s.next 1 s.routes
  routes_rising = rising s.next more 1 s.routes (every_imp (route_fair s.next) (λ r. leb 1 r.number) s.routes positive sound.1.2) sound.1.2 sound.0.2 sound.2.2
    where
      positive : (r : Route) → route_fair s.next r ≡ true → leb 1 r.number ≡ true
      positive r h = grind (arith, nat_tests)

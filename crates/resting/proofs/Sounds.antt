-- A state whose lists are known is sound where the same lists are.
use Rattle.std.proofs.Common.{◌≡◌, ℕ, ◌+◌, ◌<◌, ◌≤◌, true, List, length, get_or, take, drop, sym, refl, ap, ◌∙◌, subst, arith}
use Rattle.std.proofs.lemmas.Bool.Decides.{nat_tests}
use Rattle.std.specs.List.{remove}
use Rattle.ranking.specs.Lists.{Bounded, lines_of}
use Rattle.ranking.specs.Place.{spot_at, every}
use Rattle.market.specs.declared.types.Side.{Side}
use Rattle.market.specs.declared.types.Side.TheVariants.{Buy, Sell}
use Rattle.market.specs.declared.types.Resting.{Resting}
use Rattle.market.specs.declared.types.Route.{Route}
use Rattle.market.specs.Sides.{pick}
use Rattle.market.specs.States.{State, state, on, put, with_routes}
use Rattle.market.specs.Orders.{total}
use Rattle.market.specs.Sound.{Sound, resting_fair}
use Rattle.soundness.proofs.Lists.{every_at}
use Rattle.soundness.proofs.Keeps.{sound_out, sound_trimmed, sound_unrouted}
use Rattle.resting.specs.Sides.{total_at, trim_at}
use Rattle.resting.specs.Orders.{state_of}
use Rattle.resting.specs.declared.orders.OpenOrders.{OpenOrders}
use Rattle.resting.proofs.Places.{split_at, removed_is, trim_is, total_is}

-- what the type of the open orders says
pub sound_of : (o : OpenOrders) → Sound (state_of o)
sound_of o = o.sound

-- the list of a side, and the state with another list in its place
pub on_side : (d : Side) (o : OpenOrders) (l : Bounded 256 Resting) → l ≡ pick d o.sides.buy o.sides.sell → lines_of l ≡ on d (state_of o)
on_side Buy o l e = ap lines_of e
on_side Sell o l e = ap lines_of e

pub put_side : (d : Side) (o : OpenOrders) (l : Bounded 256 Resting) → state (lines_of (pick d l o.sides.buy)) (lines_of (pick d o.sides.sell l)) (lines_of o.routes) o.next ≡ put d (lines_of l) (state_of o)
put_side Buy o l = refl
put_side Sell o l = refl

-- a side changed, so that the state stays sound
pub sound_put : (d : Side) (o : OpenOrders) (l : Bounded 256 Resting) (xs : List Resting) → lines_of l ≡ xs → Sound (put d xs (state_of o)) → Sound (state (lines_of (pick d l o.sides.buy)) (lines_of (pick d o.sides.sell l)) (lines_of o.routes) o.next)
sound_put d o l xs e h =
    let P : State → Type 0 = Sound in
    subst P (sym (put_side d o l ∙ ap (λ ys. put d ys (state_of o)) e)) h

-- the order at a place taken out
pub sound_removed : (d : Side) (i : ℕ) (x : Resting) (s : State) → i < length (on d s) → Sound s → Sound (put d (remove (on d s) i) s)
sound_removed d i x s h k =
    let P : List Resting → Type 0 = λ l. Sound (put d l s) in
    subst P (sym (removed_is (on d s) i)) (sound_out d (spot_at (on d s) i x) s (split_at (on d s) i x h) k)

-- the order at a place cut
pub sound_trim : (d : Side) (i k : ℕ) (x : Resting) (s : State) → i < length (on d s) → k < total_at i (on d s) → Sound s → Sound (put d (trim_at i k (on d s)) s)
sound_trim d i k x s h f z =
    let P : List Resting → Type 0 = λ l. Sound (put d l s) in
    subst P (sym (trim_is (on d s) i k x h)) (sound_trimmed d k (spot_at (on d s) i x) s (split_at (on d s) i x h) (subst (λ (n : ℕ). k < n) (total_is (on d s) i x h) f) z)

-- the route at a place ended
pub sound_ended : (i : ℕ) (x : Route) (s : State) (l : List Route) → i < length s.routes → l ≡ remove s.routes i → Sound s → Sound (with_routes l s)
sound_ended i x s l h e k =
    let P : List Route → Type 0 = λ y. Sound (with_routes y s) in
    subst P (sym (e ∙ removed_is s.routes i)) (sound_unrouted (spot_at s.routes i x) s (split_at s.routes i x h) k)

few : (n : ℕ) (p : Resting) → resting_fair n p ≡ true → total p ≤ 999999
few n p h = grind (arith, nat_tests)

few_at : (n : ℕ) (xs : List Resting) (i : ℕ) (x : Resting) → i < length xs → x ≡ get_or xs i x → every (resting_fair n) xs ≡ true → total x ≤ 999999
few_at n xs i x h e f =
    let g : resting_fair n (get_or xs i x) ≡ true = every_at (resting_fair n) (take i xs) (drop (i + 1) xs) (get_or xs i x) (sym (ap (every (resting_fair n)) (split_at xs i x h)) ∙ f) in
    few n x (ap (resting_fair n) e ∙ g)

-- the shares of the order at a place add up to a legal size
pub few_on : (d : Side) (o : OpenOrders) (i : ℕ) (x : Resting) → i < length (on d (state_of o)) → x ≡ get_or (on d (state_of o)) i x → total x ≤ 999999
few_on Buy o i x h e = few_at o.next (lines_of o.sides.buy) i x h e o.sound.1.0
few_on Sell o i x h e = few_at o.next (lines_of o.sides.sell) i x h e o.sound.1.1

-- an order that fills in past the end of a list
abbrev pub no_order : Resting
no_order = record { number = 0; user = 0; price = 0; shown = 0; held = 0; show = 0 }

-- What comes into hand, and what is taken from a board, fits.
use Rattle.std.proofs.Common.{◌≡◌, ℕ, ◌<◌, ◌≤◌, Bool, true, false, cond, eqb, List, [], ◌∷◌, length, get_or, Some, None, Option, IfSome, refl, sym, ap, ◌∙◌, subst, arith}
use Rattle.std.proofs.lemmas.Bool.Decides.{nat_tests}
use Rattle.ranking.specs.Place.{head_of, spot_at}
use Rattle.market.specs.declared.types.Resting.{Resting}
use Rattle.market.specs.declared.types.Route.{Route}
use Rattle.market.specs.declared.types.Order.{Order}
use Rattle.market.specs.States.{State}
use Rattle.market.specs.Orders.{returned}
use Rattle.market.specs.Sound.{Sound, able}
use Rattle.soundness.proofs.Hands.{able_returned}
use Rattle.resting.specs.Sides.{first_shown}
use Rattle.resting.proofs.Places.{split_at}

-- shares that come back may be in hand
pub able_back : (s : State) (k i : ℕ) (x : Route) (o : Order) → i < length s.routes → x ≡ get_or s.routes i x → k ≤ x.out → (k ≡ x.out → ⊥) → o ≡ returned k x → Sound s → able o ≡ true
able_back s k i x o h e l ne eo z =
    let r = spot_at s.routes i x in
    let lt : k < x.out = omega arith in
    ap able (eo ∙ ap (returned k) e) ∙ able_returned r s (split_at s.routes i x h) z k (subst (λ (y : Route). k < y.out) e lt)

-- so may what comes back, if any
pub able_left : (s : State) (k i : ℕ) (x : Route) (b : Bool) (left : Option Order) → i < length s.routes → x ≡ get_or s.routes i x → k ≤ x.out → eqb x.out k ≡ b → left ≡ cond b None (Some (returned k x)) → Sound s → IfSome left (λ o. able o ≡ true)
able_left s k i x true left h e l eb el z = subst (λ y. IfSome y (λ o. able o ≡ true)) (sym el) tt
able_left s k i x false left h e l eb el z =
    let ne : k ≡ x.out → ⊥ = λ w. grind (arith, nat_tests) in
    subst (λ y. IfSome y (λ o. able o ≡ true)) (sym el) (able_back s k i x (returned k x) h e l ne refl z)

-- the first resting order displays what a trade reads
pub shown_first : (xs : List Resting) (x : Resting) (shown : ℕ) → Some x ≡ head_of xs → x.shown ≡ shown → shown ≤ first_shown xs
shown_first [] x shown e f = grind arith
shown_first (y ∷ ys) x shown e f = let same : x ≡ y = cc in subst (λ (n : ℕ). n ≤ y.shown) (ap (λ z. z.shown) (sym same) ∙ f) (omega arith)

-- What is left in hand, or comes back in hand, may be worked.
use Rattle.std.proofs.Common.{◌≡◌, ℕ, ◌-◌, ◌<◌, ◌≤◌, min, Bool, true, false, cond, eqb, ◌≢◌, List, [], ◌∷◌, ◌++◌, Some, None, sym, refl, ap, ◌∙◌, arith}
use Rattle.std.proofs.lemmas.Bool.Decides.{nat_tests}
use Rattle.std.proofs.lemmas.Bool.{and_parts, and_from, eqb-false}
use Rattle.ranking.specs.Place.{Spot, every}
use Rattle.market.specs.declared.types.Side.{Side}
use Rattle.market.specs.declared.types.Side.TheVariants.{Buy, Sell}
use Rattle.market.specs.declared.types.Route.{Route}
use Rattle.market.specs.declared.types.Quotation.{Quotation}
use Rattle.market.specs.declared.types.Order.{Order}
use Rattle.market.specs.declared.types.Terms.{Terms}
use Rattle.market.specs.declared.types.Move.{Move}
use Rattle.market.specs.declared.types.Move.TheVariants.{Trade, Send, TakeOff, Rest}
use Rattle.market.specs.Sides.{across_of, route_before}
use Rattle.market.specs.Numbers.{given}
use Rattle.market.specs.States.{State, Quotes, on, put, with_routes, free, fits}
use Rattle.market.specs.Orders.{traded, entered, remaining, with_shares, returned}
use Rattle.market.specs.Steps.{move_of, act, step}
use Rattle.market.specs.Calls.{terms_refusal}
use Rattle.market.specs.Sound.{Sound, able, routes_apart, route_fair, clear_of}
use Rattle.soundness.proofs.Lists.{unlike, route_unlike, every_place, every_at}
use Rattle.soundness.proofs.Trades.{every_stays}
use Rattle.soundness.proofs.Keeps.{given_on, not_given}
use Rattle.soundness.proofs.Moves.{send_when}

able_with : (n : ℕ) (o : Order) → 0 < n → n ≤ o.shares → able o ≡ true → able (with_shares n o) ≡ true
able_with n o p l a = grind (arith, nat_tests)

-- what is left once k shares are gone: the same order with the others
pub left_is : (k : ℕ) (o o' : Order) → Some o' ≡ remaining k o → (o.shares ≢ k) × (o' ≡ with_shares (o.shares - k) o)
left_is k o o' e = at (eqb o.shares k) refl e
  where
    at : (t : Bool) → eqb o.shares k ≡ t → Some o' ≡ cond t None (Some (with_shares (o.shares - k) o)) → (o.shares ≢ k) × (o' ≡ with_shares (o.shares - k) o)
    at true u v = let z : ◌≡◌ {A = ℕ} 0 1 = cc in absurd (omega arith)
    at false u v = (eqb-false o.shares k u, cc)

able_left : (k : ℕ) (o o' : Order) → k ≤ o.shares → able o ≡ true → Some o' ≡ remaining k o → able o' ≡ true
able_left k o o' l a e = let w = left_is k o o' e in rw w.1 (able_with (o.shares - k) o (let z = w.0 in omega arith) (omega arith) a)

able_act : (m : Move) (s : State) (q : Quotes) (o o' : Order) → able o ≡ true → Some o' ≡ (act m s q o).left → able o' ≡ true
able_act (Trade n price shown) s q o o' a e = able_left (min o.shares shown) o o' (omega arith) a e
able_act (Send x) s q o o' a e = able_left (min o.shares x.size) o o' (omega arith) a e
able_act (TakeOff why) s q o o' a e = grind arith
able_act Rest s q o o' a e = grind arith

pub able_after : (s : State) (q : Quotes) (o o' : Order) → able o ≡ true → Some o' ≡ (step s q o).left → able o' ≡ true
able_after s q o o' = able_act (move_of s q o) s q o o'

left_number : (k : ℕ) (o o' : Order) → Some o' ≡ remaining k o → o'.number ≡ o.number
left_number k o o' e = ap (λ (x : Order). x.number) (left_is k o o' e).1

number_act : (m : Move) (s : State) (q : Quotes) (o o' : Order) → Some o' ≡ (act m s q o).left → o'.number ≡ o.number
number_act (Trade n price shown) s q o o' e = left_number _ o o' e
number_act (Send x) s q o o' e = left_number _ o o' e
number_act (TakeOff why) s q o o' e = grind arith
number_act Rest s q o o' e = grind arith

free_traded : (d : Side) (k n : ℕ) (s : State) → free n s ≡ true → free n (put d (traded d k (on d s)) s) ≡ true
free_traded Buy k n s h =
    let p = and_parts (every (unlike n) s.buys) _ h in
    and_from _ _ (every_stays Buy k (unlike n) s.buys (λ _. refl) (λ _. refl) p.0) p.1
free_traded Sell k n s h =
    let p = and_parts (every (unlike n) s.buys) _ h in
    let q = and_parts (every (unlike n) s.sells) _ p.1 in
    and_from _ _ p.0 (and_from _ _ (every_stays Sell k (unlike n) s.sells (λ _. refl) (λ _. refl) q.0) q.1)

fits_act : (m : Move) (s : State) (q : Quotes) (o o' : Order) → ((x : Quotation) → m ≡ Send x → s.next ≡ 0 → ⊥) → fits o.number s ≡ true → Some o' ≡ (act m s q o).left → fits o.number (act m s q o).state ≡ true
fits_act (Trade n price shown) s q o o' f h e =
    let z = and_parts (given o.number s.next) (free o.number s) h in
    and_from _ _ z.0 (free_traded (across_of o.side) _ o.number s z.1)
fits_act (Send x) s q o o' f h e =
    let ne = f x refl in
    let z = and_parts (given o.number s.next) (free o.number s) h in
    let u = and_parts (every (unlike o.number) s.buys) _ z.1 in
    let v = and_parts (every (unlike o.number) s.sells) _ u.1 in
    let w = not_given o.number s.next ne z.0 in
    and_from _ _ (given_on o.number s.next ne z.0) (and_from _ _ u.0 (and_from _ _ v.0 (every_place route_before (route_unlike o.number) _ s.routes (grind (arith, nat_tests)) v.1)))
fits_act (TakeOff why) s q o o' f h e = h
fits_act Rest s q o o' f h e = grind arith

-- what is left in hand has a number that is given and free
pub fits_after : (s : State) (q : Quotes) (o o' : Order) → fits o.number s ≡ true → Some o' ≡ (step s q o).left → fits o'.number (step s q o).state ≡ true
fits_after s q o o' h e =
    ap (λ n. fits n (step s q o).state) (number_act (move_of s q o) s q o o' e) ∙ fits_act (move_of s q o) s q o o' (λ x m. (send_when s q o x m).3) h e

-- an entry that is not refused may be in hand
pub able_entered : (d : Side) (t : Terms) (n : ℕ) → None ≡ terms_refusal t → able (entered d t n) ≡ true
able_entered d t n e = grind (arith, nat_tests)

-- shares that come back may be in hand
able_route : (n k : ℕ) (r : Route) → k < r.out → route_fair n r ≡ true → able (returned k r) ≡ true
able_route n k r l f = grind (arith, nat_tests)

module _ (r : Spot Route) (s : State) (e : s.routes ≡ r.front ++ r.line ∷ r.rest) (h : Sound s) where
  pub able_returned : (k : ℕ) → k < r.line.out → able (returned k r.line) ≡ true
  able_returned k l = able_route s.next k r.line l (every_at (route_fair s.next) r.front r.rest r.line (sym (ap (every (route_fair s.next)) e) ∙ h.1.2))

  -- a line of distinct routes bears a number of its own
  own : (fs rs : List Route) (x : Route) → routes_apart (fs ++ x ∷ rs) ≡ true → every (route_unlike x.number) (fs ++ rs) ≡ true
  own [] rs x a = (and_parts (every (route_unlike x.number) rs) (routes_apart rs) a).0
  own (f ∷ fs) rs x a =
      let p = and_parts (every (route_unlike f.number) (fs ++ x ∷ rs)) (routes_apart (fs ++ x ∷ rs)) a in
      let z = every_at (route_unlike f.number) fs rs x p.0 in
      and_from _ _ (grind (arith, nat_tests)) (own fs rs x p.1)

  pub fits_returned : fits r.line.number (with_routes (r.front ++ r.rest) s) ≡ true
  fits_returned =
      let at : (t : Route → Bool) → every t s.routes ≡ true → t r.line ≡ true = λ t z. every_at t r.front r.rest r.line (sym (ap (every t) e) ∙ z) in
      let fair = at (route_fair s.next) h.1.2 in
      let a : routes_apart (r.front ++ r.line ∷ r.rest) ≡ true = sym (ap routes_apart e) ∙ h.2.2 in
      and_from _ _ (and_parts (given r.line.number s.next) _ fair).0
      (and_from _ _ (at (λ x. every (clear_of x) s.buys) h.3.1) (and_from _ _ (at (λ x. every (clear_of x) s.sells) h.3.2) (own r.front r.rest r.line a)))

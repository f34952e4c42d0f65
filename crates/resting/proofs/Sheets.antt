-- What the comparison of two chains by `eq` says of the lists that they give, and that of open orders of their sheets.
use Rattle.std.proofs.Common.{◌≡◌, Bool, true, false, List, [], ◌∷◌, map, Some, None, Decides, Option, refl, sym, ap, ap₂, ◌∙◌, subst, rules}
use Rattle.market.specs.declared.types.Side.{Side}
use Rattle.market.specs.declared.types.Side.TheVariants.{Buy, Sell}
use Rattle.market.specs.States.{State, on}
use Rattle.market.specs.Sheets.{line, route_line, sheet, Equal}
use Rattle.std.specs.Option.{MatchOption, IfSome}
use Rattle.std.specs.Iterator.{AlwaysYields, YieldsThen, ComparesItemsByEq}
use Rattle.std.specs.List.{AllZip}
use Rattle.std.proofs.lemmas.Bool.{both_ways, and_parts, and_from}
use Rattle.std.proofs.lemmas.Bool.Decides.{Decides-eqb}
use Rattle.std.proofs.lemmas.Slice.Eq.{slice_eq-Decides}
use Rattle.market.specs.declared.types.Resting.{Resting}
use Rattle.market.specs.declared.types.Route.{Route}
use Rattle.market.specs.contracts.types.RestingPartialEq.TheImpl as resting
use Rattle.market.specs.contracts.types.RoutePartialEq.TheImpl as route
use Rattle.resting.specs.Orders.{state_of}
use Rattle.resting.specs.Sheets.{same_sheet}
use Rattle.resting.specs.declared.orders.OpenOrders.{OpenOrders}
use Rattle.std.proofs.lemmas.Iterator.{YieldsList}

module _ {S T A : Type 0} (steps : S → Option A → S → Type 0) (others : T → Option A → T → Type 0) (eq : A → A → Bool) (decides : (x y : A) → Decides (eq x y) (x ≡ y)) (r : Bool) where
  abbrev Last : Option A → Option A → Type 0
  Last o p = MatchOption o (MatchOption p (r ≡ true) (λ _. r ≡ false)) (λ x. (r ≡ false) × IfSome p (λ y. eq x y ≡ false))

  not_so : {P : Type 0} → r ≡ false → (P → ⊥) → Decides r P
  not_so f n = (λ t. absurd (both_ways r f t), λ p. absurd (n p))

  at_last : (o p : Option A) (xs ys : List A) (s u : S) (t w : T) → AlwaysYields steps (λ x. x) s xs → AlwaysYields others (λ x. x) t ys → steps s o u → others t p w → Last o p → Decides r (xs ≡ ys)
  at_last None None (x ∷ xs) ys s u t w e f a b h = absurd (e.0 u a)
  at_last None (Some y) (x ∷ xs) ys s u t w e f a b h = absurd (e.0 u a)
  at_last (Some x) None [] ys s u t w e f a b h = absurd (e x u a)
  at_last (Some x) (Some y) [] ys s u t w e f a b h = absurd (e x u a)
  at_last None None [] (y ∷ ys) s u t w e f a b h = absurd (f.0 w b)
  at_last None (Some y) [] [] s u t w e f a b h = absurd (f y w b)
  at_last (Some x) None (z ∷ xs) (y ∷ ys) s u t w e f a b h = absurd (f.0 w b)
  at_last (Some x) (Some y) (z ∷ xs) [] s u t w e f a b h = absurd (f y w b)
  at_last None None [] [] s u t w e f a b h = (λ _. refl, λ _. h)
  at_last None (Some y) [] (z ∷ ys) s u t w e f a b h = not_so h (λ k. cc)
  at_last (Some x) None (z ∷ xs) [] s u t w e f a b h = not_so h.0 (λ k. cc)
  at_last (Some x) (Some y) (x' ∷ xs) (y' ∷ ys) s u t w e f a b h =
      let left = (e.1 x u a).0 in
      let right = (f.1 y w b).0 in
      not_so h.0 (λ k. let same : x ≡ y = cc in both_ways (eq x y) h.1 ((decides x y).1 same))

  along : (cs bs : List A) (o p : Option A) (xs ys : List A) (s u : S) (t w : T) → AlwaysYields steps (λ x. x) s xs → AlwaysYields others (λ x. x) t ys
      → YieldsThen steps s cs o u → YieldsThen others t bs p w → AllZip (λ x y. eq x y ≡ true) cs bs → Last o p → Decides r (xs ≡ ys)
  along [] [] o p xs ys s u t w e f a b z h = at_last o p xs ys s u t w e f (subst (λ j. steps j o u) (sym a.1) a.2) (subst (λ j. others j p w) (sym b.1) b.2) h
  along [] (y ∷ bs) o p xs ys s u t w e f a b z h = absurd z
  along (x ∷ cs) [] o p xs ys s u t w e f a b z h = absurd z
  along (x ∷ cs) (y ∷ bs) o p [] ys s u t w e f a b z h = absurd (e x a.1.0 a.1.1)
  along (x ∷ cs) (y ∷ bs) o p (x' ∷ xs) [] s u t w e f a b z h = absurd (f y b.1.0 b.1.1)
  along (x ∷ cs) (y ∷ bs) o p (x' ∷ xs) (y' ∷ ys) s u t w e f a b z h =
      let m = e.1 x a.1.0 a.1.1 in
      let n = f.1 y b.1.0 b.1.1 in
      let here : x ≡ y = (decides x y).0 z.0 in
      let rest = along cs bs o p xs ys a.1.0 u b.1.0 w m.1 n.1 (a.0, a.1.2, a.2) (b.0, b.1.2, b.2) z.1 h in
      (λ t. ap₂ ◌∷◌ (sym m.0 ∙ here ∙ n.0) (rest.0 t), λ k. let tails : xs ≡ ys = cc in rest.1 tails)

-- `eq` of two chains tells whether the lists that they give are the same
pub same_from_eq : {S T A : Type 0} {steps : S → Option A → S → Type 0} {others : T → Option A → T → Type 0} {s : S} {eq : A → A → Bool} {xs ys : List A}
    (other : T) (r : Bool) → ComparesItemsByEq steps (λ (x y : T). y ≡ x) others s other eq r
    → YieldsList steps (λ x. x) s xs → YieldsList others (λ x. x) other ys → ((x y : A) → Decides (eq x y) (x ≡ y)) → Decides r (xs ≡ ys)
same_from_eq {A = A} {steps = steps} {others = others} {s = s} {eq = eq} {xs = xs} {ys = ys} other r d e f decides =
    along steps others eq decides r d.1 d.2 d.3 d.4 xs ys s d.5 d.0 d.6 e.runs (subst (λ it. AlwaysYields others (λ (x : A). x) it ys) (sym d.7) f.runs) d.8 d.9 d.10 d.11

-- what is decided of a side's lines is decided of that side of the sheets
pub decided_on : (d : Side) (s s' : State) (r : Bool) → Decides r (map line (on d s) ≡ map line (on d s')) → Decides r (on d (sheet s) ≡ on d (sheet s'))
decided_on Buy s s' r h = h
decided_on Sell s s' r h = h

same_resting : (x y : Resting) → Decides (resting.ghosts.eq x y) (x ≡ y)
same_resting x y = search rules

same_route : (x y : Route) → Decides (route.ghosts.eq x y) (x ≡ y)
same_route x y = search rules

-- the comparison tells whether the sheets are the same
pub same_sheet_decides : (x y : OpenOrders) → Decides (same_sheet x y) (Equal (state_of x) (state_of y))
same_sheet_decides x y =
    let s = state_of x in
    let z = state_of y in
    let n = Decides-eqb s.next z.next in
    let b = slice_eq-Decides same_resting (map line s.buys) (map line z.buys) _ refl in
    let o = slice_eq-Decides same_resting (map line s.sells) (map line z.sells) _ refl in
    let r = slice_eq-Decides same_route (map route_line s.routes) (map route_line z.routes) _ refl in
    let forth : same_sheet x y ≡ true → Equal s z = λ t.
    let t0 = and_parts _ _ t in
    let t1 = and_parts _ _ t0.1 in
    let t2 = and_parts _ _ t1.1 in
    let e0 = n.0 t0.0 in
    let e1 = b.0 t1.0 in
    let e2 = o.0 t2.0 in
    let e3 = r.0 t2.1 in
    cc in
    let back : Equal s z → same_sheet x y ≡ true = λ e. and_from _ _ (n.1 (ap (λ x. x.next) e)) (and_from _ _ (b.1 (ap (λ x. x.buys) e)) (and_from _ _ (o.1 (ap (λ x. x.sells) e)) (r.1 (ap (λ x. x.routes) e)))) in
    (forth, back)

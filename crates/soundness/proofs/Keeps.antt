-- Each move keeps a sound book sound.
use Rattle.std.proofs.Common.{◌≡◌, ℕ, ◌-◌, ◌<◌, ◌≤◌, Bool, true, false, not, ◌&&◌, eqb, List, [], ◌∷◌, ◌++◌, sym, refl, ap, ◌∙◌, subst, arith}
use Rattle.std.proofs.lemmas.Bool.Decides.{nat_tests}
use Rattle.std.proofs.lemmas.Bool.{and_parts, and_from}
use Rattle.ranking.specs.Place.{Spot, place, every, none_before, in_rank, head_of}
use Rattle.market.specs.declared.types.Side.{Side}
use Rattle.market.specs.declared.types.Side.TheVariants.{Buy, Sell}
use Rattle.market.specs.declared.types.Resting.{Resting}
use Rattle.market.specs.declared.types.Route.{Route}
use Rattle.market.specs.declared.types.Order.{Order}
use Rattle.market.specs.declared.types.Quotation.{Quotation}
use Rattle.market.specs.Sides.{resting_before, route_before, across_of, within}
use Rattle.market.specs.Numbers.{given, after}
use Rattle.market.specs.States.{State, state, on, put, with_routes, numbered, free, fits, new_state}
use Rattle.market.specs.Orders.{total, traded, trimmed, rested, routed, sharing}
use Rattle.market.specs.Steps.{resting_near}
use Rattle.market.specs.Sound.{Sound, able, resting_apart, routes_apart, resting_fair, route_fair, parted, clear_of}
use Rattle.soundness.specs.Rest.{Restable}
use Rattle.soundness.proofs.Lists.{unlike, route_unlike, every_place, every_imp, every_both, every_out, every_swap, rank_place, rank_route, rank_out, rank_swap, apart_place, apart_out, apart_swap, routes_place, routes_out}
use Rattle.soundness.proofs.Trades.{every_traded, every_stays, apart_traded, rank_traded, fair_less, fair_refresh}

pub sound_new : (n : ℕ) → Sound (new_state n)
sound_new n = ((refl, refl, refl), (refl, refl, refl), (refl, refl, refl), (refl, refl, refl))

-- the opposite side after a trade
pub sound_traded : (d : Side) (k : ℕ) (s : State) → Sound s → Sound (put d (traded d k (on d s)) s)
sound_traded Buy k s ((br, sr, rr), (bf, sf, rf), (ba, sa, ra), (bs, rb, rs)) = (
  (rank_traded Buy k s.buys br, sr, rr),
  (every_traded Buy k (resting_fair s.next) s.buys (fair_less s.next k) (fair_refresh s.next k) bf, sf, rf),
  (apart_traded Buy k s.buys ba, sa, ra),
  (
    every_stays Buy k (λ b. every (parted b) s.sells) s.buys (λ _. refl) (λ _. refl) bs,
    every_imp _ _ s.routes (λ r. every_stays Buy k (clear_of r) s.buys (λ _. refl) (λ _. refl)) rb,
    rs,
  ),
)
sound_traded Sell k s ((br, sr, rr), (bf, sf, rf), (ba, sa, ra), (bs, rb, rs)) = (
  (br, rank_traded Sell k s.sells sr, rr),
  (bf, every_traded Sell k (resting_fair s.next) s.sells (fair_less s.next k) (fair_refresh s.next k) sf, rf),
  (ba, apart_traded Sell k s.sells sa, ra),
  (
    every_imp _ _ s.buys (λ b. every_stays Sell k (parted b) s.sells (λ _. refl) (λ _. refl)) bs,
    rb,
    every_imp _ _ s.routes (λ r. every_stays Sell k (clear_of r) s.sells (λ _. refl) (λ _. refl)) rs,
  ),
)

-- a resting order taken out
pub sound_out : (d : Side) (p : Spot Resting) (s : State) → on d s ≡ p.front ++ p.line ∷ p.rest → Sound s → Sound (put d (p.front ++ p.rest) s)
sound_out Buy p s e ((br, sr, rr), (bf, sf, rf), (ba, sa, ra), (bs, rb, rs)) = (
  (rank_out (resting_before Buy) p.front p.rest p.line (sym (ap (in_rank (resting_before Buy)) e) ∙ br), sr, rr),
  (every_out (resting_fair s.next) p.front p.rest p.line (sym (ap (every (resting_fair s.next)) e) ∙ bf), sf, rf),
  (apart_out p.front p.rest p.line (sym (ap resting_apart e) ∙ ba), sa, ra),
  (
    every_out (λ b. every (parted b) s.sells) p.front p.rest p.line (sym (ap (every (λ b. every (parted b) s.sells)) e) ∙ bs),
    every_imp _ _ s.routes (λ r h. every_out (clear_of r) p.front p.rest p.line (sym (ap (every (clear_of r)) e) ∙ h)) rb,
    rs,
  ),
)
sound_out Sell p s e ((br, sr, rr), (bf, sf, rf), (ba, sa, ra), (bs, rb, rs)) = (
  (br, rank_out (resting_before Sell) p.front p.rest p.line (sym (ap (in_rank (resting_before Sell)) e) ∙ sr), rr),
  (bf, every_out (resting_fair s.next) p.front p.rest p.line (sym (ap (every (resting_fair s.next)) e) ∙ sf), rf),
  (ba, apart_out p.front p.rest p.line (sym (ap resting_apart e) ∙ sa), ra),
  (
    every_imp _ _ s.buys (λ b h. every_out (parted b) p.front p.rest p.line (sym (ap (every (parted b)) e) ∙ h)) bs,
    rb,
    every_imp _ _ s.routes (λ r h. every_out (clear_of r) p.front p.rest p.line (sym (ap (every (clear_of r)) e) ∙ h)) rs,
  ),
)

-- a resting order that keeps its number and price, changed where it stands
module _ (p : Spot Resting) (a b : ℕ) where
  abbrev x' : Resting
  x' = sharing a b p.line

  pub sound_changed : (d : Side) (s : State) → on d s ≡ p.front ++ p.line ∷ p.rest → (resting_fair s.next p.line ≡ true → resting_fair s.next x' ≡ true) → Sound s → Sound (put d (p.front ++ x' ∷ p.rest) s)
  sound_changed Buy s e f ((br, sr, rr), (bf, sf, rf), (ba, sa, ra), (bs, rb, rs)) = (
    (rank_swap (resting_before Buy) p.front p.rest p.line x' (λ _. refl) (λ _. refl) (sym (ap (in_rank (resting_before Buy)) e) ∙ br), sr, rr),
    (every_swap (resting_fair s.next) p.front p.rest p.line x' f (sym (ap (every (resting_fair s.next)) e) ∙ bf), sf, rf),
    (apart_swap p.front p.rest p.line x' refl (sym (ap resting_apart e) ∙ ba), sa, ra),
    (
      every_swap (λ b. every (parted b) s.sells) p.front p.rest p.line x' (λ h. h) (sym (ap (every (λ b. every (parted b) s.sells)) e) ∙ bs),
      every_imp _ _ s.routes (λ r h. every_swap (clear_of r) p.front p.rest p.line x' (λ g. g) (sym (ap (every (clear_of r)) e) ∙ h)) rb,
      rs,
    ),
  )
  sound_changed Sell s e f ((br, sr, rr), (bf, sf, rf), (ba, sa, ra), (bs, rb, rs)) = (
    (br, rank_swap (resting_before Sell) p.front p.rest p.line x' (λ _. refl) (λ _. refl) (sym (ap (in_rank (resting_before Sell)) e) ∙ sr), rr),
    (bf, every_swap (resting_fair s.next) p.front p.rest p.line x' f (sym (ap (every (resting_fair s.next)) e) ∙ sf), rf),
    (ba, apart_swap p.front p.rest p.line x' refl (sym (ap resting_apart e) ∙ sa), ra),
    (
      every_imp _ _ s.buys (λ b h. every_swap (parted b) p.front p.rest p.line x' (λ g. g) (sym (ap (every (parted b)) e) ∙ h)) bs,
      rb,
      every_imp _ _ s.routes (λ r h. every_swap (clear_of r) p.front p.rest p.line x' (λ g. g) (sym (ap (every (clear_of r)) e) ∙ h)) rs,
    ),
  )

-- a cut that leaves some shares
fair_trimmed : (n k : ℕ) (p : Resting) → k < total p → resting_fair n p ≡ true → resting_fair n (trimmed k p) ≡ true
fair_trimmed n k p l h = grind (arith, nat_tests)

pub sound_trimmed : (d : Side) (k : ℕ) (p : Spot Resting) (s : State) → on d s ≡ p.front ++ p.line ∷ p.rest → k < total p.line → Sound s → Sound (put d (p.front ++ trimmed k p.line ∷ p.rest) s)
sound_trimmed d k p s e l h = sound_changed p (p.line.shown - (k - p.line.held)) (p.line.held - k) d s e (fair_trimmed s.next k p.line l) h

-- a route come back
pub sound_unrouted : (r : Spot Route) (s : State) → s.routes ≡ r.front ++ r.line ∷ r.rest → Sound s → Sound (with_routes (r.front ++ r.rest) s)
sound_unrouted r s e ((br, sr, rr), (bf, sf, rf), (ba, sa, ra), (bs, rb, rs)) = (
  (br, sr, rank_out route_before r.front r.rest r.line (sym (ap (in_rank route_before) e) ∙ rr)),
  (bf, sf, every_out (route_fair s.next) r.front r.rest r.line (sym (ap (every (route_fair s.next)) e) ∙ rf)),
  (ba, sa, routes_out r.front r.rest r.line (sym (ap routes_apart e) ∙ ra)),
  (
    bs,
    every_out (λ r. every (clear_of r) s.buys) r.front r.rest r.line (sym (ap (every (λ r. every (clear_of r) s.buys)) e) ∙ rb),
    every_out (λ r. every (clear_of r) s.sells) r.front r.rest r.line (sym (ap (every (λ r. every (clear_of r) s.sells)) e) ∙ rs),
  ),
)

-- numbers

and_on : (a a' b : Bool) → (a ≡ true → a' ≡ true) → (a && b) ≡ true → (a' && b) ≡ true
and_on a a' b f h = let p = and_parts a b h in and_from a' b (f p.0) p.1

-- a number given stays given
pub given_on : (n next : ℕ) → (next ≡ 0 → ⊥) → given n next ≡ true → given n (after next) ≡ true
given_on n next h k = grind (arith, nat_tests)

pub given_next : (next : ℕ) → (next ≡ 0 → ⊥) → given next (after next) ≡ true
given_next next h = grind (arith, nat_tests)

-- the next number is not given
pub not_given : (n next : ℕ) → (next ≡ 0 → ⊥) → given n next ≡ true → not (eqb n next) ≡ true
not_given n next h k = grind (arith, nat_tests)

module _ (n : ℕ) (ne : n ≡ 0 → ⊥) where
  resting_on : (p : Resting) → resting_fair n p ≡ true → resting_fair (after n) p ≡ true
  resting_on p = and_on (given p.number n) (given p.number (after n)) _ (given_on p.number n ne)

  route_on : (r : Route) → route_fair n r ≡ true → route_fair (after n) r ≡ true
  route_on r = and_on (given r.number n) (given r.number (after n)) _ (given_on r.number n ne)

  resting_not : (p : Resting) → resting_fair n p ≡ true → not (eqb p.number n) ≡ true
  resting_not p h = not_given p.number n ne (and_parts (given p.number n) _ h).0

  route_not : (r : Route) → route_fair n r ≡ true → not (eqb r.number n) ≡ true
  route_not r h = not_given r.number n ne (and_parts (given r.number n) _ h).0

-- the next number stands nowhere
pub next_free : (s : State) → (s.next ≡ 0 → ⊥) → Sound s → free s.next s ≡ true
next_free s ne h =
    and_from _ _ (every_imp _ _ s.buys (resting_not s.next ne) h.1.0) (and_from _ _ (every_imp _ _ s.sells (resting_not s.next ne) h.1.1) (every_imp _ _ s.routes (route_not s.next ne) h.1.2))

pub fits_next : (s : State) → (s.next ≡ 0 → ⊥) → Sound s → fits s.next (numbered s) ≡ true
fits_next s ne h = and_from _ _ (given_next s.next ne) (next_free s ne h)

-- a number used
pub sound_numbered : (s : State) → (s.next ≡ 0 → ⊥) → Sound s → Sound (numbered s)
sound_numbered s ne (r, (bf, sf, rf), a, p) =
    (r, (every_imp _ _ s.buys (resting_on s.next ne) bf, every_imp _ _ s.sells (resting_on s.next ne) sf, every_imp _ _ s.routes (route_on s.next ne) rf), a, p)

-- k shares sent out
pub sound_sent : (o : Order) (q : Quotation) (k : ℕ) (s : State) → able o ≡ true → (s.next ≡ 0 → ⊥) → 0 < k → k ≤ o.shares → Sound s → Sound (state s.buys s.sells (place route_before (routed o q s.next k) s.routes) (after s.next))
sound_sent o q k s a ne pos le h =
    let n = s.next in
    let r = routed o q n k in
    let new-route : route_fair (after n) r ≡ true = let z = given_next n ne in grind (arith, nat_tests) in
    let m = sound_numbered s ne h in (
      (h.0.0, h.0.1, rank_route r s.routes h.0.2),
      (m.1.0, m.1.1, every_place route_before (route_fair (after n)) r s.routes new-route m.1.2),
      (h.2.0, h.2.1, routes_place route_before r s.routes (every_imp _ _ s.routes (route_not n ne) h.1.2) h.2.2),
      (
        h.3.0,
        every_place route_before _ r s.routes (every_imp _ _ s.buys (resting_not n ne) h.1.0) h.3.1,
        every_place route_before _ r s.routes (every_imp _ _ s.sells (resting_not n ne) h.1.1) h.3.2,
      ),
    )

-- coming to rest

-- no resting order is within the limit, where the first is not
none_behind : (d : Side) (limit : ℕ) (p : Resting) (ps : List Resting) → none_before (resting_before (across_of d)) p ps ≡ true → within d limit p.price ≡ false → every (λ x. not (within d limit x.price)) ps ≡ true
none_behind d limit p [] h k = refl
none_behind Buy limit p (x ∷ xs) h k =
    let q = and_parts (not (resting_before Sell x p)) (none_before (resting_before Sell) p xs) h in
    let z = q.0 in
    and_from _ _ (grind (arith, nat_tests)) (none_behind Buy limit p xs q.1 k)
none_behind Sell limit p (x ∷ xs) h k =
    let q = and_parts (not (resting_before Buy x p)) (none_before (resting_before Buy) p xs) h in
    let z = q.0 in
    and_from _ _ (grind (arith, nat_tests)) (none_behind Sell limit p xs q.1 k)

none_near : (o : Order) (ps : List Resting) → in_rank (resting_before (across_of o.side)) ps ≡ true → resting_near o (head_of ps) ≡ false → every (λ x. not (within o.side o.limit x.price)) ps ≡ true
none_near o [] h k = refl
none_near o (p ∷ ps) h k =
    let q = and_parts (none_before (resting_before (across_of o.side)) p ps) _ h in
    and_from _ _ (let z : within o.side o.limit p.price ≡ false = k in grind (arith, nat_tests)) (none_behind o.side o.limit p ps q.0 k)

pub sound_placed : (d : Side) (p : Resting) (s : State) → Restable d p s → Sound s → Sound (put d (place (resting_before d) p (on d s)) s)
sound_placed Buy p s w ((br, sr, rr), (bf, sf, rf), (ba, sa, ra), (bs, rb, rs)) =
    let e1 = and_parts (every (unlike p.number) s.buys) _ w.free in
    let e2 = and_parts (every (unlike p.number) s.sells) (every (route_unlike p.number) s.routes) e1.1 in (
      (rank_place Buy p s.buys br, sr, rr),
      (every_place (resting_before Buy) (resting_fair s.next) p s.buys w.fair bf, sf, rf),
      (apart_place (resting_before Buy) p s.buys e1.0 ba, sa, ra),
      (
        every_place (resting_before Buy) (λ b. every (parted b) s.sells) p s.buys (every_both (unlike p.number) (λ x. not (within Buy p.price x.price)) (parted p) s.sells (λ x h k. grind (arith, nat_tests)) e2.0 w.clear) bs,
        every_both (route_unlike p.number) (λ r. every (clear_of r) s.buys) (λ r. every (clear_of r) (place (resting_before Buy) p s.buys)) s.routes (λ r h k. every_place (resting_before Buy) (clear_of r) p s.buys (grind (arith, nat_tests)) k) e2.1 rb,
        rs,
      ),
    )
sound_placed Sell p s w ((br, sr, rr), (bf, sf, rf), (ba, sa, ra), (bs, rb, rs)) =
    let e1 = and_parts (every (unlike p.number) s.buys) _ w.free in
    let e2 = and_parts (every (unlike p.number) s.sells) (every (route_unlike p.number) s.routes) e1.1 in (
      (br, rank_place Sell p s.sells sr, rr),
      (bf, every_place (resting_before Sell) (resting_fair s.next) p s.sells w.fair sf, rf),
      (ba, apart_place (resting_before Sell) p s.sells e2.0 sa, ra),
      (
        every_both (λ b. unlike p.number b && not (within Sell p.price b.price)) (λ b. every (parted b) s.sells) (λ b. every (parted b) (place (resting_before Sell) p s.sells)) s.buys (λ b h k. every_place (resting_before Sell) (parted b) p s.sells (grind (arith, nat_tests)) k) (every_both (unlike p.number) (λ x. not (within Sell p.price x.price)) _ s.buys (λ x h k. and_from _ _ h k) e1.0 w.clear) bs,
        rb,
        every_both (route_unlike p.number) (λ r. every (clear_of r) s.sells) (λ r. every (clear_of r) (place (resting_before Sell) p s.sells)) s.routes (λ r h k. every_place (resting_before Sell) (clear_of r) p s.sells (grind (arith, nat_tests)) k) e2.1 rs,
      ),
    )

-- what a sound book says of one side
pub fair_of : (d : Side) (s : State) → Sound s → every (resting_fair s.next) (on d s) ≡ true
fair_of Buy s h = h.1.0
fair_of Sell s h = h.1.1

rank_of : (d : Side) (s : State) → Sound s → in_rank (resting_before d) (on d s) ≡ true
rank_of Buy s h = h.0.0
rank_of Sell s h = h.0.1

rested_fair : (o : Order) (n : ℕ) → able o ≡ true → given o.number n ≡ true → resting_fair n (rested o) ≡ true
rested_fair o n a g = grind (arith, nat_tests)

pub restable : (o : Order) (p : Resting) (s : State) → p ≡ rested o → able o ≡ true → fits o.number s ≡ true → resting_near o (head_of (on (across_of o.side) s)) ≡ false → Sound s → Restable o.side p s
restable o p s e a f n h =
    let q = and_parts (given o.number s.next) (free o.number s) f in
    let P : Resting → Type 0 = λ x. Restable o.side x s in
    subst P (sym e) (record { fair = rested_fair o s.next a q.0; free = q.1; clear = none_near o _ (rank_of (across_of o.side) s h) n })

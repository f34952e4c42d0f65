-- No number stands twice on a side, along every run from a new book.
use Rattle.std.proofs.Common.{◌≡◌, ℕ, true, false, ◌&&◌, ◌≢◌, ◌⊎◌, List, [], ◌∷◌, sym, refl, subst, inl, inr}
use Rattle.std.proofs.lemmas.Bool.{true≢false, and_parts, not-true, eqb-false}
use Rattle.ranking.specs.Place.{every}
use Rattle.market.specs.declared.types.Side.{Side}
use Rattle.market.specs.declared.types.Side.TheVariants.{Buy, Sell}
use Rattle.market.specs.declared.types.Resting.{Resting}
use Rattle.market.specs.declared.types.Call.{Call}
use Rattle.market.specs.Sides.{across_of, resting_before}
use Rattle.market.specs.Numbers.{given}
use Rattle.market.specs.States.{State, Quotes, new_state, on, put, resting_bears, free, fits}
use Rattle.market.specs.Orders.{trimmed, rested}
use Rattle.market.specs.Sound.{resting_apart}
use Rattle.market.specs.Calls.{Pass, Outcome}
use Rattle.laws.specs.Strings.{Turn, does, state_after}
use Rattle.laws.specs.Priority.{same_side}
use Rattle.laws.specs.Happens.{Happens, refusal, trading, sending, leaving, resting, entering, cancelling, cutting, replacing, filling, returning, lapsing, closing, expiring}
use Rattle.soundness.proofs.Lists.{unlike, route_unlike, Absent, apart_place, apart_out, apart_swap}
use Rattle.soundness.proofs.Trades.{apart_traded}
use Rattle.laws.proofs.Happens.{nothing_else}

-- a side put in place of another
pub sides : (d e : Side) → (d ≡ e) ⊎ (same_side d e ≡ false)
sides Buy Buy = inl refl
sides Buy Sell = inr refl
sides Sell Buy = inr refl
sides Sell Sell = inl refl

pub same_self : (d : Side) → same_side d d ≡ true
same_self Buy = refl
same_self Sell = refl

pub put_here : (d : Side) (xs : List Resting) (s : State) → on d (put d xs s) ≡ xs
put_here Buy xs s = refl
put_here Sell xs s = refl

pub put_there : (d e : Side) (xs : List Resting) (s : State) → same_side d e ≡ false → on d (put e xs s) ≡ on d s
put_there Buy Sell xs s h = refl
put_there Sell Buy xs s h = refl
put_there Buy Buy xs s h = absurd (true≢false h)
put_there Sell Sell xs s h = absurd (true≢false h)

abbrev pub Apart : List Resting → Type 0
Apart ps = resting_apart ps ≡ true

pub absent_parts : (n : ℕ) (p : Resting) (ps : List Resting) → Absent n (p ∷ ps) → (p.number ≢ n) × Absent n ps
absent_parts n p ps h =
    let w = and_parts (unlike n p) (every (unlike n) ps) h in
    (eqb-false p.number n (not-true (resting_bears n p) w.0), w.1)

pub apart_parts : (p : Resting) (ps : List Resting) → Apart (p ∷ ps) → Absent p.number ps × Apart ps
apart_parts p ps h = and_parts (every (unlike p.number) ps) (resting_apart ps) h

-- the number of an order in hand stands on neither side
pub fits_absent : (n : ℕ) (s : State) (d : Side) → fits n s ≡ true → Absent n (on d s)
fits_absent n s d h =
    let v = and_parts (given n s.next) (free n s) h in
    let w = and_parts (every (unlike n) s.buys) (every (unlike n) s.sells && every (route_unlike n) s.routes) v.1 in
    let u = and_parts (every (unlike n) s.sells) (every (route_unlike n) s.routes) w.1 in
    elim d as (λ e. Absent n (on e s)) [ Buy ↦ w.0 | Sell ↦ u.0 ]

-- one side changed
apart_put : (d e : Side) (xs : List Resting) (s : State) → (Apart (on e s) → Apart xs) → Apart (on d s) → Apart (on d (put e xs s))
apart_put d e xs s f a =
    elim (sides d e) [ inl z ↦ subst (λ (y : Side). Apart (on y s) → Apart (on y (put e xs s))) (sym z) (λ b. rw (put_here e xs s) (f b)) a | inr h ↦ rw (put_there d e xs s h) a ]

apart_happens : (d : Side) (s : State) (q : Quotes) {c : Call} {p : Pass} {o : Outcome} → Happens s q c p o → Apart (on d s) → Apart (on d o.state)
apart_happens d s q (refusal why z) a = a
apart_happens d s q (trading {o = o} x g f z) a = apart_put d (across_of o.side) _ s (apart_traded (across_of o.side) _ (on (across_of o.side) s)) a
apart_happens d s q (sending x g z) a = a
apart_happens d s q (leaving why g z) a = a
apart_happens d s q (resting {o = o} g z) a = apart_put d o.side _ s (apart_place (resting_before o.side) (rested o) (on o.side s) (fits_absent o.number s o.side g)) a
apart_happens d s q (entering z) a = a
apart_happens d s q (cancelling p e z) a = apart_put d p.side _ s (λ b. apart_out p.spot.front p.spot.rest p.spot.line (subst Apart e b)) a
apart_happens d s q (cutting {k = k} p e z l) a = apart_put d p.side _ s (λ b. apart_swap p.spot.front p.spot.rest p.spot.line (trimmed k p.spot.line) refl (subst Apart e b)) a
apart_happens d s q (replacing p e z g ne) a = apart_put d p.side _ s (λ b. apart_out p.spot.front p.spot.rest p.spot.line (subst Apart e b)) a
apart_happens d s q (filling p r g e z l) a = a
apart_happens d s q (returning r e z l) a = a
apart_happens d s q (lapsing r e z l) a = a
apart_happens d s q closing a = a
apart_happens d s q (expiring e x xs f z) a = apart_put d e xs s (λ b. (apart_parts x xs (subst Apart f b)).1) a

-- any calls, from a book whose numbers are apart, and from a new book
pub apart_after : (d : Side) (ts : List Turn) (s : State) (p : Pass) → Apart (on d s) → Apart (on d (state_after ts s p))
apart_after d [] s p a = a
apart_after d (t ∷ ts) s p a =
    let o : Outcome = does t s p in apart_after d ts o.state o.pass (apart_happens d s t.quotes (nothing_else t.quotes t.call s p) a)

pub apart_new : (d : Side) (n : ℕ) → Apart (on d (new_state n))
apart_new Buy n = refl
apart_new Sell n = refl

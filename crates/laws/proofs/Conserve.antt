-- No share is lost: by each call, and so over every run.
use Rattle.std.proofs.Common.{◌≡◌, ℕ, ◌+◌, ◌*◌, ◌≤◌, min, Bool, eqb, List, [], ◌∷◌, ◌++◌, Some, refl, ap, ◌∙◌, arith}
use Rattle.std.proofs.lemmas.Bool.{cond_both, eqb-true}
use Rattle.ranking.specs.Place.{Spot, place, head_of}
use Rattle.market.specs.declared.types.Side.{Side}
use Rattle.market.specs.declared.types.Side.TheVariants.{Buy, Sell}
use Rattle.market.specs.declared.types.Resting.{Resting}
use Rattle.market.specs.declared.types.Route.{Route}
use Rattle.market.specs.declared.types.Order.{Order}
use Rattle.market.specs.declared.types.What.{What}
use Rattle.market.specs.declared.types.Call.{Call}
use Rattle.market.specs.declared.types.Call.TheVariants.{Enter, Work, Cut, Cancel, Replace, Reply, Close, Expire}
use Rattle.market.specs.Sides.{across_of, resting_before, route_before}
use Rattle.market.specs.States.{State, Quotes, new_state, on, put}
use Rattle.market.specs.Orders.{total, less, refresh, trimmed, settled, traded as after_trade, rested, routed, remaining}
use Rattle.market.specs.Reports.{refusal_number}
use Rattle.market.specs.Calls.{Pass, ready, ended, Says, reports, refused, Outcome, held_by, call}
use Rattle.laws.specs.Strings.{Turn, does, state_after, pass_after, said}
use Rattle.soundness.specs.Stands.{Among}
use Rattle.laws.specs.Happens.{Happens, refusal, trading, sending, leaving, resting as going_to_rest, entering, cancelling, cutting, replacing, filling, returning, lapsing, closing, expiring}
use Rattle.laws.specs.Conserve.{resting, sent_out, shares_in_hand, trade_shares, back_shares, off_shares, sum_said, traded, filled_away, taken_off, entered_by, entered, holds, SharesConserved}
use Rattle.soundness.proofs.Trades.{settled_by}
use Rattle.laws.proofs.Orders.{refresh_total, less_total, trimmed_total, rested_total}
use Rattle.laws.proofs.Happens.{nothing_else}

-- lists
pub resting_place : (b : Resting → Resting → Bool) (p : Resting) (ps : List Resting) → resting (place b p ps) ≡ total p + resting ps
resting_place b p [] = refl
resting_place b p (x ∷ xs) = let h = resting_place b p xs in cond_both (b p x) _ _ (λ l. resting l ≡ total p + resting (x ∷ xs)) (λ _. refl) (λ _. omega arith)

pub sent_place : (b : Route → Route → Bool) (r : Route) (rs : List Route) → sent_out (place b r rs) ≡ r.out + sent_out rs
sent_place b r [] = refl
sent_place b r (x ∷ xs) = let h = sent_place b r xs in cond_both (b r x) _ _ (λ l. sent_out l ≡ r.out + sent_out (x ∷ xs)) (λ _. refl) (λ _. omega arith)

pub resting_append : (xs ys : List Resting) → resting (xs ++ ys) ≡ resting xs + resting ys
resting_append [] ys = omega arith
resting_append (x ∷ xs) ys = let e = resting_append xs ys in omega arith

pub sent_append : (xs ys : List Route) → sent_out (xs ++ ys) ≡ sent_out xs + sent_out ys
sent_append [] ys = omega arith
sent_append (x ∷ xs) ys = let e = sent_append xs ys in omega arith

resting_among : (xs : List Resting) (p : Spot Resting) → Among xs p → resting xs ≡ resting p.front + (total p.line + resting p.rest)
resting_among xs p e = ap resting e ∙ resting_append p.front (p.line ∷ p.rest)

sent_among : (xs : List Route) (p : Spot Route) → Among xs p → sent_out xs ≡ sent_out p.front + (p.line.out + sent_out p.rest)
sent_among xs p e = ap sent_out e ∙ sent_append p.front (p.line ∷ p.rest)

-- a trade
resting_settled : (d : Side) (p : Resting) (ps : List Resting) → resting (settled d p ps) ≡ total p + resting ps
resting_settled d p ps =
    settled_by d p ps (λ l. resting l ≡ total p + resting ps)
    (λ _. let e = resting_place (resting_before d) (refresh p) ps in let t = refresh_total p in omega arith) (λ y z. omega arith) (λ _. refl)

resting_traded : (d : Side) (k : ℕ) (p : Resting) (ps : List Resting) → Some p ≡ head_of ps → k ≤ p.shown → resting (after_trade d k ps) + k ≡ resting ps
resting_traded d k p [] e l = let z : ◌≡◌ {A = ℕ} 0 1 = cc in omega arith
resting_traded d k p (x ∷ xs) e l =
    let same : p ≡ x = cc in
    let l' : k ≤ x.shown = rw same at l in
    let r = resting_settled d (less k x) xs in
    let t = less_total k x l' in omega arith

left_in_hand : (k : ℕ) (o : Order) → k ≤ o.shares → shares_in_hand (held_by (remaining k o)) + k ≡ o.shares
left_in_hand k o l = cond_both (eqb o.shares k) _ _ (λ z. shares_in_hand (held_by z) + k ≡ o.shares) (λ t. let e : o.shares ≡ k = eqb-true o.shares k t in omega arith) (λ t. omega arith)

-- one side changed
pub holds_put : (d : Side) (l : List Resting) (s : State) (p : Pass) → holds (put d l s) p + resting (on d s) ≡ holds s p + resting l
holds_put Buy l s p = omega arith
holds_put Sell l s p = omega arith

pub none_entered : (c : Call) (n : ℕ) → entered_by c (refused n) ≡ 0
none_entered (Enter d t) n = refl
none_entered Work n = refl
none_entered (Cut k user m) n = refl
none_entered (Cancel user m) n = refl
none_entered (Replace t m) n = refl
none_entered (Reply k m) n = refl
none_entered Close n = refl
none_entered Expire n = refl

-- what comes in by a call, and what leaves by what it says
abbrev pub leaves : Says → ℕ
leaves x = 2 * traded (x ∷ []) + filled_away (x ∷ []) + taken_off (x ∷ [])

pub conserves : (s : State) (q : Quotes) {c : Call} {p : Pass} {o : Outcome} → Happens s q c p o → holds s p + entered_by c o.says ≡ holds o.state o.pass + leaves o.says
conserves s q (refusal {c = c} why z) = omega (arith, none_entered c (refusal_number why))
conserves s q (trading {o = o} x g f z) =
    let d : Side = across_of o.side in
    let k : ℕ = min o.shares x.shown in
    let l : List Resting = after_trade d k (on d s) in
    omega (arith, resting_traded d k x (on d s) f (omega arith), left_in_hand k o (omega arith), holds_put d l s (held_by (remaining k o)))
conserves s q (sending {o = o} x g z) =
    let k : ℕ = min o.shares x.size in
    omega (arith, sent_place route_before (routed o x s.next k) s.routes, left_in_hand k o (omega arith))
conserves s q (leaving why g z) = omega arith
conserves s q (going_to_rest {o = o} g z) =
    let l : List Resting = place (resting_before o.side) (rested o) (on o.side s) in
    omega (arith, resting_place (resting_before o.side) (rested o) (on o.side s), rested_total o, holds_put o.side l s ready)
conserves s q (entering z) = omega arith
conserves s q (cancelling p e z) =
    omega (arith, holds_put p.side (p.spot.front ++ p.spot.rest) s ready, resting_append p.spot.front p.spot.rest, resting_among (on p.side s) p.spot e)
conserves s q (cutting {k = k} p e z l) =
    let l' : k ≤ total p.spot.line = omega arith in
    let x : Resting = trimmed k p.spot.line in
    omega (arith, trimmed_total k p.spot.line l', holds_put p.side (p.spot.front ++ x ∷ p.spot.rest) s ready, resting_append p.spot.front (x ∷ p.spot.rest), resting_among (on p.side s) p.spot e)
conserves s q (replacing {t = t} p e z g ne) =
    omega (arith, holds_put p.side (p.spot.front ++ p.spot.rest) s ready, resting_append p.spot.front p.spot.rest, resting_among (on p.side s) p.spot e)
conserves s q (filling p r g e z l) = omega (arith, sent_among s.routes r e, sent_append r.front r.rest)
conserves s q (returning r e z l) = omega (arith, sent_among s.routes r e, sent_append r.front r.rest)
conserves s q (lapsing r e z l) = omega (arith, sent_among s.routes r e, sent_append r.front r.rest)
conserves s q closing = omega arith
conserves s q (expiring d x xs e z) = omega (arith, ap resting e, holds_put d xs s ended)

-- one call
pub call_conserves : (q : Quotes) (c : Call) (s : State) (p : Pass) → holds s p + entered_by c (call q c s p).says ≡ holds (call q c s p).state (call q c s p).pass + leaves (call q c s p).says
call_conserves q c s p = conserves s q (nothing_else q c s p)

-- any calls, from any book
said_more : (f : What → ℕ → ℕ) (x : Says) (xs : List Says) → sum_said f (x ∷ xs) ≡ sum_said f (x ∷ []) + sum_said f xs
said_more f (reports rs) xs = omega arith
said_more f (refused n) xs = omega arith

pub calls_conserve : (ts : List Turn) (s : State) (p : Pass) → holds s p + entered ts s p ≡ holds (state_after ts s p) (pass_after ts s p) + 2 * traded (said ts s p) + filled_away (said ts s p) + taken_off (said ts s p)
calls_conserve [] s p = omega arith
calls_conserve (t ∷ ts) s p =
    let o : Outcome = does t s p in
    let x : Says = o.says in
    let xs : List Says = said ts o.state o.pass in
    omega (arith, call_conserves t.quotes t.call s p, calls_conserve ts o.state o.pass, said_more trade_shares x xs, said_more back_shares x xs, said_more off_shares x xs)

pub shares_conserved_lem : SharesConserved
shares_conserved_lem n ts = omega (arith, calls_conserve ts (new_state n) ready)

-- What the calls that probe a book answer: a cancel, a sweep and the work on it.
use Rattle.std.proofs.Common.{◌≡◌, ℕ, ◌+◌, ◌<◌, ◌≤◌, min, Bool, true, false, not, ◌&&◌, eqb, List, [], ◌∷◌, map, None, refl, subst, arith}
use Rattle.std.proofs.lemmas.Bool.{and_parts, and_from, not-true, eq-eqb, ne_eqb, le-leb}
use Rattle.ranking.specs.Place.{every, locate}
use Rattle.market.specs.declared.types.Side.{Side}
use Rattle.market.specs.declared.types.Side.TheVariants.{Buy, Sell}
use Rattle.market.specs.declared.types.Kind.TheVariants.{Sweep}
use Rattle.market.specs.declared.types.Resting.{Resting}
use Rattle.market.specs.declared.types.Order.{Order}
use Rattle.market.specs.declared.types.Terms.{Terms}
use Rattle.market.specs.declared.types.Reason.TheVariants.{Cancelled, Unfilled}
use Rattle.market.specs.declared.types.Refusal.TheVariants.{NotResting}
use Rattle.market.specs.declared.types.Move.TheVariants.{Trade, TakeOff}
use Rattle.market.specs.declared.types.Call.{Call}
use Rattle.market.specs.declared.types.Call.TheVariants.{Enter, Work, Cancel}
use Rattle.market.specs.Sides.{across_of}
use Rattle.market.specs.Legal.{legal_user}
use Rattle.market.specs.Numbers.{given, after}
use Rattle.market.specs.States.{State, no_quotes, on, put, numbered, resting_bears, owned, free, fits}
use Rattle.market.specs.Orders.{total, less, due, refresh, entered}
use Rattle.market.specs.Reports.{trade_report, off_report}
use Rattle.market.specs.Steps.{act}
use Rattle.market.specs.Calls.{ready, in_hand, Outcome, refuse, answer, admit, stepped}
use Rattle.market.specs.Sound.{resting_fair}
use Rattle.laws.specs.Strings.{Turn, Playable, does}
use Rattle.laws.proofs.Lines.{drain, drain_most, drain_due}
use Rattle.soundness.proofs.Lists.{Absent, Unsent}
use Rattle.soundness.proofs.Keeps.{given_next}

-- calls while the boards show nothing
abbrev pub ask : Call → Turn
ask c = record { quotes = no_quotes; call = c }

abbrev pub asks : List Call → List Turn
asks = map ask

pub asks_playable : (cs : List Call) → Playable (asks cs)
asks_playable [] = tt
asks_playable (c ∷ cs) = ((record { ranked = refl; legal = refl; venues = refl }, record { ranked = refl; legal = refl; venues = refl }), asks_playable cs)

eqb_same : (n : ℕ) → eqb n n ≡ true
eqb_same n = eq-eqb n n refl

-- cancels
absent_none : (u n : ℕ) (ps : List Resting) → Absent n ps → locate (owned u n) ps ≡ None
absent_none u n [] h = refl
absent_none u n (p ∷ ps) h =
    let b = and_parts (not (resting_bears n p)) (every (λ p. not (resting_bears n p)) ps) h in
    rw (not-true (eqb p.number n) b.0, absent_none u n ps b.1)

abbrev pub cancelled : Side → Resting → List Resting → State → Outcome
cancelled d x ps s = answer (off_report Cancelled (total x) d x ∷ []) (put d ps s) no_quotes ready

pub takes_first : (d : Side) (u n : ℕ) (a : Resting) (xs : List Resting) (s : State) → a.user ≡ u → a.number ≡ n → legal_user u ≡ true → Absent n (on (across_of d) s) → does (ask (Cancel u n)) (put d (a ∷ xs) s) ready ≡ cancelled d a xs s
takes_first Buy u n a xs s e f l h = rw (l, eq-eqb a.number n f, eq-eqb a.user u e)
takes_first Sell u n a xs s e f l h = rw (l, absent_none u n s.buys h, eq-eqb a.number n f, eq-eqb a.user u e)

pub takes_second : (d : Side) (u n : ℕ) (a x : Resting) (xs : List Resting) (s : State) → x.user ≡ u → x.number ≡ n → legal_user u ≡ true → eqb a.number n ≡ false → Absent n (on (across_of d) s) → does (ask (Cancel u n)) (put d (a ∷ x ∷ xs) s) ready ≡ cancelled d x (a ∷ xs) s
takes_second Buy u n a x xs s e f l ne h = rw (l, ne, eq-eqb x.number n f, eq-eqb x.user u e)
takes_second Sell u n a x xs s e f l ne h = rw (l, absent_none u n s.buys h, ne, eq-eqb x.number n f, eq-eqb x.user u e)

and_false : (t : Bool) → (t && false) ≡ false
and_false true = refl
and_false false = refl

pub takes_none : (d : Side) (u n : ℕ) (a : Resting) (xs : List Resting) (s : State) → (a.user ≡ u → ⊥) → legal_user u ≡ true → Absent n xs → Absent n (on (across_of d) s) → does (ask (Cancel u n)) (put d (a ∷ xs) s) ready ≡ refuse NotResting (put d (a ∷ xs) s) no_quotes ready
takes_none Buy u n a xs s ne l k h = rw (l, ne_eqb a.user u ne, and_false (eqb a.number n), absent_none u n xs k, absent_none u n s.sells h)
takes_none Sell u n a xs s ne l k h = rw (l, absent_none u n s.buys h, ne_eqb a.user u ne, and_false (eqb a.number n), absent_none u n xs k)

-- the probe: a sweep of m shares against the side d, at a limit that reaches every price
abbrev reach : Side → ℕ
reach Buy = 1
reach Sell = 2000000000

abbrev sweep_terms : Side → ℕ → Terms
sweep_terms d m = record { price = reach d; size = m; show = m; kind = Sweep; user = 1 }

abbrev pub sweep : Side → ℕ → Call
sweep d m = Enter (across_of d) (sweep_terms d m)

abbrev pub probe : Side → ℕ → ℕ → Order
probe d n m = entered (across_of d) (sweep_terms d m) n

abbrev pub swept : Side → ℕ → State → Outcome
swept d m s = admit [] (across_of d) (sweep_terms d m) s no_quotes

pub sweeps : (d : Side) (m : ℕ) (s : State) → 1 ≤ m → m ≤ 999999 → 1 ≤ s.next → does (ask (sweep d m)) s ready ≡ swept d m s
sweeps Buy m s l u h = rw (le-leb 1 m l, le-leb m 999999 u, eqb_same m, ne_eqb s.next 0 (omega arith))
sweeps Sell m s l u h = rw (le-leb 1 m l, le-leb m 999999 u, eqb_same m, ne_eqb s.next 0 (omega arith))

-- what the probe needs of the rest of the book
pub record Ground (d : Side) (s : State) : Type 0 where
  pub more : 1 ≤ s.next
  pub clear : (m : ℕ) → s.next ≤ m → Absent m (on (across_of d) s)
  pub unsent : (m : ℕ) → s.next ≤ m → Unsent m s.routes

after_next : (n : ℕ) → n ≤ 4294967294 → after n ≡ n + 1
after_next n l = rw (ne_eqb n 4294967295 (omega arith))

pub after_above : (n : ℕ) → n ≤ 4294967294 → n < after n
after_above n l = let e : after n ≡ n + 1 = after_next n l in omega arith

-- the book once a number is given away
pub ground_numbered : (d : Side) (s : State) → s.next ≤ 4294967294 → Ground d s → Ground d (numbered s)
ground_numbered d s l g =
    let up : s.next < after s.next = after_above s.next l in
    record { more = omega arith; clear = λ m k. g.clear m (omega arith); unsent = λ m k. g.unsent m (omega arith) }

free_next : (d : Side) (ps : List Resting) (s : State) → Ground d s → Absent s.next ps → free s.next (put d ps s) ≡ true
free_next Buy ps s g h = rw (h, g.clear s.next (omega arith), g.unsent s.next (omega arith))
free_next Sell ps s g h = rw (h, g.clear s.next (omega arith), g.unsent s.next (omega arith))

fits_next : (d : Side) (ps : List Resting) (s : State) → Ground d s → Absent s.next ps → fits s.next (numbered (put d ps s)) ≡ true
fits_next d ps s g h = and_from (given s.next (after s.next)) (free s.next (put d ps s)) (given_next s.next (let l : 1 ≤ s.next = g.more in omega arith)) (free_next d ps s g h)

-- work on the probe trades with the first order
abbrev pub hits : Side → ℕ → Resting → List Resting → State → Outcome
hits d m a xs s = stepped (act (Trade a.number a.price a.shown) (numbered (put d (a ∷ xs) s)) no_quotes (probe d s.next m))

hit : (d : Side) (n m : ℕ) (a : Resting) (xs : List Resting) (s : State) → fits n (put d (a ∷ xs) s) ≡ true → 1 ≤ a.price → a.price ≤ 2000000000 → does (ask Work) (put d (a ∷ xs) s) (in_hand (probe d n m)) ≡ stepped (act (Trade a.number a.price a.shown) (put d (a ∷ xs) s) no_quotes (probe d n m))
hit Buy n m a xs s f l h = rw (f, le-leb 1 a.price l)
hit Sell n m a xs s f l h = rw (f, le-leb a.price 2000000000 h)

pub works : (d : Side) (m : ℕ) (a : Resting) (xs : List Resting) (s : State) → Ground d s → Absent s.next (a ∷ xs) → 1 ≤ a.price → a.price ≤ 2000000000 → does (ask Work) (numbered (put d (a ∷ xs) s)) (in_hand (probe d s.next m)) ≡ hits d m a xs s
works d m a xs s g k l h = hit d s.next m a xs (numbered s) (fits_next d (a ∷ xs) s g k) l h

-- or is taken off, if none rests there
abbrev pub misses : Side → ℕ → State → Outcome
misses d m s = stepped (act (TakeOff Unfilled) (numbered (put d [] s)) no_quotes (probe d s.next m))

miss : (d : Side) (n m : ℕ) (s : State) → fits n (put d [] s) ≡ true → does (ask Work) (put d [] s) (in_hand (probe d n m)) ≡ stepped (act (TakeOff Unfilled) (put d [] s) no_quotes (probe d n m))
miss Buy n m s f = rw f
miss Sell n m s f = rw f

pub works_none : (d : Side) (m : ℕ) (s : State) → Ground d s → does (ask Work) (numbered (put d [] s)) (in_hand (probe d s.next m)) ≡ misses d m s
works_none d m s g = miss d s.next m (numbered s) (fits_next d [] s g refl)

-- a probe of as many shares as make a lone order display again, and then leave it first
abbrev pub renewed : ℕ → Resting → Resting
renewed k a = refresh (less k a)

abbrev pub drained : Side → ℕ → Resting → State → Outcome
drained d k a s = answer (trade_report (probe d s.next k) a.number a.price k ∷ []) (put d (renewed k a ∷ []) (numbered s)) no_quotes ready

pub drains : (d : Side) (k : ℕ) (a : Resting) (s : State) (next : ℕ) → resting_fair next a ≡ true → 1 ≤ a.held → drain a ≡ k → hits d k a [] s ≡ drained d k a s
drains d k a s next fair some q = side d
  where
    most : k ≤ a.shown
    most = subst (λ (z : ℕ). z ≤ a.shown) q (drain_most next a fair some)

    u : due (less k a) ≡ true
    u = subst (λ (z : ℕ). due (less z a) ≡ true) q (drain_due next a fair some)

    whole : min k a.shown ≡ k
    whole = omega arith

    side : (d : Side) → hits d k a [] s ≡ drained d k a s
    side Buy = rw (whole, eqb_same k, u)
    side Sell = rw (whole, eqb_same k, u)

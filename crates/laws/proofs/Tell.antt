-- Two books have equal sheets, or a short string of calls tells them apart.
use Rattle.std.proofs.Common.{◌≡◌, ℕ, suc, ◌+◌, ◌-◌, ◌<◌, ◌≤◌, min, Bool, true, false, cond, not, eqb, ◌≢◌, ◌⊎◌, List, [], ◌∷◌, map, length, Some, None, Option, sym, refl, ap, ◌∙◌, subst, inl, inr, arith}
use Rattle.std.proofs.lemmas.Bool.{cases_eq, cases_order, and_parts, eq-eqb, ne_eqb, le-leb}
use Rattle.std.proofs.lemmas.Bool.Decides.{nat_tests}
use Rattle.ranking.specs.Place.{every, Spot, past, locate}
use Rattle.market.specs.declared.types.Side.{Side}
use Rattle.market.specs.declared.types.Side.TheVariants.{Buy, Sell}
use Rattle.market.specs.declared.types.Resting.{Resting}
use Rattle.market.specs.declared.types.Route.{Route}
use Rattle.market.specs.declared.types.Order.{Order}
use Rattle.market.specs.declared.types.Report.{Report}
use Rattle.market.specs.declared.types.What.{What}
use Rattle.market.specs.declared.types.What.TheVariants.{In, Trade, Off}
use Rattle.market.specs.declared.types.Reason.{Reason}
use Rattle.market.specs.declared.types.Refusal.TheVariants.{NotResting, NotOut}
use Rattle.market.specs.declared.types.Call.{Call}
use Rattle.market.specs.declared.types.Call.TheVariants.{Work, Cancel, Reply}
use Rattle.market.specs.Sides.{across_of}
use Rattle.market.specs.States.{State, state, no_quotes, on, put, numbered, resting_bears, route_bears}
use Rattle.market.specs.Orders.{total, next_show, returned}
use Rattle.market.specs.Reports.{refusal_number, held_told, other_told, trade_report, back_report}
use Rattle.market.specs.Calls.{Pass, ready, ended, in_hand, Says, reports, refused, Outcome, refuse, hand_back, reply_at}
use Rattle.market.specs.Sound.{resting_fair, Sound}
use Rattle.laws.specs.Strings.{does}
use Rattle.market.specs.Sheets.{line, route_line, hand_line, seen, Equal}
use Rattle.laws.specs.Equal.{Answer, answered, answers, TwoUnused}
use Rattle.laws.proofs.Lines.{drain, drain_same, drain_some, drain_most, drain_shows, next_most, next_none, same_line, same_route_line}
use Rattle.soundness.proofs.Lists.{Absent}
use Rattle.soundness.proofs.Keeps.{fair_of}
use Rattle.laws.proofs.Rows.{Fit, Row, Rising, fair_absent, fair_unsent, side_row, routes_rising}
use Rattle.laws.proofs.Probes.{ask, asks, cancelled, takes_first, takes_second, takes_none, sweep, probe, swept, sweeps, Ground, after_above, ground_numbered, hits, works, misses, works_none, renewed, drained, drains}

-- at most k calls, while the boards show nothing, on which the answers differ
abbrev pub Told : ℕ → State → Pass → State → Pass → Type 0
Told k s p s' p' = (cs : List Call) × (length cs ≤ k) × (answers (asks cs) s p ≢ answers (asks cs) s' p')

weaken : (k k' : ℕ) {s s' : State} {p p' : Pass} → k ≤ k' → Told k s p s' p' → Told k' s p s' p'
weaken k k' l (cs, m, ne) = (cs, omega arith, ne)

abbrev tail : List Answer → List Answer
tail [] = []
tail (a ∷ more) = more

-- one call that both books take, and then calls that tell apart what it leaves
through : (k : ℕ) (c : Call) (s : State) (p : Pass) (s' : State) (p' : Pass) (o o' : Outcome) → does (ask c) s p ≡ o → does (ask c) s' p' ≡ o' → Told k o.state o.pass o'.state o'.pass → Told (k + 1) s p s' p'
through k c s p s' p' o o' e e' (cs, l, ne) =
    (c ∷ cs, omega arith, λ same. ne ((λ i. answers (asks cs) (sym e i).state (sym e i).pass) ∙ ap tail same ∙ (λ i. answers (asks cs) (e' i).state (e' i).pass)))

-- what is read off answers
abbrev first_report : (Report → ℕ) → Says → ℕ
first_report f (reports (r ∷ rs)) = f r
first_report f (reports []) = 0
first_report f (refused n) = 0

abbrev first_what : Says → What
first_what (reports (r ∷ rs)) = r.what
first_what (reports []) = In
first_what (refused n) = In

abbrev is_refusal : Says → ℕ
is_refusal (reports rs) = 0
is_refusal (refused n) = 1

abbrev last_said : List Answer → Says
last_said [] = refused 0
last_said (a ∷ []) = a.says
last_said (a ∷ a' ∷ more) = last_said (a' ∷ more)

-- two books decided by one number that is read off the last answer
judge : (k : ℕ) (s s' : State) (cs : List Call) (x x' : List Answer) → answers (asks cs) s ready ≡ x → answers (asks cs) s' ready ≡ x' → length cs ≤ k → (read : Says → ℕ) → (read (last_said x) ≡ read (last_said x')) ⊎ Told k s ready s' ready
judge k s s' cs x x' e e' l read =
    elim (cases_eq (read (last_said x)) (read (last_said x'))) [ inl same ↦ inl same | inr ne ↦ inr (cs, l, λ same. ne (ap (λ (z : List Answer). read (last_said z)) (sym e ∙ same ∙ e'))) ]

-- or by the kind of the last report
judge_what : (k : ℕ) (s s' : State) (cs : List Call) (x x' : List Answer) → answers (asks cs) s ready ≡ x → answers (asks cs) s' ready ≡ x' → length cs ≤ k → (first_what (last_said x) ≢ first_what (last_said x')) → Told k s ready s' ready
judge_what k s s' cs x x' e e' l ne = (cs, l, λ same. ne (ap (λ (z : List Answer). first_what (last_said z)) (sym e ∙ same ∙ e')))

off_trade : (why : Reason) (n : ℕ) → Off why ≢ Trade n
off_trade why n e = let z : ◌≡◌ {A = ℕ} 0 1 = cc in omega arith

infixl 20 ◌>>=◌
◌>>=◌ : {A B D : Type 0} → A ⊎ D → (A → B ⊎ D) → B ⊎ D
inl a >>= f = f a
inr d >>= f = inr d

carried : {A D E : Type 0} → (D → E) → A ⊎ D → A ⊎ E
carried f (inl a) = inl a
carried f (inr d) = inr (f d)

once : (c : Call) (s : State) (o : Outcome) → does (ask c) s ready ≡ o → answers (asks (c ∷ [])) s ready ≡ answered o ∷ []
once c s o e i = answered (e i) ∷ []

twice : (c c' : Call) (s : State) (o o' : Outcome) → does (ask c) s ready ≡ o → does (ask c') o.state o.pass ≡ o' → answers (asks (c ∷ c' ∷ [])) s ready ≡ answered o ∷ answered o' ∷ []
twice c c' s o o' e e' = (λ i. answered (e i) ∷ answers (asks (c' ∷ [])) (e i).state (e i).pass) ∙ (λ i. answered o ∷ answered (e' i) ∷ [])

row_absent : (n m : ℕ) (os ps : List Resting) → n ≤ m → Row n os ps → Absent m ps
row_absent n m os [] l h = refl
row_absent n m os (p ∷ ps) l h = rw (ne_eqb p.number m (let g : p.number < n = h.0.given in omega arith)) (row_absent n m os ps l h.1)

-- the number, the price and the displayed shares of the first order: a sweep meets them
abbrev big : ℕ
big = 999999

module _ (d : Side) (s : State) (g : Ground d s) where
  meets : (a : Resting) (xs : List Resting) → Absent s.next (a ∷ xs) → 1 ≤ a.price → a.price ≤ 2000000000 → answers (asks (sweep d big ∷ Work ∷ [])) (put d (a ∷ xs) s) ready ≡ answered (swept d big (put d (a ∷ xs) s)) ∷ answered (hits d big a xs s) ∷ []
  meets a xs k l h =
      twice (sweep d big) Work (put d (a ∷ xs) s) (swept d big (put d (a ∷ xs) s)) (hits d big a xs s)
      (sweeps d big (put d (a ∷ xs) s) (omega arith) (omega arith) g.more)
      (works d big a xs s g k l h)

  meets_row : (os : List Resting) (a : Resting) (xs : List Resting) → Row s.next os (a ∷ xs) → answers (asks (sweep d big ∷ Work ∷ [])) (put d (a ∷ xs) s) ready ≡ answered (swept d big (put d (a ∷ xs) s)) ∷ answered (hits d big a xs s) ∷ []
  meets_row os a xs r = meets a xs (row_absent s.next s.next os (a ∷ xs) (omega arith) r) r.0.low r.0.high

  meets_none : answers (asks (sweep d big ∷ Work ∷ [])) (put d [] s) ready ≡ answered (swept d big (put d [] s)) ∷ answered (misses d big s) ∷ []
  meets_none =
      twice (sweep d big) Work (put d [] s) (swept d big (put d [] s)) (misses d big s)
      (sweeps d big (put d [] s) (omega arith) (omega arith) g.more)
      (works_none d big s g)

-- a trade that makes a lone order display again
module _ (d : Side) (s : State) (k : ℕ) (zs : List Resting) (a : Resting) (g : Ground d s) (f : Fit s.next (on (across_of d) s) zs a) (some : 1 ≤ a.held) (q : drain a ≡ k) where
  enters : does (ask (sweep d k)) (put d (a ∷ []) s) ready ≡ swept d k (put d (a ∷ []) s)
  enters =
      let l : 1 ≤ k = subst (λ (z : ℕ). 1 ≤ z) q (drain_some s.next a f.fair some) in
      let m : k ≤ a.shown = subst (λ (z : ℕ). z ≤ a.shown) q (drain_most s.next a f.fair some) in
      let h : a.shown + a.held ≤ 999999 = f.size in
      sweeps d k (put d (a ∷ []) s) l (omega arith) g.more

  empties : does (ask Work) (numbered (put d (a ∷ []) s)) (in_hand (probe d s.next k)) ≡ drained d k a s
  empties = works d k a [] s g (rw (ne_eqb a.number s.next (let l : a.number < s.next = f.given in omega arith))) f.low f.high ∙ drains d k a s s.next f.fair some q

renews : (next k : ℕ) (a : Resting) → resting_fair next a ≡ true → 1 ≤ a.held → drain a ≡ k → (renewed k a).shown ≡ next_show a
renews next k a fair some q = subst (λ (z : ℕ). (renewed z a).shown ≡ next_show a) q (drain_shows next a fair some)

unborne : (s : State) (k : ℕ) (a : Resting) → s.next ≤ 4294967294 → a.number < s.next → Absent (numbered s).next (renewed k a ∷ [])
unborne s k a l b = let up : s.next < (numbered s).next = after_above s.next l in rw (ne_eqb a.number (numbered s).next (omega arith))

-- one side of the two books
module _ (d : Side) (s s' : State) (g : Ground d s) (g' : Ground d s') (two : s.next ≤ 4294967294) (two' : s'.next ≤ 4294967294) where
  abbrev os : List Resting
  os = on (across_of d) s

  abbrev os' : List Resting
  os' = on (across_of d) s'

  -- all but the first orders are cancelled on both books
  strip : (k : ℕ) (a a' : Resting) (xs ys : List Resting) → Absent a.number xs → Absent a'.number ys → Row s.next os xs → Row s'.next os' ys → map line xs ≡ map line ys → Told k (put d (a ∷ []) s) ready (put d (a' ∷ []) s') ready → Told (length xs + k) (put d (a ∷ xs) s) ready (put d (a' ∷ ys) s') ready
  strip k a a' [] [] h h' r r' f (cs, l, ne) = (cs, omega arith, ne)
  strip k a a' [] (y ∷ ys) h h' r r' f w = absurd (let z : 0 ≡ suc (length (map line ys)) = ap length f in omega arith)
  strip k a a' (x ∷ xs) [] h h' r r' f w = absurd (let z : suc (length (map line xs)) ≡ 0 = ap length f in omega arith)
  strip k a a' (x ∷ xs) (y ∷ ys) h h' r r' f w =
      let ln : line x ≡ line y = cc in
      let n : x.number ≡ y.number = ap (λ (p : Resting). p.number) ln in
      let u : x.user ≡ y.user = ap (λ (p : Resting). p.user) ln in
      let m : map line xs ≡ map line ys = cc in
      let b = and_parts (not (resting_bears a.number x)) (every (λ p. not (resting_bears a.number p)) xs) h in
      let b' = and_parts (not (resting_bears a'.number y)) (every (λ p. not (resting_bears a'.number p)) ys) h' in
      let t : not (eqb x.number a.number) ≡ true = b.0 in
      let t' : not (eqb y.number a'.number) ≡ true = b'.0 in
      weaken (length xs + k + 1) _ (omega arith)
      (through (length xs + k) (Cancel x.user x.number) (put d (a ∷ x ∷ xs) s) ready (put d (a' ∷ y ∷ ys) s') ready (cancelled d x (a ∷ xs) s) (cancelled d y (a' ∷ ys) s')
      (takes_second d x.user x.number a x xs s refl refl r.0.user (other x.number a.number x.number refl t) r.0.across)
      (takes_second d x.user x.number a' y ys s' (sym u) (sym n) r.0.user (other y.number a'.number x.number n t') (rw n r'.0.across))
      (strip k a a' xs ys b.1 b'.1 r.1 r'.1 m w))
    where
      other : (i j n : ℕ) → n ≡ i → not (eqb i j) ≡ true → eqb j n ≡ false
      other i j n e h = grind (arith, nat_tests)

  -- a lone order with shares held: once its display is renewed by a trade of k shares, a sweep meets its next show
  lone : (zs zs' : List Resting) (k : ℕ) (a a' : Resting) → Fit s.next os zs a → Fit s'.next os' zs' a' → 1 ≤ a.held → 1 ≤ a'.held → drain a ≡ k → drain a' ≡ k → (next_show a ≡ next_show a') ⊎ Told 4 (put d (a ∷ []) s) ready (put d (a' ∷ []) s') ready
  lone zs zs' k a a' f f' some some' q q' =
      carried leading
      (judge 2 (put d (renewed k a ∷ []) (numbered s)) (put d (renewed k a' ∷ []) (numbered s')) (sweep d big ∷ Work ∷ []) _ _
      (meets d (numbered s) (ground_numbered d s two g) (renewed k a) [] (unborne s k a two f.given) f.low f.high)
      (meets d (numbered s') (ground_numbered d s' two' g') (renewed k a') [] (unborne s' k a' two' f'.given) f'.low f'.high)
      (omega arith) (first_report (λ r. r.shares)))
      >>= λ same.
      let m : min big (renewed k a).shown ≡ min big (renewed k a').shown = same in
      let n : (renewed k a).shown ≡ next_show a = renews s.next k a f.fair some q in
      let n' : (renewed k a').shown ≡ next_show a' = renews s'.next k a' f'.fair some' q' in
      inl (below big (renewed k a).shown (renewed k a').shown (next_show a) (next_show a') m n n' (next_most s.next a f.fair some) (next_most s'.next a' f'.fair some'))
    where
      below : (b i i' j j' : ℕ) → min b i ≡ min b i' → i ≡ j → i' ≡ j' → j ≤ b → j' ≤ b → j ≡ j'
      below b i i' j j' e f f' l l' = omega arith

      leading : Told 2 (put d (renewed k a ∷ []) (numbered s)) ready (put d (renewed k a' ∷ []) (numbered s')) ready → Told 4 (put d (a ∷ []) s) ready (put d (a' ∷ []) s') ready
      leading w =
          through 3 (sweep d k) (put d (a ∷ []) s) ready (put d (a' ∷ []) s') ready (swept d k (put d (a ∷ []) s)) (swept d k (put d (a' ∷ []) s'))
          (enters d s k zs a g f some q) (enters d s' k zs' a' g' f' some' q')
          (through 2 Work _ _ _ _ (drained d k a s) (drained d k a' s') (empties d s k zs a g f some q) (empties d s' k zs' a' g' f' some' q') w)

  -- the first orders of the two sides, once what stands behind them is judged
  firsts : (a a' : Resting) (xs ys : List Resting) → Row s.next os (a ∷ xs) → Row s'.next os' (a' ∷ ys) → (map line xs ≡ map line ys) ⊎ Told (length xs + 3) (put d xs s) ready (put d ys s') ready → (map line (a ∷ xs) ≡ map line (a' ∷ ys)) ⊎ Told (length (a ∷ xs) + 3) (put d (a ∷ xs) s) ready (put d (a' ∷ ys) s') ready
  firsts a a' xs ys r r' behind =
      met (λ z. other_told z.what) >>= λ n.
      met (λ z. z.price) >>= λ p.
      met (λ z. z.shares) >>= λ m.
      let z : a.shown + a.held ≤ 999999 = r.0.size in
      let z' : a'.shown + a'.held ≤ 999999 = r'.0.size in
      let m' : min big a.shown ≡ min big a'.shown = m in
      let e : a.shown ≡ a'.shown = omega arith in
      users n >>= λ u.
      totals n u >>= λ t.
      let t' : a.shown + a.held ≡ a'.shown + a'.held = t in
      let h : a.held ≡ a'.held = omega arith in
      carried (behinds n u) behind >>= λ f.
      nexts e h f >>= λ w.
      inl (λ i. same_line a a' n u p e h w i ∷ f i)
    where
      Here : Type 0
      Here = Told (length (a ∷ xs) + 3) (put d (a ∷ xs) s) ready (put d (a' ∷ ys) s') ready

      met : (read : Report → ℕ) → (read (trade_report (probe d s.next big) a.number a.price (min big a.shown)) ≡ read (trade_report (probe d s'.next big) a'.number a'.price (min big a'.shown))) ⊎ Here
      met read = judge _ (put d (a ∷ xs) s) (put d (a' ∷ ys) s') (sweep d big ∷ Work ∷ []) _ _ (meets_row d s g os a xs r) (meets_row d s' g' os' a' ys r') (omega arith) (first_report read)

      taken : does (ask (Cancel a.user a.number)) (put d (a ∷ xs) s) ready ≡ cancelled d a xs s
      taken = takes_first d a.user a.number a xs s refl refl r.0.user r.0.across

      taken' : a.number ≡ a'.number → a.user ≡ a'.user → does (ask (Cancel a.user a.number)) (put d (a' ∷ ys) s') ready ≡ cancelled d a' ys s'
      taken' n u = takes_first d a.user a.number a' ys s' (sym u) (sym n) r.0.user (rw n r'.0.across)

      users : a.number ≡ a'.number → (a.user ≡ a'.user) ⊎ Here
      users n = elim (cases_eq a.user a'.user) [
        | inl e ↦ inl e
        | inr ne ↦
            judge _ (put d (a ∷ xs) s) (put d (a' ∷ ys) s') (Cancel a.user a.number ∷ []) _ _
            (once (Cancel a.user a.number) (put d (a ∷ xs) s) (cancelled d a xs s) taken)
            (once (Cancel a.user a.number) (put d (a' ∷ ys) s') (refuse NotResting (put d (a' ∷ ys) s') no_quotes ready) (takes_none d a.user a.number a' ys s' (λ e. ne (sym e)) r.0.user (rw n r'.0.apart) (rw n r'.0.across)))
            (omega arith) is_refusal >>= λ w. absurd (let v : ◌≡◌ {A = ℕ} 0 1 = w in omega arith)
      ]

      totals : a.number ≡ a'.number → a.user ≡ a'.user → (total a ≡ total a') ⊎ Here
      totals n u =
          judge _ (put d (a ∷ xs) s) (put d (a' ∷ ys) s') (Cancel a.user a.number ∷ []) _ _
          (once (Cancel a.user a.number) (put d (a ∷ xs) s) (cancelled d a xs s) taken)
          (once (Cancel a.user a.number) (put d (a' ∷ ys) s') (cancelled d a' ys s') (taken' n u))
          (omega arith) (first_report (λ z. z.shares))

      behinds : a.number ≡ a'.number → a.user ≡ a'.user → Told (length xs + 3) (put d xs s) ready (put d ys s') ready → Here
      behinds n u w = weaken (length xs + 3 + 1) _ (omega arith) (through (length xs + 3) (Cancel a.user a.number) (put d (a ∷ xs) s) ready (put d (a' ∷ ys) s') ready (cancelled d a xs s) (cancelled d a' ys s') taken (taken' n u) w)

      nexts : a.shown ≡ a'.shown → a.held ≡ a'.held → map line xs ≡ map line ys → (next_show a ≡ next_show a') ⊎ Here
      nexts e h f = elim (cases_eq a.held 0) [
        | inl z ↦ inl (next_none a z ∙ sym (next_none a' (sym h ∙ z)))
        | inr ne ↦
            carried (λ w. weaken (length xs + 4) _ (omega arith) (strip 4 a a' xs ys r.0.apart r'.0.apart r.1 r'.1 f w))
            (lone xs ys (drain a) a a' r.0 r'.0 (omega arith) (omega arith) refl (sym (drain_same a a' e)))
      ]

  sides : (ps ps' : List Resting) → Row s.next os ps → Row s'.next os' ps' → (map line ps ≡ map line ps') ⊎ Told (length ps + 3) (put d ps s) ready (put d ps' s') ready
  sides [] [] r r' = inl refl
  sides [] (a' ∷ ys) r r' =
      inr (judge_what _ (put d [] s) (put d (a' ∷ ys) s') (sweep d big ∷ Work ∷ []) _ _ (meets_none d s g) (meets_row d s' g' os' a' ys r') (omega arith) (off_trade _ _))
  sides (a ∷ xs) [] r r' =
      inr (judge_what _ (put d (a ∷ xs) s) (put d [] s') (sweep d big ∷ Work ∷ []) _ _ (meets_row d s g os a xs r) (meets_none d s' g') (omega arith) (λ e. off_trade _ _ (sym e)))
  sides (a ∷ xs) (a' ∷ ys) r r' = firsts a a' xs ys r r' (sides xs ys r.1 r'.1)

-- open routes: a reply of 0 shows the route of a number
abbrev look : ℕ → List Route → Option Route
look n [] = None
look n (r ∷ rs) = cond (eqb r.number n) (Some r) (look n rs)

look_first : (n : ℕ) (r : Route) (rs : List Route) → r.number ≡ n → look n (r ∷ rs) ≡ Some r
look_first n r rs e = rw (eq-eqb r.number n e)

look_next : (n : ℕ) (r : Route) (rs : List Route) → (r.number ≡ n → ⊥) → look n (r ∷ rs) ≡ look n rs
look_next n r rs e = rw (ne_eqb r.number n e)

look_under : (next low n : ℕ) (rs : List Route) → Rising next low rs → n < low → look n rs ≡ None
look_under next low n [] h l = refl
look_under next low n (r ∷ rs) h l = rw (ne_eqb r.number n (omega (arith, h.0))) (look_under next (r.number + 1) n rs h.2 (omega (arith, h.0)))

abbrev line_of : Option (Spot Route) → Option Route
line_of None = None
line_of (Some r) = Some r.line

look_past : (t : Bool) (r : Route) (rs : List Route) (o : Option (Spot Route)) → line_of (cond t (Some (record { front = []; line = r; rest = rs })) (past r o)) ≡ cond t (Some r) (line_of o)
look_past true r rs o = refl
look_past false r rs None = refl
look_past false r rs (Some s) = refl

locate_look : (n : ℕ) (rs : List Route) → line_of (locate (route_bears n) rs) ≡ look n rs
locate_look n [] = refl
locate_look n (r ∷ rs) = look_past (eqb r.number n) r rs (locate (route_bears n) rs) ∙ ap (λ (o : Option Route). cond (eqb r.number n) (Some r) o) (locate_look n rs)

abbrev closed : Answer
closed = record { says = refused (refusal_number NotOut); pass = ready }

abbrev shown_by : Option Route → Answer
shown_by None = closed
shown_by (Some r) = record { says = reports (back_report 0 r ∷ []); pass = seen (hand_back 0 r) }

replied : (o : Option (Spot Route)) (s : State) → answered (reply_at 0 o s no_quotes) ≡ shown_by (line_of o)
replied None s = refl
replied (Some r) s = rw (le-leb 0 r.line.out (omega arith))

-- what is shown of a route with shares out
abbrev opened : Route → Answer
opened r = record { says = reports (back_report 0 r ∷ []); pass = in_hand (hand_line (returned 0 r)) }

shows : (r : Route) → 1 ≤ r.out → shown_by (Some r) ≡ opened r
shows r h = rw (ne_eqb r.out 0 (omega arith))

abbrev side_number : Side → ℕ
side_number Buy = 0
side_number Sell = 1

side_same : (d d' : Side) → side_number d ≡ side_number d' → d ≡ d'
side_same Buy Buy e = refl
side_same Sell Sell e = refl
side_same Buy Sell e = absurd (omega arith)
side_same Sell Buy e = absurd (omega arith)

abbrev of_hand : (Order → ℕ) → Pass → ℕ
of_hand f ready = 0
of_hand f ended = 0
of_hand f (in_hand o) = f o

abbrev of_report : (Report → ℕ) → Answer → ℕ
of_report f a = first_report f a.says

module _ (s s' : State) where
  asked : (n : ℕ) (x x' : Answer) → shown_by (look n s.routes) ≡ x → shown_by (look n s'.routes) ≡ x' → (read : Answer → ℕ) → (read x ≡ read x') ⊎ Told 1 s ready s' ready
  asked n x x' e e' read =
      elim (cases_eq (read x) (read x')) [ inl same ↦ inl same | inr ne ↦ inr (Reply 0 n ∷ [], omega arith, λ same. ne (ap (λ (z : List Answer). read (head z)) (sym (seen_at s x e) ∙ same ∙ seen_at s' x' e'))) ]
    where
      head : List Answer → Answer
      head [] = closed
      head (a ∷ more) = a

      seen_at : (z : State) (y : Answer) → shown_by (look n z.routes) ≡ y → answers (asks (Reply 0 n ∷ [])) z ready ≡ y ∷ []
      seen_at z y f = ap (λ (a : Answer). a ∷ []) (replied (locate (route_bears n) z.routes) z ∙ ap shown_by (locate_look n z.routes) ∙ f)

  -- a route that only one of them has
  only : (n : ℕ) (r : Route) → 1 ≤ r.out → look n s.routes ≡ Some r → look n s'.routes ≡ None → Told 1 s ready s' ready
  only n r o e e' =
      elim (asked n (opened r) closed (ap shown_by e ∙ shows r o) (ap shown_by e') (λ a. is_refusal a.says))
      [ inl w ↦ absurd (let v : ◌≡◌ {A = ℕ} 0 1 = w in omega arith) | inr w ↦ w ]

  only' : (n : ℕ) (r : Route) → 1 ≤ r.out → look n s.routes ≡ None → look n s'.routes ≡ Some r → Told 1 s ready s' ready
  only' n r o e e' =
      elim (asked n closed (opened r) (ap shown_by e) (ap shown_by e' ∙ shows r o) (λ a. is_refusal a.says))
      [ inl w ↦ absurd (let v : ◌≡◌ {A = ℕ} 1 0 = w in omega arith) | inr w ↦ w ]

  one_route : (n : ℕ) (r r' : Route) → 1 ≤ r.out → 1 ≤ r'.out → r.number ≡ r'.number → look n s.routes ≡ Some r → look n s'.routes ≡ Some r' → (route_line r ≡ route_line r') ⊎ Told 1 s ready s' ready
  one_route n r r' o o' k e e' =
      reads (of_report (λ z. z.user)) >>= λ u.
      reads (of_report (λ z. side_number z.side)) >>= λ d.
      reads (of_report (λ z. z.price)) >>= λ p.
      reads (of_report (λ z. other_told z.what)) >>= λ v.
      reads (of_report (λ z. held_told z.what)) >>= λ m.
      reads (λ a. of_hand (λ z. z.limit) a.pass) >>= λ l.
      reads (λ a. of_hand (λ z. z.show) a.pass) >>= λ w.
      let m' : r.out - 0 ≡ r'.out - 0 = m in
      let w' : min r.show (r.out - 0) ≡ min r'.show (r'.out - 0) = w in
      inl (same_route_line r r' k u (side_same r.side r'.side d) l (omega arith) p v (omega arith))
    where
      reads : (read : Answer → ℕ) → (read (opened r) ≡ read (opened r')) ⊎ Told 1 s ready s' ready
      reads = asked n (opened r) (opened r') (ap shown_by e ∙ shows r o) (ap shown_by e' ∙ shows r' o')

  routes : (next next' low : ℕ) (rs rs' : List Route) → Rising next low rs → Rising next' low rs' → ((n : ℕ) → low ≤ n → look n s.routes ≡ look n rs) → ((n : ℕ) → low ≤ n → look n s'.routes ≡ look n rs') → (map route_line rs ≡ map route_line rs') ⊎ Told 1 s ready s' ready
  routes next next' low [] [] h h' f f' = inl refl
  routes next next' low (r ∷ rs) [] h h' f f' =
      inr (only r.number r h.1.some (f r.number h.0 ∙ look_first r.number r rs refl) (f' r.number h.0))
  routes next next' low [] (r ∷ rs) h h' f f' =
      inr (only' r.number r h'.1.some (f r.number h'.0) (f' r.number h'.0 ∙ look_first r.number r rs refl))
  routes next next' low (r ∷ rs) (r' ∷ rs') h h' f f' =
      go (cases_order r.number r'.number) (λ k. routes next next' (r.number + 1) rs rs' h.2 (rw k h'.2)
      (λ n l. f n (omega (arith, h.0)) ∙ look_next n r rs (omega arith))
      (λ n l. f' n (omega (arith, h'.0)) ∙ look_next n r' rs' (omega arith)))
    where
      go : (r.number ≡ r'.number) ⊎ ((r.number < r'.number) ⊎ (r'.number < r.number)) → (r.number ≡ r'.number → (map route_line rs ≡ map route_line rs') ⊎ Told 1 s ready s' ready) → (map route_line (r ∷ rs) ≡ map route_line (r' ∷ rs')) ⊎ Told 1 s ready s' ready
      go (inl k) behind =
          one_route r.number r r' h.1.some h'.1.some k (f r.number h.0 ∙ look_first r.number r rs refl) (f' r.number h.0 ∙ look_first r.number r' rs' (sym k))
          >>= λ e. behind k >>= λ more. inl (λ i. e i ∷ more i)
      go (inr (inl k)) behind =
          inr (only r.number r h.1.some (f r.number h.0 ∙ look_first r.number r rs refl)
          (f' r.number h.0 ∙ look_under next' r'.number r.number (r' ∷ rs') (omega arith, h'.1, h'.2) k))
      go (inr (inr k)) behind =
          inr (only' r'.number r' h'.1.some (f r'.number h'.0 ∙ look_under next r.number r'.number (r ∷ rs) (omega arith, h.1, h.2) k)
          (f' r'.number h'.0 ∙ look_first r'.number r' rs' refl))

-- all together: the next number, the routes, the buys, the sells
ground : (d : Side) (s : State) → Sound s → 1 ≤ s.next → Ground d s
ground d s sound more = record {
  more = more;
  clear = λ m l. fair_absent s.next more m l (on (across_of d) s) (fair_of (across_of d) s sound);
  unsent = λ m l. fair_unsent s.next more m l s.routes sound.1.2;
}

pub told : (s s' : State) → Sound s → Sound s' → TwoUnused s → TwoUnused s' → Equal s s' ⊎ Told (length s.buys + length s.sells + 3) s ready s' ready
told s s' z z' (l, u) (l', u') =
    numbers >>= λ n.
    carried (weaken 1 _ (omega arith)) (routes s s' s.next s'.next 1 s.routes s'.routes (routes_rising s z l) (routes_rising s' z' l') (λ n k. refl) (λ n k. refl)) >>= λ r.
    carried (weaken (length s.buys + 3) _ (omega arith)) (sides Buy s s' (ground Buy s z l) (ground Buy s' z' l') u u' s.buys s'.buys (side_row s z l Buy) (side_row s' z' l' Buy)) >>= λ b.
    carried (weaken (length s.sells + 3) _ (omega arith)) (sides Sell s s' (ground Sell s z l) (ground Sell s' z' l') u u' s.sells s'.sells (side_row s z l Sell) (side_row s' z' l' Sell)) >>= λ o.
    inl (λ i. state (b i) (o i) (r i) (n i))
  where
    Here : Type 0
    Here = Told (length s.buys + length s.sells + 3) s ready s' ready

    numbers : (s.next ≡ s'.next) ⊎ Here
    numbers =
        judge _ s s' (sweep Sell big ∷ []) _ _ (once (sweep Sell big) s (swept Sell big s) (sweeps Sell big s (omega arith) (omega arith) l)) (once (sweep Sell big) s' (swept Sell big s') (sweeps Sell big s' (omega arith) (omega arith) l'))
        (omega arith) (first_report (λ r. r.number))

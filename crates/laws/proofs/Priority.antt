-- Time priority: an order that rests with nothing held back stays ahead of every latecomer at its side and price, until it is gone.
use Rattle.std.proofs.Common.{◌≡◌, ℕ, ◌+◌, ◌-◌, ◌<◌, ◌≤◌, min, Bool, true, false, cond, ◌&&◌, ◌||◌, eqb, ltb, ◌≢◌, ◌⊎◌, List, [], ◌∷◌, ◌++◌, Some, sym, refl, ap, ◌∙◌, subst, inl, inr, arith}
use Rattle.std.proofs.lemmas.Bool.Decides.{nat_tests}
use Rattle.std.proofs.lemmas.Bool.{cond_both, ltb-true, ltb-false, le-ltb, eq-eqb}
use Rattle.ranking.specs.Place.{Spot, place, head_of}
use Rattle.market.specs.declared.types.Side.{Side}
use Rattle.market.specs.declared.types.Side.TheVariants.{Buy, Sell}
use Rattle.market.specs.declared.types.Resting.{Resting}
use Rattle.market.specs.declared.types.Report.{Report}
use Rattle.market.specs.declared.types.What.TheVariants.{Rest}
use Rattle.market.specs.declared.types.Call.{Call}
use Rattle.market.specs.Sides.{across_of, ahead, resting_before}
use Rattle.market.specs.States.{State, Quotes, new_state, on, put}
use Rattle.market.specs.Orders.{less, refresh, trimmed, settled, traded, rested}
use Rattle.market.specs.Reports.{held_told, other_told, rest_report}
use Rattle.market.specs.Calls.{Pass, ready, Outcome, call}
use Rattle.soundness.specs.Stands.{Among as AmongLines}
use Rattle.laws.specs.Strings.{Turn, does, state_after, pass_after}
use Rattle.laws.specs.Happens.{Happens, refusal, trading, sending, leaving, resting, entering, cancelling, cutting, replacing, filling, returning, lapsing, closing, expiring}
use Rattle.laws.specs.Priority.{same_side, lost, ousted, Stays, held_of, later, latecomers, InList, TimePriority}
use Rattle.soundness.proofs.Lists.{Absent}
use Rattle.soundness.proofs.Trades.{due_holds, settled_by}
use Rattle.laws.proofs.Orders.{trimmed_bare}
use Rattle.laws.proofs.Happens.{nothing_else}
use Rattle.laws.proofs.Reports.{Each, is_rest, silent, alone}
use Rattle.laws.proofs.Dealings.{no_trade_through}
use Rattle.laws.proofs.Apart.{Apart, sides, same_self, put_here, put_there, absent_parts, apart_parts, fits_absent, apart_after, apart_new}

-- the order n: at the price x, with at least r shares displayed and none held back, and itself no latecomer
pub record Own (n x r : ℕ) (late : List ℕ) (p : Resting) : Type 0 where
  pub named : p.number ≡ n
  pub priced : p.price ≡ x
  pub shows : r ≤ p.shown
  pub bare : p.held ≡ 0
  pub fresh : InList n late → ⊥

-- an order that may stand before n: not at a worse price, and at the price x not a latecomer
pub record Elder (d : Side) (n x : ℕ) (late : List ℕ) (p : Resting) : Type 0 where
  pub other : p.number ≢ n
  pub rank : ahead d x p.price ≡ false
  pub early : p.price ≡ x → InList p.number late → ⊥

-- n stands, and before it only elders
abbrev pub Firm : Side → ℕ → ℕ → ℕ → List ℕ → List Resting → Type 0
Firm d n x r late [] = ⊥
Firm d n x r late (p ∷ ps) = Own n x r late p ⊎ (Elder d n x late p × Firm d n x r late ps)

-- prices
ahead_not : (d : Side) (x k p : ℕ) → ahead d k p ≡ true → ahead d x p ≡ false → (ahead d x k ≡ false) × (k ≡ x → ⊥)
ahead_not Buy x k p h l =
    let a : p < k = ltb-true p k h in
    let b : x ≤ p = ltb-false p x l in
    (le-ltb k x (omega arith), omega arith)
ahead_not Sell x k p h l =
    let a : k < p = ltb-true k p h in
    let b : p ≤ x = ltb-false x p l in
    (le-ltb x k (omega arith), omega arith)

ahead_self : (d : Side) (x : ℕ) → ahead d x x ≡ false
ahead_self Buy x = le-ltb x x (omega arith)
ahead_self Sell x = le-ltb x x (omega arith)

module _ (d : Side) (n x : ℕ) where
  own_less : (r r' : ℕ) (late : List ℕ) (p : Resting) → r' ≤ r → Own n x r late p → Own n x r' late p
  own_less r r' late p l o = record { named = o.named; priced = o.priced; shows = let s : r ≤ p.shown = o.shows in omega arith; bare = o.bare; fresh = o.fresh }

  firm_less : (r r' : ℕ) (late : List ℕ) (ps : List Resting) → r' ≤ r → Firm d n x r late ps → Firm d n x r' late ps
  firm_less r r' late [] l f = f
  firm_less r r' late (p ∷ ps) l (inl o) = inl (own_less r r' late p l o)
  firm_less r r' late (p ∷ ps) l (inr (e, f)) = inr (e, firm_less r r' late ps l f)

  -- one latecomer more, which stands nowhere yet
  firm_late : (r m : ℕ) (late : List ℕ) (ps : List Resting) → Absent m ps → Firm d n x r late ps → Firm d n x r (m ∷ late) ps
  firm_late r m late [] h f = f
  firm_late r m late (p ∷ ps) h (inl o) =
      let w = absent_parts m p ps h in
      inl (record { named = o.named; priced = o.priced; shows = o.shows; bare = o.bare; fresh = λ y. elim y [ inl u ↦ w.0 (o.named ∙ sym u) | inr u ↦ o.fresh u ] })
  firm_late r m late (p ∷ ps) h (inr (e, f)) =
      let w = absent_parts m p ps h in
      inr (record { other = e.other; rank = e.rank; early = λ z y. elim y [ inl u ↦ w.0 (sym u) | inr u ↦ e.early z u ] }, firm_late r m late ps w.1 f)

  firm_absent : (r m : ℕ) (late : List ℕ) (ps : List Resting) → Absent m ps → Firm d n x r late ps → m ≢ n
  firm_absent r m late [] h f z = f
  firm_absent r m late (p ∷ ps) h (inl o) z = (absent_parts m p ps h).0 (o.named ∙ sym z)
  firm_absent r m late (p ∷ ps) h (inr (e, f)) z = firm_absent r m late ps (absent_parts m p ps h).1 f z

  -- another comes, behind its price
  firm_place : (r : ℕ) (late : List ℕ) (k : Resting) (ps : List Resting) → k.number ≢ n → Firm d n x r late ps → Firm d n x r late (place (resting_before d) k ps)
  firm_place r late k [] ne f = absurd f
  firm_place r late k (p ∷ ps) ne (inl o) =
      cond_both (ahead d k.price p.price) _ _ (λ l. Firm d n x r late l)
      (λ t. let a = ahead_not d x k.price p.price t (rw o.priced (ahead_self d x)) in inr (record { other = ne; rank = a.0; early = λ z w. a.1 z }, inl o))
      (λ t. inl o)
  firm_place r late k (p ∷ ps) ne (inr (e, f)) =
      cond_both (ahead d k.price p.price) _ _ (λ l. Firm d n x r late l)
      (λ t. let a = ahead_not d x k.price p.price t e.rank in inr (record { other = ne; rank = a.0; early = λ z w. a.1 z }, inr (e, f)))
      (λ t. inr (e, firm_place r late k ps ne f))

  -- another goes
  firm_without : (r : ℕ) (late : List ℕ) (front : List Resting) (l : Resting) (rest : List Resting) → l.number ≢ n → Firm d n x r late (front ++ l ∷ rest) → Firm d n x r late (front ++ rest)
  firm_without r late [] l rest ne (inl o) = absurd (ne o.named)
  firm_without r late [] l rest ne (inr (e, f)) = f
  firm_without r late (p ∷ ps) l rest ne (inl o) = inl o
  firm_without r late (p ∷ ps) l rest ne (inr (e, f)) = inr (e, firm_without r late ps l rest ne f)

  -- one is changed where it rests
  firm_changed : (r r' : ℕ) (late : List ℕ) (front : List Resting) (l l' : Resting) (rest : List Resting) → r' ≤ r → l'.number ≡ l.number → l'.price ≡ l.price → (Own n x r late l → Own n x r' late l') → Firm d n x r late (front ++ l ∷ rest) → Firm d n x r' late (front ++ l' ∷ rest)
  firm_changed r r' late [] l l' rest le e f own (inl o) = inl (own o)
  firm_changed r r' late [] l l' rest le e f own (inr (y, g)) =
      inr (record { other = rw e y.other; rank = rw f y.rank; early = rw (e, f) y.early }, firm_less r r' late rest le g)
  firm_changed r r' late (p ∷ ps) l l' rest le e f own (inl o) = inl (own_less r r' late p le o)
  firm_changed r r' late (p ∷ ps) l l' rest le e f own (inr (y, g)) = inr (y, firm_changed r r' late ps l l' rest le e f own g)

  -- what stands first is no latecomer at its price
  firm_first : (r : ℕ) (late : List ℕ) (y : Resting) (ps : List Resting) → Some y ≡ head_of ps → Firm d n x r late ps → y.price ≡ x → InList y.number late → ⊥
  firm_first r late y [] h f p i = f
  firm_first r late y (z ∷ zs) h (inl o) p i =
      let same : y ≡ z = cc in
      let e : y.number ≡ n = ap (λ (w : Resting). w.number) same ∙ o.named in
      o.fresh (subst (λ (m : ℕ). InList m late) e i)
  firm_first r late y (z ∷ zs) h (inr (e, f)) p i = let same : z ≡ y = cc in subst (λ (w : Resting). w.price ≡ x → InList w.number late → ⊥) same e.early p i

-- where an order comes to rest, only elders stand before it
firm_new : (d : Side) (a : Resting) (ps : List Resting) → Absent a.number ps → a.held ≡ 0 → Firm d a.number a.price a.shown [] (place (resting_before d) a ps)
firm_new d a [] h z = inl (record { named = refl; priced = refl; shows = omega arith; bare = z; fresh = λ y. y })
firm_new d a (p ∷ ps) h z =
    let w = absent_parts a.number p ps h in
    cond_both (ahead d a.price p.price) _ _ (λ l. Firm d a.number a.price a.shown [] l)
    (λ t. inl (record { named = refl; priced = refl; shows = omega arith; bare = z; fresh = λ y. y }))
    (λ t. inr (record { other = w.0; rank = t; early = λ _ y. y }, firm_new d a ps w.1 z))

-- a trade of k shares with the first order
firm_settled : (d : Side) (n x r k : ℕ) (late : List ℕ) (p : Resting) (ps : List Resting) → Absent p.number ps → Firm d n x r late (p ∷ ps) → cond (eqb p.number n) k 0 + 0 < r → Firm d n x (r - (cond (eqb p.number n) k 0 + 0)) (cond (ltb (held_of p.number (settled d (less k p) ps)) p.held) (p.number ∷ late) late) (settled d (less k p) ps)
firm_settled d n x r k late p ps a f small =
    settled_by d (less k p) ps Good
    (λ t. cond_both (ltb (held_of p.number (place (resting_before d) (refresh (less k p)) ps)) p.held) _ _ (λ l. Firm d n x (r - v) l (place (resting_before d) (refresh (less k p)) ps))
    (λ _. behind (p.number ∷ late) (firm_late d n x r p.number late ps a) (due_holds (less k p) t) f)
    (λ _. behind late (λ g. g) (due_holds (less k p) t) f))
    (λ gone none. subst (λ (l : List ℕ). Firm d n x (r - v) l ps) (sym (empty none)) (spent gone f))
    (λ _. subst (λ (l : List ℕ). Firm d n x (r - v) l (less k p ∷ ps)) (sym quiet)
    (firm_changed d n x r (r - v) late [] p (less k p) ps (omega arith) refl refl
    (λ o. record { named = o.named; priced = o.priced; shows = let s : r ≤ p.shown = o.shows in rw (eq-eqb p.number n o.named) (omega arith); bare = o.bare; fresh = o.fresh }) f))
  where
    v : ℕ
    v = cond (eqb p.number n) k 0 + 0

    Good : List Resting → Type 0
    Good l = Firm d n x (r - v) (cond (ltb (held_of p.number l) p.held) (p.number ∷ late) late) l

    quiet : cond (ltb (held_of p.number (less k p ∷ ps)) p.held) (p.number ∷ late) late ≡ late
    quiet = rw (eq-eqb p.number p.number refl, le-ltb p.held p.held (omega arith))

    empty : p.held ≡ 0 → cond (ltb (held_of p.number ps) p.held) (p.number ∷ late) late ≡ late
    empty z = rw (le-ltb (held_of p.number ps) p.held (omega arith))

    spent : p.shown - k ≡ 0 → Firm d n x r late (p ∷ ps) → Firm d n x (r - v) late ps
    spent z (inl o) =
        let s : r ≤ p.shown = o.shows in
        let l : k + 0 < r = rw (eq-eqb p.number n o.named) at small in
        absurd (omega arith)
    spent z (inr (e, g)) = firm_less d n x r (r - v) late ps (omega arith) g

    behind : (late' : List ℕ) → (Firm d n x r late ps → Firm d n x r late' ps) → p.held ≢ 0 → Firm d n x r late (p ∷ ps) → Firm d n x (r - v) late' (place (resting_before d) (refresh (less k p)) ps)
    behind late' more some (inl o) = absurd (some o.bare)
    behind late' more some (inr (e, g)) =
        firm_less d n x r (r - v) late' (place (resting_before d) (refresh (less k p)) ps) (omega arith) (firm_place d n x r late' (refresh (less k p)) ps e.other (more g))

-- what a call does to one who stays ahead
pub record Keeps (d : Side) (n x r : ℕ) (late : List ℕ) (s : State) (o : Outcome) : Type 0 where
  pub firm : Apart (on d s) → Firm d n x r late (on d s) → ousted d n o.says ≡ false → lost d n o.says < r → Firm d n x (r - lost d n o.says) (later d (on d s) (on d o.state) o.says late) (on d o.state)

-- an order of the side d is named by no report that takes it off
not_named : (t : Bool) (m n : ℕ) → t ≡ true → ((t && (eqb m n && true)) || false) ≡ false → m ≢ n
not_named t m n h e z = grind (arith, nat_tests)

module _ (n x r : ℕ) (late : List ℕ) (s : State) where
  unmoved : (d : Side) (o : Outcome) → on d o.state ≡ on d s → later d (on d s) (on d o.state) o.says late ≡ late → Keeps d n x r late s o
  unmoved d o e f = record { firm = λ a g _ l. rw (f, e) (firm_less d n x r (r - lost d n o.says) late (on d s) (omega arith) g) }

  -- the side that a call changes, and the other one
  by_side : (d e : Side) (o : Outcome) → Keeps e n x r late s o → (same_side d e ≡ false → Keeps d n x r late s o) → Keeps d n x r late s o
  by_side d e o f g = elim (sides d e) [ inl z ↦ subst (λ (y : Side). Keeps y n x r late s o) (sym z) f | inr h ↦ g h ]

  held_first : (p : Resting) (ps : List Resting) → held_of p.number (p ∷ ps) ≡ p.held
  held_first p ps = rw (eq-eqb p.number p.number refl)

  firm_traded : (d : Side) (k : ℕ) (p : Resting) (ps : List Resting) → Some p ≡ head_of ps → Apart ps → Firm d n x r late ps → cond (eqb p.number n) k 0 + 0 < r → Firm d n x (r - (cond (eqb p.number n) k 0 + 0)) (cond (ltb (held_of p.number (traded d k ps)) (held_of p.number ps)) (p.number ∷ late) late) (traded d k ps)
  firm_traded d k p [] h a f l = absurd f
  firm_traded d k p (y ∷ ys) h a f l =
      let same : y ≡ p = cc in
      subst (λ (z : Resting). cond (eqb z.number n) k 0 + 0 < r → Firm d n x (r - (cond (eqb z.number n) k 0 + 0)) (cond (ltb (held_of z.number (traded d k (y ∷ ys))) (held_of z.number (y ∷ ys))) (z.number ∷ late) late) (traded d k (y ∷ ys))) same
      (λ l'. rw (held_first y ys) (firm_settled d n x r k late y ys (apart_parts y ys a).0 f l')) l

  -- an order goes, as its report says
  takes : (d e : Side) (w : Spot Resting) (o : Outcome) → AmongLines (on e s) w → ((y : Side) → on y o.state ≡ on y (put e (w.front ++ w.rest) s)) → ((y : Side) → later y (on y s) (on y o.state) o.says late ≡ late) → (ousted e n o.says ≡ false → w.line.number ≢ n) → Keeps d n x r late s o
  takes d e w o among here still named =
      by_side d e o
      (record {
        firm = λ a f u l. rw (still e, here e, put_here e (w.front ++ w.rest) s)
            (firm_less e n x r (r - lost e n o.says) late (w.front ++ w.rest) (omega arith) (firm_without e n x r late w.front w.line w.rest (named u) (subst (Firm e n x r late) among f)));
      })
      (λ h. unmoved d o (here d ∙ put_there d e (w.front ++ w.rest) s h) (still d))

  -- an order is cut where it rests
  firm_trimmed : (d : Side) (k : ℕ) (w : Spot Resting) (ps : List Resting) → AmongLines ps w → Firm d n x r late ps → Firm d n x (r - (cond (eqb w.line.number n && true) k 0 + 0)) late (w.front ++ trimmed k w.line ∷ w.rest)
  firm_trimmed d k w ps e f =
      firm_changed d n x r _ late w.front w.line (trimmed k w.line) w.rest (omega arith) refl refl
      (λ o. let t = trimmed_bare k w.line o.bare in
      let z : r ≤ w.line.shown = o.shows in
      record { named = o.named; priced = o.priced; shows = rw (eq-eqb w.line.number n o.named, t.1) (omega arith); bare = t.0; fresh = o.fresh })
      (subst (Firm d n x r late) e f)

  happens_keeps : (d : Side) (q : Quotes) {c : Call} {p : Pass} {o : Outcome} → Happens s q c p o → Keeps d n x r late s o
  happens_keeps d q (refusal why z) = unmoved d _ refl refl
  happens_keeps d q (trading {o = o} y z g v) =
      let e : Side = across_of o.side in
      let k : ℕ = min o.shares y.shown in
      let ps : List Resting = traded e k (on e s) in
      by_side d e _
      (record { firm = λ a f _ l. rw (same_self e, put_here e ps s) (firm_traded e k y (on e s) g a f (rw (same_self e) at l)) })
      (λ h. unmoved d _ (put_there d e ps s h) (rw h))
  happens_keeps d q (sending y g z) = unmoved d _ refl refl
  happens_keeps d q (leaving why g z) = unmoved d _ refl refl
  happens_keeps d q (resting {o = o} g z) =
      let e : Side = o.side in
      let m : ℕ = o.number in
      let ps : List Resting = place (resting_before e) (rested o) (on e s) in
      let a : Absent m (on e s) = fits_absent m s e g in
      by_side d e _
      (record { firm = λ _ f _ _. rw (same_self e, put_here e ps s) (firm_less e n x r _ (m ∷ late) ps (omega arith) (firm_place e n x r (m ∷ late) (rested o) (on e s) (firm_absent e n x r m late (on e s) a f) (firm_late e n x r m late (on e s) a f))) })
      (λ h. unmoved d _ (put_there d e ps s h) (rw h))
  happens_keeps d q (entering z) = unmoved d _ refl refl
  happens_keeps d q (cancelling p e z) =
      takes d p.side p.spot _ e (λ _. refl) (λ _. refl) (not_named (same_side p.side p.side) p.spot.line.number n (same_self p.side))
  happens_keeps d q (cutting {k = k} p g z l) =
      let e : Side = p.side in
      let ps : List Resting = p.spot.front ++ trimmed k p.spot.line ∷ p.spot.rest in
      by_side d e _
      (record { firm = λ _ f _ _. rw (same_self e, put_here e ps s) (firm_trimmed e k p.spot (on e s) g f) })
      (λ h. unmoved d _ (put_there d e ps s h) refl)
  happens_keeps d q (replacing p e z g ne) =
      takes d p.side p.spot _ e (λ _. refl) (λ _. refl) (not_named (same_side p.side p.side) p.spot.line.number n (same_self p.side))
  happens_keeps d q (filling p y g e z l) = unmoved d _ refl refl
  happens_keeps d q (returning y e z l) = unmoved d _ refl refl
  happens_keeps d q (lapsing y e z l) = unmoved d _ refl refl
  happens_keeps d q closing = unmoved d _ refl refl
  happens_keeps d q (expiring e y ys f z) =
      takes d e (record { front = []; line = y; rest = ys }) _ f (λ _. refl) (λ _. refl) (not_named (same_side e e) y.number n (same_self e))

-- one call
pub stays_ahead : (q : Quotes) (c : Call) (s : State) (p : Pass) (d : Side) (n x r : ℕ) (late : List ℕ) → Apart (on d s) → Firm d n x r late (on d s) → ousted d n (call q c s p).says ≡ false → lost d n (call q c s p).says < r → Firm d n x (r - lost d n (call q c s p).says) (later d (on d s) (on d (call q c s p).state) (call q c s p).says late) (on d (call q c s p).state)
stays_ahead q c s p d n x r late = (happens_keeps n x r late s d q (nothing_else q c s p)).firm

-- any calls by which it is not gone
pub stays_ahead_after : (ts : List Turn) (s : State) (p : Pass) (d : Side) (n x r : ℕ) (late : List ℕ) → Apart (on d s) → Firm d n x r late (on d s) → Stays d n r ts s p → (r' : ℕ) × Firm d n x r' (latecomers d late ts s p) (on d (state_after ts s p))
stays_ahead_after [] s p d n x r late a f g = (r, f)
stays_ahead_after (t ∷ ts) s p d n x r late a f g =
    let o : Outcome = does t s p in
    stays_ahead_after ts o.state o.pass d n x (r - lost d n o.says) (later d (on d s) (on d o.state) o.says late)
    (apart_after d (t ∷ []) s p a) (stays_ahead t.quotes t.call s p d n x r late a f g.0 g.1) g.2

-- an order reported to rest with nothing held back has only elders before it
abbrev pub StandsFirm : State → Report → Type 0
StandsFirm s r = r.what ≡ Rest 0 → Firm r.side r.number r.price r.shares [] (on r.side s)

pub rest_firm : (s : State) (q : Quotes) {c : Call} {p : Pass} {o : Outcome} → Happens s q c p o → Each is_rest (StandsFirm o.state) o.says
rest_firm s q (resting {o = o} f z) =
    alone (rest_report o)
    (λ e. let none : (rested o).held ≡ 0 = ap held_told e in rw (put_here o.side (place (resting_before o.side) (rested o) (on o.side s)) s) (firm_new o.side (rested o) (on o.side s) (fits_absent o.number s o.side f) none))
rest_firm s q (refusal why z) = silent is_rest refl
rest_firm s q (trading y g f z) = silent is_rest refl
rest_firm s q (sending y g z) = silent is_rest refl
rest_firm s q (leaving why g z) = silent is_rest refl
rest_firm s q (entering z) = silent is_rest refl
rest_firm s q (cancelling p f z) = silent is_rest refl
rest_firm s q (cutting p f z l) = silent is_rest refl
rest_firm s q (replacing p f z g ne) = silent is_rest refl
rest_firm s q (filling p y g f z l) = silent is_rest refl
rest_firm s q (returning y f z l) = silent is_rest refl
rest_firm s q (lapsing y f z l) = silent is_rest refl
rest_firm s q closing = silent is_rest refl
rest_firm s q (expiring d y ys f z) = silent is_rest refl

pub time_priority_lem : TimePriority
time_priority_lem n ts₀ t ts u r x m rests bare stays trades is_x across price late =
    let s₀ : State = state_after ts₀ (new_state n) ready in
    let p₀ : Pass = pass_after ts₀ (new_state n) ready in
    let s₁ : State = (does t s₀ p₀).state in
    let p₁ : Pass = (does t s₀ p₀).pass in
    let s₂ : State = state_after ts s₁ p₁ in
    let p₂ : Pass = pass_after ts s₁ p₁ in
    let d : Side = r.side in
    let a₀ : Apart (on d s₀) = apart_after d ts₀ (new_state n) ready (apart_new d n) in
    let a₁ : Apart (on d s₁) = apart_after d (t ∷ []) s₀ p₀ a₀ in
    let f₁ = (rest_firm s₀ t.quotes (nothing_else t.quotes t.call s₀ p₀)).each r rests (ap is_rest bare) bare in
    let f₂ = stays_ahead_after ts s₁ p₁ d r.number r.price r.shares [] a₁ f₁ stays in
    let y = no_trade_through u.quotes u.call s₂ p₂ x m trades is_x in
    let e : across_of y.order.side ≡ d = ap across_of (sym y.told.0) ∙ across in
    firm_first d r.number r.price f₂.0 (latecomers d [] ts s₁ p₁) y.taken (on d s₂) (rw e at y.first) f₂.1
    (sym y.told.1 ∙ price) (subst (λ (i : ℕ). InList i (latecomers d [] ts s₁ p₁)) (ap other_told (sym is_x ∙ y.told.2)) late)

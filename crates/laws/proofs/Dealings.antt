-- Fair dealing, by each thing that can happen.
use Rattle.std.proofs.Common.{◌≡◌, ℕ, ◌+◌, ◌<◌, ◌≤◌, min, Bool, true, false, cond, not, ◌||◌, eqb, ltb, leb, ◌≢◌, List, [], ◌∷◌, Some, None, Option, sym, refl, ap, subst, inl, arith}
use Rattle.std.proofs.lemmas.Bool.Decides.{nat_tests}
use Rattle.std.proofs.lemmas.Bool.{cond_both, and_parts, and_from, or_parts, not-true, not_from_false, eqb-true, eq-eqb, ne_eqb}
use Rattle.ranking.specs.Place.{Spot, every, head_of, locate}
use Rattle.market.specs.declared.types.Side.{Side}
use Rattle.market.specs.declared.types.Side.TheVariants.{Buy, Sell}
use Rattle.market.specs.declared.types.Resting.{Resting}
use Rattle.market.specs.declared.types.Route.{Route}
use Rattle.market.specs.declared.types.Quotation.{Quotation}
use Rattle.market.specs.declared.types.Order.{Order}
use Rattle.market.specs.declared.types.Terms.{Terms}
use Rattle.market.specs.declared.types.Report.{Report}
use Rattle.market.specs.declared.types.What.TheVariants.{Sent}
use Rattle.market.specs.declared.types.Refusal.{Refusal}
use Rattle.market.specs.declared.types.Refusal.TheVariants.{NotResting, CutTooLarge, NotOut, ReplyTooLarge, NoPass, WrongPass}
use Rattle.market.specs.declared.types.Move.{Move}
use Rattle.market.specs.declared.types.Move.TheVariants.{Trade as ToTrade, Send, TakeOff, Rest}
use Rattle.market.specs.declared.types.Call.{Call}
use Rattle.market.specs.declared.types.Call.TheVariants.{Enter, Work, Cut, Cancel, Replace, Reply, Close, Expire}
use Rattle.market.specs.Sides.{across_of, ahead, within}
use Rattle.market.specs.Legal.{goes_out, trades_past}
use Rattle.market.specs.States.{State, Quotes, on, quoted, put_quotes, venue_is, route_bears, fits}
use Rattle.market.specs.Quotes.{quotation_legal, one_a_venue, Shown, size_at, lessened}
use Rattle.market.specs.Orders.{total, remaining}
use Rattle.market.specs.Reports.{refusal_number}
use Rattle.market.specs.Steps.{any_better, move_of, act}
use Rattle.market.specs.Calls.{Pass, ready, ended, in_hand, reports, refused, Outcome, refuse, unless, or_else, checked, terms_refusal, numbers_refusal, found_refusal, cancel_refusal, cut_refusal, enter_refusal, Place, find, cancel_at, cut_at, replace_at, reply_at, late_reply_at, expire_from, call}
use Rattle.market.specs.Sound.{Sound, able, resting_fair}
use Rattle.soundness.specs.Rules.{trades_with}
use Rattle.soundness.proofs.Lists.{every_first}
use Rattle.soundness.proofs.Moves.{made_by, trade_when, send_when}
use Rattle.soundness.proofs.Keeps.{fair_of}
use Rattle.soundness.proofs.Hands.{left_is}
use Rattle.soundness.proofs.Kept.{side_shown, some_sent}
use Rattle.laws.specs.Strings.{Reported}
use Rattle.laws.specs.Refusals.{cut_found, reply_found, expire_found, first_failed}
use Rattle.laws.specs.Happens.{Happens, refusal, trading, sending, leaving, resting, entering, cancelling, cutting, replacing, filling, returning, lapsing, closing, expiring}
use Rattle.laws.specs.Dealings.{NoneBetter, Sends, SentWithin, BoardElseUnmoved, Trades, NoTradeThrough, Less, RemainderNeverGrows, RefusalsChangeNothing, RefusedExactly}
use Rattle.laws.proofs.Happens.{nothing_else}
use Rattle.laws.proofs.Reports.{Each, is_trade, is_sent, silent, alone}

-- the board

quoted_put : (d : Side) (xs : List Quotation) (q : Quotes) → quoted d (put_quotes d xs q) ≡ xs
quoted_put Buy xs q = refl
quoted_put Sell xs q = refl

none_at : (v : ℕ) (xs : List Quotation) → every (λ x. not (venue_is v x)) xs ≡ true → size_at v xs ≡ 0
none_at v [] h = refl
none_at v (x ∷ xs) h =
    let p = and_parts (not (venue_is v x)) (every (λ y. not (venue_is v y)) xs) h in
    rw (not-true (venue_is v x) p.0) (none_at v xs p.1)

-- the first line lessened
module _ (k : ℕ) (x : Quotation) where
  gone_first : (xs : List Quotation) → Some x ≡ head_of xs → one_a_venue xs ≡ true → k ≤ x.size → size_at x.venue (lessened x.venue k xs) + k ≡ size_at x.venue xs
  gone_first [] e h l = let z : ◌≡◌ {A = ℕ} 0 1 = cc in omega arith
  gone_first (y ∷ ys) e h l =
      let same : y ≡ x = cc in
      subst (λ (w : Quotation). one_a_venue (w ∷ ys) ≡ true → size_at x.venue (lessened x.venue k (w ∷ ys)) + k ≡ size_at x.venue (w ∷ ys)) (sym same)
      (λ h'. let self = eq-eqb x.venue x.venue refl in
      let p = and_parts (every (λ z. not (venue_is x.venue z)) ys) (one_a_venue ys) h' in
      rw self
      (cond_both (eqb x.size k) _ _ (λ w. size_at x.venue w + k ≡ x.size) (λ t. let z = none_at x.venue ys p.0 in let u = eqb-true x.size k t in omega arith) (λ _. rw self (omega arith)))) h

  others_first : (xs : List Quotation) → Some x ≡ head_of xs → (v : ℕ) → v ≢ x.venue → size_at v (lessened x.venue k xs) ≡ size_at v xs
  others_first [] e v ne = refl
  others_first (y ∷ ys) e v ne =
      let same : y ≡ x = cc in
      subst (λ (w : Quotation). size_at v (lessened x.venue k (w ∷ ys)) ≡ size_at v (w ∷ ys)) (sym same)
      (let self = eq-eqb x.venue x.venue refl in
      let other = ne_eqb x.venue v (λ z. ne (sym z)) in
      rw (self, other) (cond_both (eqb x.size k) _ _ (λ w. size_at v w ≡ size_at v ys) (λ _. refl) (λ _. rw other)))

sends : (s : State) (q : Quotes) {c : Call} {p : Pass} {t : Outcome} → Happens s q c p t → Each is_sent (λ r. Sends s q p r t) t.says
sends s q (sending {o = o} x f z) =
    let m = made_by z in
    let d : Side = across_of o.side in
    let k : ℕ = min o.shares x.size in
    alone _ (record {
      order = o;
      quotation = x;
      hand = refl;
      first = m.0;
      limit = (and_parts (goes_out o.kind) (within o.side o.limit x.price) m.1).1;
      told = (refl, refl, refl);
      most = (omega arith, omega arith);
      some = λ a w. some_sent o x a (every_first quotation_legal x (quoted d q) m.0 (side_shown d q w).legal);
      board = refl;
      gone = λ w. rw (quoted_put d (lessened x.venue k (quoted d q)) q) (gone_first k x (quoted d q) m.0 (side_shown d q w).venues (omega arith));
      others = λ v ne. rw (quoted_put d (lessened x.venue k (quoted d q)) q) (others_first k x (quoted d q) m.0 v ne);
      number = refl;
      route = refl;
    })
sends s q (refusal why z) = silent is_sent refl
sends s q (trading y g f z) = silent is_sent refl
sends s q (leaving why g z) = silent is_sent refl
sends s q (resting g z) = silent is_sent refl
sends s q (entering z) = silent is_sent refl
sends s q (cancelling p f z) = silent is_sent refl
sends s q (cutting p f z l) = silent is_sent refl
sends s q (replacing p f z g ne) = silent is_sent refl
sends s q (filling p r g f z l) = silent is_sent refl
sends s q (returning r f z l) = silent is_sent refl
sends s q (lapsing r f z l) = silent is_sent refl
sends s q closing = silent is_sent refl
sends s q (expiring d y ys f z) = silent is_sent refl

pub sent_within : SentWithin
sent_within q c s p r v h e = (sends s q (nothing_else q c s p)).each r h (ap is_sent e)

unmoved : (s : State) (q : Quotes) {c : Call} {p : Pass} {t : Outcome} → Happens s q c p t → ((r : Report) (v : ℕ) → Reported r t.says → r.what ≢ Sent v) → t.quotes ≡ q
unmoved s q (sending x f z) h = absurd (h _ _ (inl refl) refl)
unmoved s q (refusal why z) h = refl
unmoved s q (trading y g f z) h = refl
unmoved s q (leaving why g z) h = refl
unmoved s q (resting g z) h = refl
unmoved s q (entering z) h = refl
unmoved s q (cancelling p f z) h = refl
unmoved s q (cutting p f z l) h = refl
unmoved s q (replacing p f z g ne) h = refl
unmoved s q (filling p r g f z l) h = refl
unmoved s q (returning r f z l) h = refl
unmoved s q (lapsing r f z l) h = refl
unmoved s q closing h = refl
unmoved s q (expiring d y ys f z) h = refl

pub board_else_unmoved : BoardElseUnmoved
board_else_unmoved q c s p h = unmoved s q (nothing_else q c s p) h

-- trades

none_better : (d : Side) (price : ℕ) (qs : List Quotation) → any_better d price qs ≡ false → NoneBetter d price qs
none_better d price [] h = refl
none_better d price (x ∷ xs) h =
    let p = or_parts (ahead d x.price price) (any_better d price xs) h in
    and_from (not (ahead d x.price price)) (every (λ y. not (ahead d y.price price)) xs) (not_from_false (ahead d x.price price) p.0) (none_better d price xs p.1)

past_none : (t u : Bool) → (t || not u) ≡ true → t ≡ false → u ≡ false
past_none t u h e = grind (arith, nat_tests)

some_shown : (n k : ℕ) (x : Resting) → resting_fair n x ≡ true → 1 ≤ k → 0 < min k x.shown
some_shown n k x h l = grind (arith, nat_tests)

some_able : (o : Order) → able o ≡ true → 1 ≤ o.shares
some_able o a = grind (arith, nat_tests)

some_traded : (s : State) (o : Order) (x : Resting) → Some x ≡ head_of (on (across_of o.side) s) → able o ≡ true → Sound s → 0 < min o.shares x.shown
some_traded s o x e a h =
    let d : Side = across_of o.side in
    some_shown s.next o.shares x (every_first (resting_fair s.next) x (on d s) e (fair_of d s h)) (some_able o a)

trades : (s : State) (q : Quotes) {c : Call} {p : Pass} {t : Outcome} → Happens s q c p t → Each is_trade (Trades s q p) t.says
trades s q (trading {o = o} y g f z) =
    let m = made_by z in
    let d : Side = across_of o.side in
    let same : m.0 ≡ y = cc in
    let w : trades_with q o y ≡ true = subst (λ (x : Resting). trades_with q o x ≡ true) same m.2 in
    let u = and_parts (within o.side o.limit y.price) (trades_past o.kind || not (any_better d y.price (quoted d q))) w in
    alone _ (record {
      order = o;
      taken = y;
      hand = refl;
      first = f;
      told = (refl, refl, refl);
      most = (omega arith, omega arith);
      some = λ a h. some_traded s o y f a h;
      limit = u.0;
      through = λ e. none_better d y.price (quoted d q) (past_none (trades_past o.kind) (any_better d y.price (quoted d q)) u.1 e);
    })
trades s q (refusal why z) = silent is_trade refl
trades s q (sending x g z) = silent is_trade refl
trades s q (leaving why g z) = silent is_trade refl
trades s q (resting g z) = silent is_trade refl
trades s q (entering z) = silent is_trade refl
trades s q (cancelling p f z) = silent is_trade refl
trades s q (cutting p f z l) = silent is_trade refl
trades s q (replacing p f z g ne) = silent is_trade refl
trades s q (filling p r g f z l) = silent is_trade refl
trades s q (returning r f z l) = silent is_trade refl
trades s q (lapsing r f z l) = silent is_trade refl
trades s q closing = silent is_trade refl
trades s q (expiring d y ys f z) = silent is_trade refl

pub no_trade_through : NoTradeThrough
no_trade_through q c s p r n h e = (trades s q (nothing_else q c s p)).each r h (ap is_trade e)

-- what is left in hand

less_left : (k : ℕ) (o o' : Order) → k ≤ o.shares → Some o' ≡ remaining k o → Less k o o'
less_left k o o' l e =
    subst (Less k o) (sym (left_is k o o' e).1)
    (record { number = refl; user = refl; side = refl; limit = refl; show = refl; kind = refl; shares = omega arith })

fewer : (k : ℕ) (o o' : Order) → Less k o o' → 0 < k → o'.shares < o.shares
fewer k o o' w l = let e : o'.shares + k ≡ o.shares = w.shares in omega arith

module _ (s : State) (q : Quotes) (o o' : Order) where
  left_by : (m : Move) → move_of s q o ≡ m → Some o' ≡ (act m s q o).left → Less (act m s q o).report.shares o o' × (able o ≡ true → Sound s → Shown q → o'.shares < o.shares)
  left_by (ToTrade n price shown) m e =
      let k : ℕ = min o.shares shown in
      let w = less_left k o o' (omega arith) e in
      let t = trade_when s q o n price shown m in
      (w, λ a h _. fewer k o o' w (subst (λ (z : ℕ). 0 < min o.shares z) t.5 (some_traded s o t.0 t.1 a h)))
  left_by (Send x) m e =
      let k : ℕ = min o.shares x.size in
      let d : Side = across_of o.side in
      let w = less_left k o o' (omega arith) e in
      (w, λ a _ v. fewer k o o' w (some_sent o x a (every_first quotation_legal x (quoted d q) (send_when s q o x m).0 (side_shown d q v).legal)))
  left_by (TakeOff why) m e = let z : ◌≡◌ {A = ℕ} 0 1 = cc in absurd (omega arith)
  left_by Rest m e = let z : ◌≡◌ {A = ℕ} 0 1 = cc in absurd (omega arith)

pub remainder_never_grows : RemainderNeverGrows
remainder_never_grows s q o o' e = left_by s q o o' (move_of s q o) refl e

-- refusals

pub record StaysSo (s : State) (q : Quotes) (c : Call) (p : Pass) (t : Outcome) (n : ℕ) : Type 0 where
  pub same : (t.state ≡ s) × (t.quotes ≡ q) × (t.pass ≡ p)
  pub since : (why : Refusal) × (first_failed c s p ≡ Some why) × (n ≡ refusal_number why)

said_other : {A : Type 0} (rs : List Report) (n : ℕ) → reports rs ≡ refused n → A
said_other rs n e = let z : ◌≡◌ {A = ℕ} 0 1 = cc in absurd (omega arith)

refuses : (s : State) (q : Quotes) {c : Call} {p : Pass} {t : Outcome} → Happens s q c p t → (n : ℕ) → t.says ≡ refused n → StaysSo s q c p t n
refuses s q (refusal why z) n e = record { same = (refl, refl, refl); since = (why, z, cc) }
refuses s q (sending x f z) n e = said_other _ n e
refuses s q (trading y g f z) n e = said_other _ n e
refuses s q (leaving why g z) n e = said_other _ n e
refuses s q (resting g z) n e = said_other _ n e
refuses s q (entering z) n e = said_other _ n e
refuses s q (cancelling p f z) n e = said_other _ n e
refuses s q (cutting p f z l) n e = said_other _ n e
refuses s q (replacing p f z g ne) n e = said_other _ n e
refuses s q (filling p r g f z l) n e = said_other _ n e
refuses s q (returning r f z l) n e = said_other _ n e
refuses s q (lapsing r f z l) n e = said_other _ n e
refuses s q closing n e = said_other _ n e
refuses s q (expiring d y ys f z) n e = said_other _ n e

pub refusals_change_nothing : RefusalsChangeNothing
refusals_change_nothing q c s p n e = (refuses s q (nothing_else q c s p) n e).same

module _ (s : State) (q : Quotes) (why : Refusal) where
  the_same : (p : Pass) (w : Refusal) → Some w ≡ Some why → refuse w s q p ≡ refuse why s q p
  the_same p w e = let z : w ≡ why = cc in ap (λ x. refuse x s q p) z

  no_refusal : {A : Type 0} → ◌≡◌ {A = Option Refusal} None (Some why) → A
  no_refusal e = let z : ◌≡◌ {A = ℕ} 0 1 = cc in absurd (omega arith)

  -- a check fails
  refused_first : (p : Pass) (a : Option Refusal) (x : Outcome) → a ≡ Some why → checked a s q p x ≡ refuse why s q p
  refused_first p (Some w) x e = the_same p w e
  refused_first p None x e = no_refusal e

  -- it fails, or what comes after it
  refused_at : (p : Pass) (a b : Option Refusal) (x : Outcome) → or_else a b ≡ Some why → (b ≡ Some why → x ≡ refuse why s q p) → checked a s q p x ≡ refuse why s q p
  refused_at p (Some w) b x e f = the_same p w e
  refused_at p None b x e f = f e

  refused_else : (p : Pass) (t : Bool) (w : Refusal) (x : Outcome) → unless t w ≡ Some why → cond t x (refuse w s q p) ≡ refuse why s q p
  refused_else p true w x e = no_refusal e
  refused_else p false w x e = the_same p w e

  cancel_refused : (o : Option Place) → found_refusal o ≡ Some why → cancel_at o s q ≡ refuse why s q ready
  cancel_refused None e = the_same ready NotResting e
  cancel_refused (Some p) e = no_refusal e

  cut_refused : (k : ℕ) (o : Option Place) → cut_found k o ≡ Some why → cut_at k o s q ≡ refuse why s q ready
  cut_refused k None e = the_same ready NotResting e
  cut_refused k (Some p) e = refused_else ready (ltb k (total p.spot.line)) CutTooLarge _ e

  replace_refused : (t : Terms) (o : Option Place) → or_else (found_refusal o) (numbers_refusal s) ≡ Some why → replace_at t o s q ≡ refuse why s q ready
  replace_refused t None e = the_same ready NotResting e
  replace_refused t (Some p) e = refused_first ready (numbers_refusal s) _ e

  reply_refused : (k : ℕ) (o : Option (Spot Route)) → reply_found k o ≡ Some why → reply_at k o s q ≡ refuse why s q ready
  reply_refused k None e = the_same ready NotOut e
  reply_refused k (Some r) e = refused_else ready (leb k r.line.out) ReplyTooLarge _ e

  late_refused : (k : ℕ) (o : Option (Spot Route)) → reply_found k o ≡ Some why → late_reply_at k o s q ≡ refuse why s q ended
  late_refused k None e = the_same ended NotOut e
  late_refused k (Some r) e = refused_else ended (leb k r.line.out) ReplyTooLarge _ e

  expire_refused : (xs ys : List Resting) → expire_found xs ys ≡ Some why → expire_from xs ys s q ≡ refuse why s q ended
  expire_refused [] [] e = the_same ended _ e
  expire_refused [] (y ∷ ys) e = no_refusal e
  expire_refused (x ∷ xs) ys e = no_refusal e

  refused_by : (c : Call) (p : Pass) → first_failed c s p ≡ Some why → call q c s p ≡ refuse why s q p
  refused_by (Enter d t) ready e = refused_first ready (enter_refusal t s) _ e
  refused_by (Cut k user n) ready e = refused_at ready (cut_refusal k user) _ _ e (cut_refused k (find user n s))
  refused_by (Cancel user n) ready e = refused_at ready (cancel_refusal user) _ _ e (cancel_refused (find user n s))
  refused_by (Replace t n) ready e = refused_at ready (terms_refusal t) _ _ e (replace_refused t (find t.user n s))
  refused_by (Reply k n) ready e = reply_refused k (locate (route_bears n) s.routes) e
  refused_by Close ready e = no_refusal e
  refused_by Work ready e = the_same ready NoPass e
  refused_by Expire ready e = the_same ready NoPass e
  refused_by Work (in_hand o) e = refused_else (in_hand o) (fits o.number s) WrongPass _ e
  refused_by (Enter d t) (in_hand o) e = the_same (in_hand o) NoPass e
  refused_by (Cut k user n) (in_hand o) e = the_same (in_hand o) NoPass e
  refused_by (Cancel user n) (in_hand o) e = the_same (in_hand o) NoPass e
  refused_by (Replace t n) (in_hand o) e = the_same (in_hand o) NoPass e
  refused_by (Reply k n) (in_hand o) e = the_same (in_hand o) NoPass e
  refused_by Close (in_hand o) e = the_same (in_hand o) NoPass e
  refused_by Expire (in_hand o) e = the_same (in_hand o) NoPass e
  refused_by (Reply k n) ended e = late_refused k (locate (route_bears n) s.routes) e
  refused_by Expire ended e = expire_refused s.buys s.sells e
  refused_by (Enter d t) ended e = the_same ended NoPass e
  refused_by (Cut k user n) ended e = the_same ended NoPass e
  refused_by (Cancel user n) ended e = the_same ended NoPass e
  refused_by (Replace t n) ended e = the_same ended NoPass e
  refused_by Work ended e = the_same ended NoPass e
  refused_by Close ended e = the_same ended NoPass e

pub refused_exactly : RefusedExactly
refused_exactly q c s p = (λ why e. refused_by s q why c p e, λ n e. (refuses s q (nothing_else q c s p) n e).since)

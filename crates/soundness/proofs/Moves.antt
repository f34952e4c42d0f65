-- What holds where a step of work trades, sends, takes off or rests.
use Rattle.std.proofs.Common.{◌≡◌, ℕ, ◌<◌, ◌≤◌, Bool, true, false, cond, not, ◌&&◌, ◌||◌, eqb, leb, ◌≢◌, ◌⊎◌, List, [], ◌∷◌, length, Some, None, Option, refl, ◌∙◌, subst, inl, inr, arith}
use Rattle.std.proofs.lemmas.Bool.Decides.{nat_tests}
use Rattle.std.proofs.lemmas.Bool.{true≢false, and_parts, or_parts, or_from, leb-false, eqb-false, cond-true, cond-false}
use Rattle.ranking.specs.Place.{in_rank, none_before, head_of}
use Rattle.market.specs.declared.types.Side.{Side}
use Rattle.market.specs.declared.types.Side.TheVariants.{Buy, Sell}
use Rattle.market.specs.declared.types.Kind.{Kind}
use Rattle.market.specs.declared.types.Kind.TheVariants.{Limit, BookOnly, Immediate, Sweep}
use Rattle.market.specs.declared.types.Resting.{Resting}
use Rattle.market.specs.declared.types.Quotation.{Quotation}
use Rattle.market.specs.declared.types.Order.{Order}
use Rattle.market.specs.declared.types.Reason.{Reason}
use Rattle.market.specs.declared.types.Reason.TheVariants.{NoRoute}
use Rattle.market.specs.declared.types.Move.{Move}
use Rattle.market.specs.declared.types.Move.TheVariants.{Trade, Send, TakeOff, Rest}
use Rattle.market.specs.Sides.{across_of, ahead, within, quotation_before}
use Rattle.market.specs.Legal.{goes_out, trades_past, never_rests, never_locks}
use Rattle.market.specs.States.{State, Quotes, on, quoted}
use Rattle.market.specs.Reports.{reason_number}
use Rattle.market.specs.Steps.{any_better, resting_near, quotation_near, no_route, side_full, ends, sends, trades, move_of}
use Rattle.soundness.specs.Rules.{trades_with, goes_to, touches, NoTrade, NoSend, Rule, trading, sending, unroutable, unfilled, locking, crowded, resting, MovesByRule}

same_some : {X : Type 0} (x y : X) (o : Option X) → Some x ≡ o → Some y ≡ o → x ≡ y
same_some x y o e f = cc

module _ (s : State) (q : Quotes) (o : Order) where
  branch : (t : Bool) {m n : Move} → (t ≡ true → Rule s q o m) → (t ≡ false → Rule s q o n) → Rule s q o (cond t m n)
  branch true f g = f refl
  branch false f g = g refl

  rule_ends : NoTrade s q o → NoSend q o → Rule s q o (ends (touches s q o) (side_full o.side s) o.kind)
  rule_ends a b =
      branch (never_rests o.kind) (λ t. unfilled a b t)
      (λ t. branch (never_locks o.kind && touches s q o) (λ u. locking a b t u) (λ u. branch (side_full o.side s) (λ v. crowded a b t u v) (λ v. resting a b t u v)))

  rule_sends : (oq : Option Quotation) → oq ≡ head_of (quoted (across_of o.side) q) → NoTrade s q o → {m : Move} → (NoSend q o → Rule s q o m) → Rule s q o (sends o oq (no_route s) m)
  rule_sends None e a k = k (λ x f. cc)
  rule_sends (Some x) e a k =
      branch (goes_to o x) (λ t. branch (no_route s) (λ u. unroutable x a e t u) (λ u. sending x a e t u))
      (λ t. k (λ y f. subst (λ (z : Quotation). goes_to o z ≡ false) (same_some x y (head_of (quoted (across_of o.side) q)) e f) t))

  rule_trades : (op : Option Resting) → op ≡ head_of (on (across_of o.side) s) → {m : Move} → (NoTrade s q o → Rule s q o m) → Rule s q o (trades o op (quoted (across_of o.side) q) m)
  rule_trades None e k = k (λ x f. cc)
  rule_trades (Some x) e k =
      branch (trades_with q o x) (λ t. trading x e t)
      (λ t. k (λ y f. subst (λ (z : Resting). trades_with q o z ≡ false) (same_some x y (head_of (on (across_of o.side) s)) e f) t))

  -- every move is made by its rule
  pub rule : Rule s q o (move_of s q o)
  rule = rule_trades (head_of (on (across_of o.side) s)) refl (λ a. rule_sends (head_of (quoted (across_of o.side) q)) refl a (λ b. rule_ends a b))

-- no rule makes another move
module _ (o : Order) where
  takes : (op : Option Resting) (qs : List Quotation) (m : Move) (x : Resting) → Some x ≡ op → (within o.side o.limit x.price && (trades_past o.kind || not (any_better (across_of o.side) x.price qs))) ≡ true → trades o op qs m ≡ Trade x.number x.price x.shown
  takes None qs m x e t = cc
  takes (Some y) qs m x e t =
      let same : x ≡ y = cc in
      subst (λ (z : Resting). trades o (Some z) qs m ≡ Trade x.number x.price x.shown) same (cond-true _ _ m t)

  takes_none : (op : Option Resting) (qs : List Quotation) (m : Move) → ((x : Resting) → Some x ≡ op → (within o.side o.limit x.price && (trades_past o.kind || not (any_better (across_of o.side) x.price qs))) ≡ false) → trades o op qs m ≡ m
  takes_none None qs m f = refl
  takes_none (Some x) qs m f = cond-false _ _ m (f x refl)

  goes : (oq : Option Quotation) (unable : Bool) (m : Move) (x : Quotation) → Some x ≡ oq → goes_to o x ≡ true → sends o oq unable m ≡ cond unable (TakeOff NoRoute) (Send x)
  goes None unable m x e t = cc
  goes (Some y) unable m x e t =
      let same : x ≡ y = cc in
      subst (λ (z : Quotation). sends o (Some z) unable m ≡ cond unable (TakeOff NoRoute) (Send x)) same (cond-true _ _ m t)

  goes_none : (oq : Option Quotation) (unable : Bool) (m : Move) → ((x : Quotation) → Some x ≡ oq → goes_to o x ≡ false) → sends o oq unable m ≡ m
  goes_none None unable m f = refl
  goes_none (Some x) unable m f = cond-false _ _ m (f x refl)

module _ (s : State) (q : Quotes) (o : Order) where
  past_trade : (m : Move) → NoTrade s q o → trades o (head_of (on (across_of o.side) s)) (quoted (across_of o.side) q) m ≡ m
  past_trade m a = takes_none o (head_of (on (across_of o.side) s)) (quoted (across_of o.side) q) m a

  past_both : NoTrade s q o → NoSend q o → move_of s q o ≡ ends (touches s q o) (side_full o.side s) o.kind
  past_both a b = past_trade _ a ∙ goes_none o (head_of (quoted (across_of o.side) q)) (no_route s) _ b

  pub one_rule : (m : Move) → Rule s q o m → move_of s q o ≡ m
  one_rule m (trading x e t) = takes o (head_of (on (across_of o.side) s)) (quoted (across_of o.side) q) _ x e t
  one_rule m (sending x a e t u) = past_trade _ a ∙ goes o (head_of (quoted (across_of o.side) q)) (no_route s) _ x e t ∙ cond-false (no_route s) _ _ u
  one_rule m (unroutable x a e t u) = past_trade _ a ∙ goes o (head_of (quoted (across_of o.side) q)) (no_route s) _ x e t ∙ cond-true (no_route s) _ _ u
  one_rule m (unfilled a b t) = past_both a b ∙ cond-true (never_rests o.kind) _ _ t
  one_rule m (locking a b t u) = past_both a b ∙ cond-false (never_rests o.kind) _ _ t ∙ cond-true (never_locks o.kind && touches s q o) _ _ u
  one_rule m (crowded a b t u v) =
      past_both a b ∙ cond-false (never_rests o.kind) _ _ t ∙ cond-false (never_locks o.kind && touches s q o) _ _ u ∙ cond-true (side_full o.side s) _ _ v
  one_rule m (resting a b t u v) =
      past_both a b ∙ cond-false (never_rests o.kind) _ _ t ∙ cond-false (never_locks o.kind && touches s q o) _ _ u ∙ cond-false (side_full o.side s) _ _ v

pub moves_by_rule_lem : MovesByRule
moves_by_rule_lem s q o = (rule s q o, one_rule s q o)

-- what each move says of the book and the board
abbrev pub Made : State → Quotes → Order → Move → Type 0
Made s q o (Trade n price shown) =
    (x : Resting) × (Some x ≡ head_of (on (across_of o.side) s)) × (trades_with q o x ≡ true) × (x.number ≡ n) × (x.price ≡ price) × (x.shown ≡ shown)
Made s q o (Send x) = (Some x ≡ head_of (quoted (across_of o.side) q)) × (goes_to o x ≡ true) × (length s.routes < 64) × (s.next ≢ 0)
Made s q o (TakeOff why) = 5 ≤ reason_number why
Made s q o Rest = NoTrade s q o × NoSend q o × (never_rests o.kind ≡ false) × ((never_locks o.kind && touches s q o) ≡ false) × (length (on o.side s) < 256)

-- a route can be opened
pub route_left : (s : State) → no_route s ≡ false → (length s.routes < 64) × (s.next ≢ 0)
route_left s u =
    let p = or_parts (leb 64 (length s.routes)) (eqb s.next 0) u in
    (leb-false 64 (length s.routes) p.0, eqb-false s.next 0 p.1)

pub made_by : {s : State} {q : Quotes} {o : Order} {m : Move} → Rule s q o m → Made s q o m
made_by (trading x f t) = (x, f, t, refl, refl, refl)
made_by {s} (sending x a f t u) = let r = route_left s u in (f, t, r.0, r.1)
made_by (unroutable x a f t u) = omega arith
made_by (unfilled a b t) = omega arith
made_by (locking a b t u) = omega arith
made_by (crowded a b t u v) = omega arith
made_by {s} {q} {o} (resting a b t u v) = (a, b, t, u, leb-false 256 (length (on o.side s)) v)

pub made : (s : State) (q : Quotes) (o : Order) (m : Move) → move_of s q o ≡ m → Made s q o m
made s q o m e = subst (Made s q o) e (made_by (rule s q o))

-- a trade takes the first resting order across
pub trade_when : (s : State) (q : Quotes) (o : Order) (n price shown : ℕ) → move_of s q o ≡ Trade n price shown → Made s q o (Trade n price shown)
trade_when s q o n price shown e = made s q o (Trade n price shown) e

-- a send takes the first quotation across, with a route and a number to spare
pub send_when : (s : State) (q : Quotes) (o : Order) (x : Quotation) → move_of s q o ≡ Send x → Made s q o (Send x)
send_when s q o x e = made s q o (Send x) e

-- what is taken off in hand has reason 5 to 8
pub off_when : (s : State) (q : Quotes) (o : Order) (why : Reason) → move_of s q o ≡ TakeOff why → 5 ≤ reason_number why
off_when s q o why e = made s q o (TakeOff why) e

-- the first quotation says whether any is better
none_better : (d : Side) (p : ℕ) (q : Quotation) (rs : List Quotation) → none_before (quotation_before d) q rs ≡ true → ahead d q.price p ≡ false → any_better d p rs ≡ false
none_better d p q [] l b = refl
none_better Buy p q (r ∷ rs) l b =
    let rest : none_before (quotation_before Buy) q rs ≡ true = grind (arith, nat_tests) in
    let h = none_better Buy p q rs rest b in grind (arith, nat_tests)
none_better Sell p q (r ∷ rs) l b =
    let rest : none_before (quotation_before Sell) q rs ≡ true = grind (arith, nat_tests) in
    let h = none_better Sell p q rs rest b in grind (arith, nat_tests)

pub first_says : (d : Side) (p : ℕ) (q : Quotation) (rs : List Quotation) → in_rank (quotation_before d) (q ∷ rs) ≡ true → ahead d q.price p ≡ false → any_better d p (q ∷ rs) ≡ false
first_says d p q rs o h = or_from (ahead d q.price p) (any_better d p rs) h (none_better d p q rs (and_parts (none_before (quotation_before d) q rs) (in_rank (quotation_before d) rs) o).0 h)

-- what is better than a price within the limit is within it too
near_better : (d : Side) (limit p q : ℕ) → within d limit p ≡ true → within d limit q ≡ false → ahead (across_of d) q p ≡ false
near_better Buy limit p q h k = grind (arith, nat_tests)
near_better Sell limit p q h k = grind (arith, nat_tests)

-- a kind that may rest never locks, or goes out and does not trade past
rests_clear : (k : Kind) → never_rests k ≡ false → (never_locks k ≡ true) ⊎ ((goes_out k ≡ true) × (trades_past k ≡ false))
rests_clear Limit r = inr (refl, refl)
rests_clear BookOnly r = inl refl
rests_clear Immediate r = absurd (true≢false r)
rests_clear Sweep r = absurd (true≢false r)

none_sent : (o : Order) (oq : Option Quotation) → ((x : Quotation) → Some x ≡ oq → goes_to o x ≡ false) → (goes_out o.kind && quotation_near o oq) ≡ false
none_sent o None f = grind (arith, nat_tests)
none_sent o (Some x) f = f x refl

-- no better quotation, and no trade: the first resting order is not within the limit
not_near : (o : Order) (op : Option Resting) (qs : List Quotation) → in_rank (quotation_before (across_of o.side)) qs ≡ true → trades_past o.kind ≡ false → quotation_near o (head_of qs) ≡ false → ((x : Resting) → Some x ≡ op → (within o.side o.limit x.price && (trades_past o.kind || not (any_better (across_of o.side) x.price qs))) ≡ false) → resting_near o op ≡ false
not_near o None qs r t n f = refl
not_near o (Some x) [] r t n f = let h = f x refl in grind (arith, nat_tests)
not_near o (Some x) (y ∷ ys) r t n f =
    let h = f x refl in
    let d : Side = across_of o.side in
    elim (within o.side o.limit x.price) as (λ b. within o.side o.limit x.price ≡ b → b ≡ false) [
      | true ↦ λ e. let a = first_says d x.price y ys r (near_better o.side o.limit x.price y.price e n) in (let z : ◌≡◌ {A = Bool} true false = rw (e, t, a) at h in z)
      | false ↦ λ e. refl
    ] refl

-- an order comes to rest on a side that has room, where the first resting order across is not within its limit
pub rest_when : (s : State) (q : Quotes) (o : Order) → in_rank (quotation_before (across_of o.side)) (quoted (across_of o.side) q) ≡ true → move_of s q o ≡ Rest → (resting_near o (head_of (on (across_of o.side) s)) ≡ false) × (length (on o.side s) < 256)
rest_when s q o r e =
    let m = made s q o Rest e in
    let op : Option Resting = head_of (on (across_of o.side) s) in
    let qs : List Quotation = quoted (across_of o.side) q in
    let near : Bool = resting_near o op in
    let away : Bool = quotation_near o (head_of qs) in
    let locks : (never_locks o.kind && (near || away)) ≡ false = m.3 in
    let sent : (goes_out o.kind && away) ≡ false = none_sent o (head_of qs) m.1 in
    (elim (rests_clear o.kind m.2) [ inl t ↦ (or_parts near away (rw t at locks)).0 | inr w ↦ not_near o op qs r w.1 (rw w.0 at sent) m.0 ], m.4)

-- A call sees no more of a book than its sheet: books with equal sheets answer alike, and their sheets stay equal.
use Rattle.std.proofs.Common.{◌≡◌, ℕ, min, Bool, true, false, cond, not, ◌&&◌, ◌||◌, eqb, ltb, leb, List, [], ◌∷◌, ◌++◌, map, length, Some, None, Option, sym, refl, ap, ◌∙◌, arith}
use Rattle.std.proofs.lemmas.List.{length-map, map-append}
use Rattle.soundness.proofs.Sheets.{on-sheet}
use Rattle.ranking.specs.Place.{every, place, Spot, past, locate, head_of}
use Rattle.market.specs.declared.types.Side.{Side}
use Rattle.market.specs.declared.types.Side.TheVariants.{Buy, Sell}
use Rattle.market.specs.declared.types.Resting.{Resting}
use Rattle.market.specs.declared.types.Route.{Route}
use Rattle.market.specs.declared.types.Quotation.{Quotation}
use Rattle.market.specs.declared.types.Order.{Order}
use Rattle.market.specs.declared.types.Terms.{Terms}
use Rattle.market.specs.declared.types.Report.{Report}
use Rattle.market.specs.declared.types.Refusal.{Refusal}
use Rattle.market.specs.declared.types.Refusal.TheVariants.{NotResting, CutTooLarge, NotOut, ReplyTooLarge, NothingResting, NoPass}
use Rattle.market.specs.declared.types.Move.{Move}
use Rattle.market.specs.declared.types.Move.TheVariants.{Trade, Send, TakeOff, Rest}
use Rattle.market.specs.declared.types.Call.{Call}
use Rattle.market.specs.declared.types.Call.TheVariants.{Enter, Work, Cut, Cancel, Replace, Reply, Close, Expire}
use Rattle.market.specs.Sides.{across_of, resting_before, route_before}
use Rattle.market.specs.Numbers.{after}
use Rattle.market.specs.States.{State, Quotes, state, on, put, numbered, quoted, resting_bears, route_bears, owned, free, fits}
use Rattle.market.specs.Orders.{total, less, due, refresh, settled, traded, remaining, rested}
use Rattle.market.specs.Steps.{resting_near, quotation_near, no_route, side_full, ends, sends, trades, move_of, act}
use Rattle.market.specs.Calls.{Pass, ready, ended, in_hand, reports, Outcome, refuse, checked, terms_refusal, numbers_refusal, enter_refusal, Place, either, find, cancel_at, cancel_refusal, cut_at, cut_refusal, replace_at, unrouted, hand_back, reply_at, late_reply_at, expire_from, held_by, stepped, work_call, when_ready, when_in_hand, when_ended, call}
use Rattle.laws.specs.Strings.{Turn, does}
use Rattle.market.specs.Sheets.{line, route_line, hand_line, sheet, seen}
use Rattle.laws.specs.Equal.{answers, EqualAnswerAlike}
use Rattle.laws.proofs.Lines.{line_line, less_line, trimmed_line, refresh_line, hand_line_line, route_line_line, left_line, routed_line, returned_line, rested_line, rest_report_line}

-- what a call lets be seen of its outcome, and the sheet that it leaves
abbrev pub view : Outcome → Outcome
view o = record { says = o.says; state = sheet o.state; quotes = o.quotes; pass = seen o.pass }

-- two values that a reading does not tell apart. A record, so that antt reads the values off it
record Agree {A B : Type 0} (f : A → B) (x y : A) : Type 0 where
  same : f x ≡ f y

-- a test that both make
branch : {A B : Type 0} {f : A → B} (t : Bool) {x x' y y' : A} → Agree f x x' → Agree f y y' → Agree f (cond t x y) (cond t x' y')
branch true a b = a
branch false a b = b

branch_on : {A B : Type 0} {f : A → B} (t : Bool) {x x' y y' : A} → (t ≡ true → Agree f x x') → Agree f y y' → Agree f (cond t x y) (cond t x' y')
branch_on true a b = a refl
branch_on false a b = b

alike : {o o' : Outcome} → o.says ≡ o'.says → sheet o.state ≡ sheet o'.state → o.quotes ≡ o'.quotes → seen o.pass ≡ seen o'.pass → Agree view o o'
alike a b c d = record { same = λ i. record { says = a i; state = b i; quotes = c i; pass = d i } }

-- lists, over a reading of the lines
module _ {X : Type 0} (f : X → X) where
  pub maps_twice : ((x : X) → f (f x) ≡ f x) → (xs : List X) → map f (map f xs) ≡ map f xs
  maps_twice again [] = refl
  maps_twice again (x ∷ xs) = λ i. again x i ∷ maps_twice again xs i

  every_map : (t : X → Bool) → ((x : X) → t (f x) ≡ t x) → (xs : List X) → every t (map f xs) ≡ every t xs
  every_map t blind [] = refl
  every_map t blind (x ∷ xs) = λ i. blind x i && every_map t blind xs i

  push : (t : Bool) (xs ys : List X) → map f (cond t xs ys) ≡ cond t (map f xs) (map f ys)
  push true xs ys = refl
  push false xs ys = refl

  place_map : (b : X → X → Bool) → ((x y : X) → b (f x) (f y) ≡ b x y) → (x : X) (xs : List X) → map f (place b x xs) ≡ place b (f x) (map f xs)
  place_map b blind x [] = refl
  place_map b blind x (y ∷ ys) =
      push (b x y) (x ∷ y ∷ ys) (y ∷ place b x ys)
      ∙ (λ i. cond (sym (blind x y) i) (f x ∷ f y ∷ map f ys) (f y ∷ place_map b blind x ys i))

  places : (b : X → X → Bool) → ((x y : X) → b (f x) (f y) ≡ b x y) → ((x : X) → f (f x) ≡ f x) → (x x' : X) (xs : List X) → f x ≡ f x' → map f (place b x xs) ≡ map f (place b x' (map f xs))
  places b blind again x x' xs e = place_map b blind x xs ∙ (λ i. place b (e i) (sym (maps_twice again xs) i)) ∙ sym (place_map b blind x' (map f xs))

  without_map : ((x : X) → f (f x) ≡ f x) → (xs ys : List X) → map f (xs ++ ys) ≡ map f (map f xs ++ map f ys)
  without_map again xs ys = rw (← map-append f xs ys, maps_twice again (xs ++ ys))

  abbrev spot_map : Spot X → Spot X
  spot_map s = record { front = map f s.front; line = f s.line; rest = map f s.rest }

  abbrev spotted : Option (Spot X) → Option (Spot X)
  spotted None = None
  spotted (Some s) = Some (spot_map s)

  past_map : (x : X) (o : Option (Spot X)) → past (f x) (spotted o) ≡ spotted (past x o)
  past_map x None = refl
  past_map x (Some s) = refl

  found_map : (b : Bool) (x : X) (xs : List X) (o : Option (Spot X)) → cond b (Some (record { front = []; line = f x; rest = map f xs })) (past (f x) (spotted o)) ≡ spotted (cond b (Some (record { front = []; line = x; rest = xs })) (past x o))
  found_map true x xs o = refl
  found_map false x xs o = past_map x o

  locate_map : (t : X → Bool) → ((x : X) → t (f x) ≡ t x) → (xs : List X) → locate t (map f xs) ≡ spotted (locate t xs)
  locate_map t blind [] = refl
  locate_map t blind (x ∷ xs) = rw (blind x, locate_map t blind xs) (found_map (t x) x xs (locate t xs))

pub lines_lines : (ps : List Resting) → map line (map line ps) ≡ map line ps
lines_lines = maps_twice line line_line

routes_lines : (rs : List Route) → map route_line (map route_line rs) ≡ map route_line rs
routes_lines = maps_twice route_line route_line_line

pub sheet_sheet : (s : State) → sheet (sheet s) ≡ sheet s
sheet_sheet s i = state (lines_lines s.buys i) (lines_lines s.sells i) (routes_lines s.routes i) s.next

seen_seen : (p : Pass) → seen (seen p) ≡ seen p
seen_seen ready = refl
seen_seen ended = refl
seen_seen (in_hand o) = ap in_hand (hand_line_line o)

-- the parts of a book
sheet_put : (d : Side) (ps ps' : List Resting) (s : State) → map line ps ≡ map line ps' → sheet (put d ps s) ≡ sheet (put d ps' (sheet s))
sheet_put Buy ps ps' s e = λ i. state (e i) (sym (lines_lines s.sells) i) (sym (routes_lines s.routes) i) s.next
sheet_put Sell ps ps' s e = λ i. state (sym (lines_lines s.buys) i) (e i) (sym (routes_lines s.routes) i) s.next

free_sheet : (n : ℕ) (s : State) → free n (sheet s) ≡ free n s
free_sheet n s =
    λ i. every_map line (λ p. not (resting_bears n p)) (λ p. refl) s.buys i && (every_map line (λ p. not (resting_bears n p)) (λ p. refl) s.sells i && every_map route_line (λ r. not (route_bears n r)) (λ r. refl) s.routes i)

-- a step of work
place_lines : (d : Side) (p p' : Resting) (ps : List Resting) → line p ≡ line p' → map line (place (resting_before d) p ps) ≡ map line (place (resting_before d) p' (map line ps))
place_lines Buy = places line (resting_before Buy) (λ x y. refl) line_line
place_lines Sell = places line (resting_before Sell) (λ x y. refl) line_line

settled_line : (d : Side) (p : Resting) (ps : List Resting) → Agree (map line) (settled d p ps) (settled d (line p) (map line ps))
settled_line d p ps =
    branch_on (due p) (λ u. record { same = place_lines d (refresh p) (refresh (line p)) ps (refresh_line p u) })
    (branch (eqb p.shown 0)
    (record { same = sym (lines_lines ps) })
    (record { same = λ i. sym (line_line p) i ∷ sym (lines_lines ps) i }))

settled_lines : (d : Side) (p p' : Resting) (ps : List Resting) → line p ≡ line p' → map line (settled d p ps) ≡ map line (settled d p' (map line ps))
settled_lines d p p' ps e =
    (settled_line d p ps).same
    ∙ (λ i. map line (settled d (e i) (sym (lines_lines ps) i)))
    ∙ sym (settled_line d p' (map line ps)).same

traded_lines : (d : Side) (k : ℕ) (ps : List Resting) → map line (traded d k ps) ≡ map line (traded d k (map line ps))
traded_lines d k [] = refl
traded_lines d k (p ∷ ps) = settled_lines d (less k p) (less k (line p)) ps (less_line k p)

left_seen : (o : Order) (k : ℕ) → Agree (λ x. seen (held_by x)) (remaining k o) (remaining k (hand_line o))
left_seen o k = branch (eqb o.shares k) (record { same = refl }) (record { same = ap in_hand (left_line k o) })

-- the first rule that applies, by what stands first
move_lines : (o : Order) (ps : List Resting) (qs : List Quotation) (unable full : Bool) →
    trades o (head_of ps) qs (sends o (head_of qs) unable (ends (resting_near o (head_of ps) || quotation_near o (head_of qs)) full o.kind))
    ≡ trades (hand_line o) (head_of (map line ps)) qs (sends (hand_line o) (head_of qs) unable (ends (resting_near (hand_line o) (head_of (map line ps)) || quotation_near (hand_line o) (head_of qs)) full o.kind))
move_lines o [] [] unable full = refl
move_lines o [] (q ∷ qs) unable full = refl
move_lines o (p ∷ ps) [] unable full = refl
move_lines o (p ∷ ps) (q ∷ qs) unable full = refl

module _ (s : State) (q : Quotes) (o : Order) where
  move_sheet : move_of s q o ≡ move_of (sheet s) q (hand_line o)
  move_sheet =
      rw (on-sheet (across_of o.side) s, ap length (on-sheet o.side s) ∙ length-map (on o.side s) line, length-map s.routes route_line)
      (move_lines o (on (across_of o.side) s) (quoted (across_of o.side) q) (no_route s) (side_full o.side s))

  act_alike : (m : Move) → Agree view (stepped (act m s q o)) (stepped (act m (sheet s) q (hand_line o)))
  act_alike (Trade n price shown) =
      alike refl
      (sheet_put (across_of o.side) _ _ s (rw (on-sheet (across_of o.side) s) (traded_lines (across_of o.side) (min o.shares shown) (on (across_of o.side) s))))
      refl
      (left_seen o (min o.shares shown)).same
  act_alike (Send x) =
      alike refl
      (λ i. state (sym (lines_lines s.buys) i) (sym (lines_lines s.sells) i)
      (places route_line route_before (λ x y. refl) route_line_line _ _ s.routes (routed_line o x s.next (min o.shares x.size) (omega arith)) i) (after s.next))
      refl
      (left_seen o (min o.shares x.size)).same
  act_alike (TakeOff why) = alike refl (sym (sheet_sheet s)) refl refl
  act_alike Rest =
      alike (ap (λ (r : Report). reports (r ∷ [])) (rest_report_line o))
      (sheet_put o.side _ _ s (rw (on-sheet o.side s) (place_lines o.side (rested o) (rested (hand_line o)) (on o.side s) (rested_line o))))
      refl refl

  work_alike : Agree view (work_call o s q) (work_call (hand_line o) (sheet s) q)
  work_alike =
      rw (free_sheet o.number s, ← move_sheet)
      (branch (fits o.number s) (act_alike (move_of s q o)) (alike refl (sym (sheet_sheet s)) refl (ap in_hand (sym (hand_line_line o)))))

-- the other calls
module _ (s : State) (q : Quotes) where
  still : (why : Refusal) (p : Pass) → Agree view (refuse why s q p) (refuse why (sheet s) q (seen p))
  still why p = alike refl (sym (sheet_sheet s)) refl (sym (seen_seen p))

  checks : (why : Option Refusal) {x x' : Outcome} → Agree view x x' → Agree view (checked why s q ready x) (checked why (sheet s) q ready x')
  checks None a = a
  checks (Some why) a = still why ready

  abbrev place_line : Option Place → Option Place
  place_line None = None
  place_line (Some p) = Some (record { side = p.side; spot = spot_map line p.spot })

  either_line : (o o' : Option (Spot Resting)) → either (spotted line o) (spotted line o') ≡ place_line (either o o')
  either_line (Some x) o = refl
  either_line None (Some x) = refl
  either_line None None = refl

  find_line : (user n : ℕ) → find user n (sheet s) ≡ place_line (find user n s)
  find_line user n =
      (λ i. either (locate_map line (owned user n) (λ p. refl) s.buys i) (locate_map line (owned user n) (λ p. refl) s.sells i))
      ∙ either_line (locate (owned user n) s.buys) (locate (owned user n) s.sells)

  cancel_alike : (p : Option Place) → Agree view (cancel_at p s q) (cancel_at (place_line p) (sheet s) q)
  cancel_alike None = still NotResting ready
  cancel_alike (Some p) = alike refl (sheet_put p.side _ _ s (without_map line line_line p.spot.front p.spot.rest)) refl refl

  cut_alike : (k : ℕ) (p : Option Place) → Agree view (cut_at k p s q) (cut_at k (place_line p) (sheet s) q)
  cut_alike k None = still NotResting ready
  cut_alike k (Some p) =
      branch (ltb k (total p.spot.line))
      (alike refl (sheet_put p.side _ _ s (simp (map-append, lines_lines) (λ i. map line p.spot.front ++ trimmed_line k p.spot.line i ∷ map line p.spot.rest))) refl refl)
      (still CutTooLarge ready)

  replace_alike : (t : Terms) (p : Option Place) → Agree view (replace_at t p s q) (replace_at t (place_line p) (sheet s) q)
  replace_alike t None = still NotResting ready
  replace_alike t (Some p) =
      checks (numbers_refusal s)
      (alike refl (ap numbered (sheet_put p.side _ _ s (without_map line line_line p.spot.front p.spot.rest))) refl refl)

  unrouted_sheet : (r : Spot Route) → sheet (unrouted r s) ≡ sheet (unrouted (spot_map route_line r) (sheet s))
  unrouted_sheet r = λ i. state (sym (lines_lines s.buys) i) (sym (lines_lines s.sells) i) (without_map route_line route_line_line r.front r.rest i) s.next

  back_seen : (k : ℕ) (r : Route) → Agree seen (hand_back k r) (hand_back k (route_line r))
  back_seen k r = branch (eqb r.out k) (record { same = refl }) (record { same = ap in_hand (returned_line k r) })

  reply_alike : (k : ℕ) (r : Option (Spot Route)) → Agree view (reply_at k r s q) (reply_at k (spotted route_line r) (sheet s) q)
  reply_alike k None = still NotOut ready
  reply_alike k (Some r) = branch (leb k r.line.out) (alike refl (unrouted_sheet r) refl (back_seen k r.line).same) (still ReplyTooLarge ready)

  late_reply_alike : (k : ℕ) (r : Option (Spot Route)) → Agree view (late_reply_at k r s q) (late_reply_at k (spotted route_line r) (sheet s) q)
  late_reply_alike k None = still NotOut ended
  late_reply_alike k (Some r) = branch (leb k r.line.out) (alike refl (unrouted_sheet r) refl refl) (still ReplyTooLarge ended)

  expire_alike : (ps ps' : List Resting) → Agree view (expire_from ps ps' s q) (expire_from (map line ps) (map line ps') (sheet s) q)
  expire_alike [] [] = still NothingResting ended
  expire_alike [] (p ∷ ps) = alike refl (sheet_put Sell _ _ s (sym (lines_lines ps))) refl refl
  expire_alike (p ∷ ps) ps' = alike refl (sheet_put Buy _ _ s (sym (lines_lines ps))) refl refl

  ready_alike : (c : Call) → Agree view (when_ready c s q) (when_ready c (sheet s) q)
  ready_alike (Enter d t) = checks (enter_refusal t s) (alike refl (sym (ap numbered (sheet_sheet s))) refl refl)
  ready_alike Work = still NoPass ready
  ready_alike (Cut k user n) = checks (cut_refusal k user) (rw (find_line user n) (cut_alike k (find user n s)))
  ready_alike (Cancel user n) = checks (cancel_refusal user) (rw (find_line user n) (cancel_alike (find user n s)))
  ready_alike (Replace t n) = checks (terms_refusal t) (rw (find_line t.user n) (replace_alike t (find t.user n s)))
  ready_alike (Reply k n) = rw (locate_map route_line (route_bears n) (λ r. refl) s.routes) (reply_alike k (locate (route_bears n) s.routes))
  ready_alike Close = alike refl (sym (sheet_sheet s)) refl refl
  ready_alike Expire = still NoPass ready

  ended_alike : (c : Call) → Agree view (when_ended c s q) (when_ended c (sheet s) q)
  ended_alike (Reply k n) = rw (locate_map route_line (route_bears n) (λ r. refl) s.routes) (late_reply_alike k (locate (route_bears n) s.routes))
  ended_alike Expire = expire_alike s.buys s.sells
  ended_alike Work = still NoPass ended
  ended_alike (Enter d t) = still NoPass ended
  ended_alike (Cut k user n) = still NoPass ended
  ended_alike (Cancel user n) = still NoPass ended
  ended_alike (Replace t n) = still NoPass ended
  ended_alike Close = still NoPass ended

  hand_alike : (o : Order) (c : Call) → Agree view (when_in_hand o c s q) (when_in_hand (hand_line o) c (sheet s) q)
  hand_alike o Work = work_alike s q o
  hand_alike o (Enter d t) = still NoPass (in_hand o)
  hand_alike o (Cut k user n) = still NoPass (in_hand o)
  hand_alike o (Cancel user n) = still NoPass (in_hand o)
  hand_alike o (Replace t n) = still NoPass (in_hand o)
  hand_alike o (Reply k n) = still NoPass (in_hand o)
  hand_alike o Close = still NoPass (in_hand o)
  hand_alike o Expire = still NoPass (in_hand o)

-- one call sees no more of a book than its sheet
pub sheet_suffices : (q : Quotes) (c : Call) (s : State) (p : Pass) → view (call q c s p) ≡ view (call q c (sheet s) (seen p))
sheet_suffices q c s ready = (ready_alike s q c).same
sheet_suffices q c s ended = (ended_alike s q c).same
sheet_suffices q c s (in_hand o) = (hand_alike s q o c).same

-- so equal books give the same answer to a call, and stay equal
pub equal_stay_equal : (q : Quotes) (c : Call) (s s' : State) (p p' : Pass) → sheet s ≡ sheet s' → seen p ≡ seen p' → view (call q c s p) ≡ view (call q c s' p')
equal_stay_equal q c s s' p p' e f = sheet_suffices q c s p ∙ (λ i. view (call q c (e i) (f i))) ∙ sym (sheet_suffices q c s' p')

pub strings_alike : (ts : List Turn) (s s' : State) (p p' : Pass) → sheet s ≡ sheet s' → seen p ≡ seen p' → answers ts s p ≡ answers ts s' p'
strings_alike [] s s' p p' e f = refl
strings_alike (t ∷ ts) s s' p p' e f =
    let v : view (does t s p) ≡ view (does t s' p') = equal_stay_equal t.quotes t.call s s' p p' e f in
    λ i. record { says = (v i).says; pass = (v i).pass } ∷ strings_alike ts (does t s p).state (does t s' p').state (does t s p).pass (does t s' p').pass (λ j. (v j).state) (λ j. (v j).pass) i

pub equal_answer_alike : EqualAnswerAlike
equal_answer_alike s s' e ts = strings_alike ts s s' ready ready e refl

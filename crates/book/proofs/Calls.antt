-- Each way through a call gives the outcome that the model defines.
use Rattle.std.proofs.Common.{◌≡◌, ℕ, ◌+◌, Bool, true, false, not, cond, eqb, is_some, IfSome, leb, ltb, List, [], ◌∷◌, ◌++◌, get_or, take, drop, Some, None, Ok, Err, Option, sym, refl, ap, ◌∙◌, subst, arith}
use Rattle.std.proofs.lemmas.Bool.{cond-true, cond-false}
use Rattle.std.specs.Option.{ok_or, option_map}
use Rattle.ranking.specs.Place.{Spot, spot_at, Found}
use Rattle.market.specs.declared.types.Side.{Side}
use Rattle.market.specs.declared.types.Side.TheVariants.{Buy, Sell}
use Rattle.market.specs.declared.types.Resting.{Resting}
use Rattle.market.specs.declared.types.Route.{Route}
use Rattle.market.specs.declared.types.Order.{Order}
use Rattle.market.specs.declared.types.Terms.{Terms}
use Rattle.market.specs.declared.types.Report.{Report}
use Rattle.market.specs.declared.types.Reason.TheVariants.{Cancelled, Cut as Trimmed, Replaced, Expired}
use Rattle.market.specs.declared.types.Refusal.{Refusal}
use Rattle.market.specs.declared.types.Refusal.TheVariants.{WrongPass, User, Size, CutTooLarge, ReplyTooLarge}
use Rattle.market.specs.declared.types.Call.{Call}
use Rattle.market.specs.Legal.{legal_user, legal_size}
use Rattle.market.specs.States.{State, Quotes, numbered, route_bears, on, put}
use Rattle.market.specs.Orders.{total, trimmed, entered, returned}
use Rattle.market.specs.Reports.{in_report, off_report, off_hand, back_report}
use Rattle.market.specs.Calls.{Pass, ready, ended, in_hand, Outcome, refuse, answer, unless, verdict, call, numbers_refusal, terms_refusal, cut_refusal, admit, Place, find, taken_out, changed_to, cancel_at, cancel_call, cut_at, cut_call, replace_at, replace_call, reply_at, reply_call, late_reply_at, late_reply_call, late_reports, held_by, hand_back, unrouted, expire_from, expire_call}
use Rattle.resting.specs.Orders.{at_place, Located}
use Rattle.resting.specs.declared.orders.looks.Standing.{Standing}
use Rattle.resting.proofs.Sounds.{no_order}
use Rattle.book.specs.declared.book.Book.{Book}
use Rattle.book.specs.Outcomes.{book_state, seen, own_call, late_list}
use Rattle.book.specs.Moves.{Removes}
use Rattle.book.specs.Expiry.{first_of_two, oldest_side}
use Rattle.book.proofs.Verdicts.{passes, fails, held, failed, first_passes}

-- a call with a pass of the book's own is the model's
pub owned : (b : Book) (id bears : ℕ) (q : Quotes) (c : Call) (p : Pass) (o : Outcome) → Ok tt ≡ verdict (unless (eqb bears b.id) WrongPass) → id ≡ b.id → o ≡ call q c (book_state b) p → record { book = id; bears = bears; outcome = o } ≡ own_call b bears q c p
owned b id bears q c p o h e w =
    ap (λ (n : ℕ). record { book = n; bears = bears; outcome = o }) e
    ∙ ap (seen b bears) (passes (book_state b) q p (unless (eqb bears b.id) WrongPass) (call q c (book_state b) p) o h w)

-- what is found is found
some_of : {X : Type 0} (r : Option X) (why : Refusal) (x : X) → Ok x ≡ ok_or r why → r ≡ Some x
some_of None why x h = grind arith
some_of (Some y) why x h = let same : x ≡ y = cc in ap Some (sym same)

pub located : (user n : ℕ) (s : State) (r : Option Standing) (why : Refusal) (at : Standing) → Ok at ≡ ok_or r why → Located user n s r → Located user n s (Some at)
located user n s r why at h l = let P : Option Standing → Type 0 = λ x. Located user n s x in subst P (some_of r why at h) l

pub found_route : (n : ℕ) (s : State) (r : Option ℕ) (why : Refusal) (i : ℕ) → Ok i ≡ ok_or r why → Found (route_bears n) s.routes r → Found (route_bears n) s.routes (Some i)
found_route n s r why i h l = let P : Option ℕ → Type 0 = λ x. Found (route_bears n) s.routes x in subst P (some_of r why i h) l

-- the shares that come back, if any
abbrev pub comes_back : ℕ → Route → Option Order
comes_back k r = cond (eqb r.out k) None (Some (returned k r))

held_back : (b : Bool) (o : Order) → held_by (cond b None (Some o)) ≡ cond b ready (in_hand o)
held_back true o = refl
held_back false o = refl

late_back : (b : Bool) (o : Order) → late_list (option_map (off_hand Expired) (cond b None (Some o))) ≡ cond b [] (off_hand Expired o ∷ [])
late_back true o = refl
late_back false o = refl

came : (b : Bool) (left : Option Order) (o : Order) → is_some left ≡ not b → IfSome left (λ y. y ≡ o) → left ≡ cond b None (Some o)
came true None o v e = refl
came true (Some y) o v e = grind arith
came false None o v e = grind arith
came false (Some y) o v e = ap Some e

pub came_back : (k : ℕ) (r : Route) (left : Option Order) → is_some left ≡ not (eqb r.out k) → IfSome left (λ y. y ≡ returned k r) → left ≡ comes_back k r
came_back k r left v e = came (eqb r.out k) left (returned k r) v e

module _ (s : State) (q : Quotes) where
  -- a resting order found at a place
  module _ (user n : ℕ) (at : Standing) (f : Located user n s (Some at)) where
    pub cancel_done : (r : Report) (s' : State) → Ok tt ≡ verdict (unless (legal_user user) User) → ((x : Resting) → Removes Cancelled (at_place at.side at.place s x) s s' r) → answer (r ∷ []) s' q ready ≡ cancel_call user n s q
    cancel_done r s' l m =
        passes s q ready (unless (legal_user user) User) (cancel_at (find user n s) s q) _ l
        (ap (λ z. answer (z ∷ []) s' q ready) (m no_order).0 ∙ ap (λ z. answer (off_report Cancelled (total p.spot.line) p.side p.spot.line ∷ []) z q ready) (m no_order).1
        ∙ sym (ap (λ y. cancel_at y s q) (f.1 no_order)))
      where
        p : Place
        p = at_place at.side at.place s no_order

    module _ (k : ℕ) (x : Resting) (l : Ok tt ≡ verdict (unless (legal_user user) User)) (m : Ok tt ≡ verdict (unless (legal_size k) Size)) (ex : x ≡ get_or (on at.side s) at.place x) where
      abbrev pub p : Place
      p = at_place at.side at.place s x

      cut_checked : (o : Outcome) → o ≡ cut_at k (find user n s) s q → o ≡ cut_call k user n s q
      cut_checked o e = passes s q ready (cut_refusal k user) (cut_at k (find user n s) s q) o (m ∙ sym (first_passes (unless (legal_user user) User) (unless (legal_size k) Size) l)) e

      pub cut_large : (why : Refusal) → Err why ≡ verdict (unless (ltb k (total x)) CutTooLarge) → refuse why s q ready ≡ cut_call k user n s q
      cut_large why h =
          let w = failed (ltb k (total x)) CutTooLarge why h in
          ap (λ z. refuse z s q ready) w.1 ∙ cut_checked _ (sym (ap (λ y. cut_at k y s q) (f.1 x) ∙ cond-false _ _ _ (sym (ap (λ (z : Resting). ltb k (total z)) ex) ∙ w.0)))

      pub cut_done : (r : Report) (s' : State) → Ok tt ≡ verdict (unless (ltb k (total x)) CutTooLarge) → r ≡ off_report Trimmed k at.side x → s' ≡ changed_to (trimmed k p.spot.line) p s → answer (r ∷ []) s' q ready ≡ cut_call k user n s q
      cut_done r s' h er es =
          ap (λ z. answer (z ∷ []) s' q ready) (er ∙ ap (off_report Trimmed k at.side) ex) ∙ ap (λ z. answer (off_report Trimmed k at.side p.spot.line ∷ []) z q ready) es
          ∙ cut_checked _ (sym (ap (λ y. cut_at k y s q) (f.1 x) ∙ cond-true _ _ _ (sym (ap (λ (z : Resting). ltb k (total z)) ex) ∙ held (ltb k (total x)) CutTooLarge h)))

  module _ (t : Terms) (n : ℕ) (at : Standing) (f : Located t.user n s (Some at)) (l : Ok tt ≡ verdict (terms_refusal t)) where
    replace_checked : (o : Outcome) → o ≡ replace_at t (find t.user n s) s q → o ≡ replace_call t n s q
    replace_checked o e = passes s q ready (terms_refusal t) (replace_at t (find t.user n s) s q) o l e

    pub replace_used : (why : Refusal) → Err why ≡ verdict (numbers_refusal s) → refuse why s q ready ≡ replace_call t n s q
    replace_used why h = replace_checked _ (fails s q ready (numbers_refusal s) why _ h ∙ sym (ap (λ y. replace_at t y s q) (f.1 no_order)))

    pub replace_done : (x : Order × Report) (off : Report) (s₁ s₂ : State) → Ok tt ≡ verdict (numbers_refusal s) → ((y : Resting) → Removes Replaced (at_place at.side at.place s y) s s₁ off) → x.0 ≡ entered at.side t s₁.next → x.1 ≡ in_report (entered at.side t s₁.next) → s₂ ≡ numbered s₁ → answer (off ∷ x.1 ∷ []) s₂ q (in_hand x.0) ≡ replace_call t n s q
    replace_done x off s₁ s₂ h m e₀ e₁ e₂ =
        let p : Place = at_place at.side at.place s no_order in
        let r : Report = off_report Replaced (total p.spot.line) p.side p.spot.line in
        let c : answer (off ∷ x.1 ∷ []) s₂ q (in_hand x.0) ≡ admit (off ∷ []) p.side t s₁ q =
        ap (λ y. answer (off ∷ y ∷ []) s₂ q (in_hand x.0)) e₁ ∙ ap (λ y. answer (off ∷ in_report (entered p.side t s₁.next) ∷ []) s₂ q (in_hand y)) e₀ ∙ ap (λ y. answer (off ∷ in_report (entered p.side t s₁.next) ∷ []) y q (in_hand (entered p.side t s₁.next))) e₂
        in
        c ∙ ap (λ y. admit (y ∷ []) p.side t s₁ q) (m no_order).0 ∙ ap (λ y. admit (r ∷ []) p.side t y q) (m no_order).1
        ∙ replace_checked _ (passes s q ready (numbers_refusal s) _ _ h refl ∙ sym (ap (λ y. replace_at t y s q) (f.1 no_order)))

  -- a route found
  module _ (k n i : ℕ) (x : Route) (f : Found (route_bears n) s.routes (Some i)) (ex : x ≡ get_or s.routes i x) where
    abbrev r : Spot Route
    r = spot_at s.routes i x

    out_is : leb k r.line.out ≡ leb k x.out
    out_is = sym (ap (λ (z : Route). leb k z.out) ex)

    module _ (why : Refusal) (h : Err why ≡ verdict (unless (leb k x.out) ReplyTooLarge)) where
      pub reply_large : refuse why s q ready ≡ reply_call k n s q
      reply_large =
          let w = failed (leb k x.out) ReplyTooLarge why h in
          ap (λ z. refuse z s q ready) w.1 ∙ sym (ap (λ y. reply_at k y s q) (f.1 x) ∙ cond-false _ _ _ (out_is ∙ w.0))

      pub late_large : refuse why s q ended ≡ late_reply_call k n s q
      late_large =
          let w = failed (leb k x.out) ReplyTooLarge why h in
          ap (λ z. refuse z s q ended) w.1 ∙ sym (ap (λ y. late_reply_at k y s q) (f.1 x) ∙ cond-false _ _ _ (out_is ∙ w.0))

    module _ (h : Ok tt ≡ verdict (unless (leb k x.out) ReplyTooLarge)) (rep : Report) (s' : State) (er : rep ≡ back_report k x) (es : s' ≡ unrouted (spot_at s.routes i x) s) where
      reply_small : answer (back_report k r.line ∷ []) (unrouted r s) q (hand_back k r.line) ≡ reply_call k n s q
      reply_small = sym (ap (λ y. reply_at k y s q) (f.1 x) ∙ cond-true _ _ _ (out_is ∙ held (leb k x.out) ReplyTooLarge h))

      late_small : answer (late_reports k r.line) (unrouted r s) q ended ≡ late_reply_call k n s q
      late_small = sym (ap (λ y. late_reply_at k y s q) (f.1 x) ∙ cond-true _ _ _ (out_is ∙ held (leb k x.out) ReplyTooLarge h))

      module _ (left : Option Order) (el : left ≡ comes_back k x) where
        back_is : left ≡ comes_back k r.line
        back_is = el ∙ ap (comes_back k) ex

        pub reply_done : answer (rep ∷ []) s' q (held_by left) ≡ reply_call k n s q
        reply_done =
            ap (λ z. answer (z ∷ []) s' q (held_by left)) (er ∙ ap (back_report k) ex) ∙ ap (λ z. answer (back_report k r.line ∷ []) z q (held_by left)) es ∙ ap (λ z. answer (back_report k r.line ∷ []) (unrouted r s) q (held_by z)) back_is
            ∙ ap (answer (back_report k r.line ∷ []) (unrouted r s) q) (held_back (eqb r.line.out k) (returned k r.line)) ∙ reply_small

        pub late_done : answer (rep ∷ late_list (option_map (off_hand Expired) left)) s' q ended ≡ late_reply_call k n s q
        late_done =
            ap (λ z. answer (z ∷ late_list (option_map (off_hand Expired) left)) s' q ended) (er ∙ ap (back_report k) ex) ∙ ap (λ z. answer (back_report k r.line ∷ late_list (option_map (off_hand Expired) left)) z q ended) es
            ∙ ap (λ z. answer (back_report k r.line ∷ late_list (option_map (off_hand Expired) z)) (unrouted r s) q ended) back_is ∙ ap (λ l. answer (back_report k r.line ∷ l) (unrouted r s) q ended) (late_back (eqb r.line.out k) (returned k r.line)) ∙ late_small

-- the first order of a side expires

expired : (xs ys : List Resting) (d : Side) (s s' : State) (q : Quotes) (r : Report) → Some d ≡ first_of_two s.buys s.sells → Removes Expired (at_place d 0 s no_order) s s' r → s.buys ≡ xs → s.sells ≡ ys → answer (r ∷ []) s' q ended ≡ expire_from xs ys s q
expired [] [] d s s' q r e m eb ey =
    let z : Some d ≡ None = e ∙ ap (λ l. first_of_two l s.sells) eb ∙ ap (first_of_two []) ey in grind arith
expired [] (y ∷ ys) d s s' q r e m eb ey =
    let z : Some d ≡ Some Sell = e ∙ ap (λ l. first_of_two l s.sells) eb ∙ ap (first_of_two []) ey in
    let ed : d ≡ Sell = cc in
    let es : s' ≡ put Sell ys s = m.1 ∙ ap (λ w. taken_out (at_place w 0 s no_order) s) ed ∙ ap (λ l. put Sell (take 0 l ++ drop (0 + 1) l) s) ey in
    let er : r ≡ off_report Expired (total y) Sell y = m.0 ∙ ap (λ w. off_report Expired (total (get_or (on w s) 0 no_order)) w (get_or (on w s) 0 no_order)) ed ∙ ap (λ l. off_report Expired (total (get_or l 0 no_order)) Sell (get_or l 0 no_order)) ey in
    ap (λ w. answer (w ∷ []) s' q ended) er ∙ ap (λ w. answer (off_report Expired (total y) Sell y ∷ []) w q ended) es
expired (y ∷ xs) ys d s s' q r e m eb ey =
    let z : Some d ≡ Some Buy = e ∙ ap (λ l. first_of_two l s.sells) eb in
    let ed : d ≡ Buy = cc in
    let es : s' ≡ put Buy xs s = m.1 ∙ ap (λ w. taken_out (at_place w 0 s no_order) s) ed ∙ ap (λ l. put Buy (take 0 l ++ drop (0 + 1) l) s) eb in
    let er : r ≡ off_report Expired (total y) Buy y = m.0 ∙ ap (λ w. off_report Expired (total (get_or (on w s) 0 no_order)) w (get_or (on w s) 0 no_order)) ed ∙ ap (λ l. off_report Expired (total (get_or l 0 no_order)) Buy (get_or l 0 no_order)) eb in
    ap (λ w. answer (w ∷ []) s' q ended) er ∙ ap (λ w. answer (off_report Expired (total y) Buy y ∷ []) w q ended) es

pub expire_done : (d : Side) (side : Option Side) (why : Refusal) (s s' : State) (q : Quotes) (r : Report) → Ok d ≡ ok_or side why → side ≡ oldest_side s → ((x : Resting) → Removes Expired (at_place d 0 s x) s s' r) → answer (r ∷ []) s' q ended ≡ expire_call s q
expire_done d side why s s' q r h e m = expired s.buys s.sells d s s' q r (sym (some_of side why d h) ∙ e) (m no_order) refl refl

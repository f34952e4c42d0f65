-- Every call does one of the things that can happen.
use Rattle.std.proofs.Common.{◌≡◌, ℕ, ◌≤◌, Bool, true, false, cond, eqb, ltb, leb, List, [], ◌∷◌, Some, None, Option, refl, arith}
use Rattle.std.proofs.lemmas.Bool.Decides.{nat_tests}
use Rattle.std.proofs.lemmas.Bool.{true≢false, ltb-true, leb-true}
use Rattle.ranking.specs.Place.{Spot, locate}
use Rattle.market.specs.declared.types.Side.TheVariants.{Buy, Sell}
use Rattle.market.specs.declared.types.Resting.{Resting}
use Rattle.market.specs.declared.types.Route.{Route}
use Rattle.market.specs.declared.types.Order.{Order}
use Rattle.market.specs.declared.types.Terms.{Terms}
use Rattle.market.specs.declared.types.Reason.TheVariants.{Expired, Unfilled, WouldLock, NoRoute, SideFull}
use Rattle.market.specs.declared.types.Refusal.{Refusal}
use Rattle.market.specs.declared.types.Refusal.TheVariants.{WrongPass, NotResting, CutTooLarge, NotOut, ReplyTooLarge, NothingResting, NoPass}
use Rattle.market.specs.declared.types.Move.{Move}
use Rattle.market.specs.declared.types.Call.{Call}
use Rattle.market.specs.declared.types.Call.TheVariants.{Enter, Work, Cut, Cancel, Replace, Reply, Close, Expire}
use Rattle.market.specs.States.{State, Quotes, route_bears, fits}
use Rattle.market.specs.Orders.{total, returned}
use Rattle.market.specs.Reports.{back_report, off_hand}
use Rattle.market.specs.Steps.{act}
use Rattle.market.specs.Calls.{Pass, ready, ended, in_hand, Outcome, answer, unless, or_else, checked, terms_refusal, numbers_refusal, enter_refusal, found_refusal, Place, find, cancel_at, cancel_refusal, cut_at, cut_refusal, replace_at, unrouted, reply_at, late_reply_at, expire_from, stepped, call}
use Rattle.laws.specs.Refusals.{cut_found, reply_found, expire_found, first_failed}
use Rattle.laws.specs.Happens.{Happens, refusal, trading, sending, leaving, resting, entering, cancelling, cutting, replacing, filling, returning, lapsing, closing, expiring, NothingElse}
use Rattle.soundness.specs.Rules.{Rule, trading as by_trade, sending as by_send, unroutable, unfilled, locking, crowded, resting as by_rest}
use Rattle.soundness.proofs.Moves.{rule}
use Rattle.soundness.proofs.Finds.{Located, located, FoundIn, found, some_left}

-- the first of two checks that fails
first_fails : (o o' : Option Refusal) (why : Refusal) → o ≡ Some why → or_else o o' ≡ Some why
first_fails (Some x) o why e = e
first_fails None o why e = cc

second_fails : (o o' : Option Refusal) (why : Refusal) → o ≡ None → o' ≡ Some why → or_else o o' ≡ Some why
second_fails (Some x) o why e f = cc
second_fails None o why e f = f

-- a check that fails
fails : (t : Bool) (why : Refusal) → t ≡ false → unless t why ≡ Some why
fails true why e = absurd (true≢false e)
fails false why e = refl

module _ (s : State) (q : Quotes) where
  branch : {c : Call} {p : Pass} (t : Bool) {x y : Outcome} → (t ≡ true → Happens s q c p x) → (t ≡ false → Happens s q c p y) → Happens s q c p (cond t x y)
  branch true f g = f refl
  branch false f g = g refl

  -- a check that fails refuses
  checks : {c : Call} {p : Pass} (o : Option Refusal) {x : Outcome} → ((why : Refusal) → o ≡ Some why → first_failed c s p ≡ Some why) → (o ≡ None → Happens s q c p x) → Happens s q c p (checked o s q p x)
  checks (Some why) g f = refusal why (g why refl)
  checks None g f = f refl

  worked : (o : Order) → fits o.number s ≡ true → {m : Move} → Rule s q o m → Happens s q Work (in_hand o) (stepped (act m s q o))
  worked o f (by_trade x e t) = trading x f e (by_trade x e t)
  worked o f (by_send x a e t u) = sending x f (by_send x a e t u)
  worked o f (unroutable x a e t u) = leaving NoRoute f (unroutable x a e t u)
  worked o f (unfilled a b t) = leaving Unfilled f (unfilled a b t)
  worked o f (locking a b t u) = leaving WouldLock f (locking a b t u)
  worked o f (crowded a b t u v) = leaving SideFull f (crowded a b t u v)
  worked o f (by_rest a b t u v) = resting f (by_rest a b t u v)

  cancels : (user n : ℕ) (o : Option Place) → FoundIn user n s o → ((why : Refusal) → found_refusal o ≡ Some why → first_failed (Cancel user n) s ready ≡ Some why) → Happens s q (Cancel user n) ready (cancel_at o s q)
  cancels user n None h g = refusal NotResting (g NotResting refl)
  cancels user n (Some p) h g = cancelling p h.0 h.1

  cuts : (k user n : ℕ) (o : Option Place) → FoundIn user n s o → ((why : Refusal) → cut_found k o ≡ Some why → first_failed (Cut k user n) s ready ≡ Some why) → Happens s q (Cut k user n) ready (cut_at k o s q)
  cuts k user n None h g = refusal NotResting (g NotResting refl)
  cuts k user n (Some p) h g =
      branch (ltb k (total p.spot.line)) (λ t. cutting p h.0 h.1 (ltb-true k (total p.spot.line) t)) (λ t. refusal CutTooLarge (g CutTooLarge (fails (ltb k (total p.spot.line)) CutTooLarge t)))

  replaces : (t : Terms) (n : ℕ) → terms_refusal t ≡ None → (o : Option Place) → FoundIn t.user n s o → ((why : Refusal) → or_else (found_refusal o) (numbers_refusal s) ≡ Some why → first_failed (Replace t n) s ready ≡ Some why) → Happens s q (Replace t n) ready (replace_at t o s q)
  replaces t n l None h g = refusal NotResting (g NotResting refl)
  replaces t n l (Some p) h g = checks (numbers_refusal s) g (λ e. replacing p h.0 h.1 l (some_left s e))

  replies : (k n : ℕ) (o : Option (Spot Route)) → Located (route_bears n) s.routes o → ((why : Refusal) → reply_found k o ≡ Some why → first_failed (Reply k n) s ready ≡ Some why) → Happens s q (Reply k n) ready (reply_at k o s q)
  replies k n None h g = refusal NotOut (g NotOut refl)
  replies k n (Some r) h g =
      branch (leb k r.line.out) (λ t. back (eqb r.line.out k) refl (leb-true k r.line.out t)) (λ t. refusal ReplyTooLarge (g ReplyTooLarge (fails (leb k r.line.out) ReplyTooLarge t)))
    where
      back : (t : Bool) → eqb r.line.out k ≡ t → k ≤ r.line.out → Happens s q (Reply k n) ready (answer (back_report k r.line ∷ []) (unrouted r s) q (cond t ready (in_hand (returned k r.line))))
      back true e l = filling ready r refl h.0 h.1 (grind (arith, nat_tests))
      back false e l = returning r h.0 h.1 (grind (arith, nat_tests))

  late_replies : (k n : ℕ) (o : Option (Spot Route)) → Located (route_bears n) s.routes o → ((why : Refusal) → reply_found k o ≡ Some why → first_failed (Reply k n) s ended ≡ Some why) → Happens s q (Reply k n) ended (late_reply_at k o s q)
  late_replies k n None h g = refusal NotOut (g NotOut refl)
  late_replies k n (Some r) h g =
      branch (leb k r.line.out) (λ t. back (eqb r.line.out k) refl (leb-true k r.line.out t)) (λ t. refusal ReplyTooLarge (g ReplyTooLarge (fails (leb k r.line.out) ReplyTooLarge t)))
    where
      back : (t : Bool) → eqb r.line.out k ≡ t → k ≤ r.line.out → Happens s q (Reply k n) ended (answer (back_report k r.line ∷ cond t [] (off_hand Expired (returned k r.line) ∷ [])) (unrouted r s) q ended)
      back true e l = filling ended r refl h.0 h.1 (grind (arith, nat_tests))
      back false e l = lapsing r h.0 h.1 (grind (arith, nat_tests))

  expires : (xs ys : List Resting) → s.buys ≡ xs → s.sells ≡ ys → ((why : Refusal) → expire_found xs ys ≡ Some why → first_failed Expire s ended ≡ Some why) → Happens s q Expire ended (expire_from xs ys s q)
  expires [] [] e f g = refusal NothingResting (g NothingResting refl)
  expires [] (y ∷ ys) e f g = expiring Sell y ys f (λ _. e)
  expires (x ∷ xs) ys e f g = expiring Buy x xs e (λ z. let n : ◌≡◌ {A = ℕ} 0 1 = cc in absurd (omega arith))

  happens : (c : Call) (p : Pass) → Happens s q c p (call q c s p)
  happens (Enter d t) ready = checks (enter_refusal t s) (λ _ z. z) (λ e. entering e)
  happens (Cut k user n) ready = checks (cut_refusal k user) (first_fails (cut_refusal k user) _) (λ e. cuts k user n (find user n s) (found user n s) (λ why. second_fails (cut_refusal k user) _ why e))
  happens (Cancel user n) ready = checks (cancel_refusal user) (first_fails (cancel_refusal user) _) (λ e. cancels user n (find user n s) (found user n s) (λ why. second_fails (cancel_refusal user) _ why e))
  happens (Replace t n) ready = checks (terms_refusal t) (first_fails (terms_refusal t) _) (λ e. replaces t n e (find t.user n s) (found t.user n s) (λ why. second_fails (terms_refusal t) _ why e))
  happens (Reply k n) ready = replies k n (locate (route_bears n) s.routes) (located (route_bears n) s.routes) (λ _ z. z)
  happens Close ready = closing
  happens Work ready = refusal NoPass refl
  happens Expire ready = refusal NoPass refl
  happens Work (in_hand o) = branch (fits o.number s) (λ t. worked o t (rule s q o)) (λ t. refusal WrongPass (fails (fits o.number s) WrongPass t))
  happens (Enter d t) (in_hand o) = refusal NoPass refl
  happens (Cut k user n) (in_hand o) = refusal NoPass refl
  happens (Cancel user n) (in_hand o) = refusal NoPass refl
  happens (Replace t n) (in_hand o) = refusal NoPass refl
  happens (Reply k n) (in_hand o) = refusal NoPass refl
  happens Close (in_hand o) = refusal NoPass refl
  happens Expire (in_hand o) = refusal NoPass refl
  happens (Reply k n) ended = late_replies k n (locate (route_bears n) s.routes) (located (route_bears n) s.routes) (λ _ z. z)
  happens Expire ended = expires s.buys s.sells refl refl (λ _ z. z)
  happens (Enter d t) ended = refusal NoPass refl
  happens (Cut k user n) ended = refusal NoPass refl
  happens (Cancel user n) ended = refusal NoPass refl
  happens (Replace t n) ended = refusal NoPass refl
  happens Work ended = refusal NoPass refl
  happens Close ended = refusal NoPass refl

pub nothing_else : NothingElse
nothing_else q c s p = happens s q c p

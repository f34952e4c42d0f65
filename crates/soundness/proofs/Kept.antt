-- Every call keeps a sound book sound, and gives back a pass that may be borne.
use Rattle.std.proofs.Common.{◌≡◌, ℕ, ◌<◌, ◌≤◌, min, true, eqb, ltb, leb, List, [], ◌∷◌, Some, None, Option, sym, refl, arith}
use Rattle.std.proofs.lemmas.Bool.Decides.{nat_tests}
use Rattle.std.proofs.lemmas.Bool.{cond_both, ltb-true, leb-true}
use Rattle.ranking.specs.Place.{Spot, locate}
use Rattle.market.specs.declared.types.Side.{Side}
use Rattle.market.specs.declared.types.Side.TheVariants.{Buy, Sell}
use Rattle.market.specs.declared.types.Resting.{Resting}
use Rattle.market.specs.declared.types.Route.{Route}
use Rattle.market.specs.declared.types.Quotation.{Quotation}
use Rattle.market.specs.declared.types.Order.{Order}
use Rattle.market.specs.declared.types.Terms.{Terms}
use Rattle.market.specs.declared.types.Refusal.{Refusal}
use Rattle.market.specs.declared.types.Move.{Move}
use Rattle.market.specs.declared.types.Move.TheVariants.{Trade, Send, TakeOff, Rest}
use Rattle.market.specs.declared.types.Call.{Call}
use Rattle.market.specs.declared.types.Call.TheVariants.{Enter, Work, Cut, Cancel, Replace, Reply, Close, Expire}
use Rattle.market.specs.Sides.{across_of}
use Rattle.market.specs.States.{State, Quotes, quoted, fits, route_bears}
use Rattle.market.specs.Quotes.{quotation_legal, Showable, Shown}
use Rattle.market.specs.Orders.{total, rested}
use Rattle.market.specs.Steps.{move_of, act, step}
use Rattle.market.specs.Calls.{Pass, ready, ended, in_hand, Outcome, checked, terms_refusal, numbers_refusal, enter_refusal, cancel_refusal, cut_refusal, Place, find, taken_out, cancel_at, cut_at, replace_at, unrouted, reply_at, late_reply_at, expire_from, held_by, work_call, when_ready, when_in_hand, when_ended}
use Rattle.market.specs.Sound.{Sound, able}
use Rattle.soundness.specs.Kept.{Bearable, SoundKept}
use Rattle.soundness.proofs.Lists.{every_first}
use Rattle.soundness.proofs.Moves.{send_when, rest_when}
use Rattle.soundness.proofs.Keeps.{sound_traded, sound_sent, sound_placed, sound_out, sound_trimmed, sound_unrouted, sound_numbered, restable, fits_next}
use Rattle.soundness.proofs.Hands.{able_after, fits_after, able_entered, able_returned, fits_returned}
use Rattle.soundness.proofs.Finds.{Located, located, FoundIn, found, some_left, first_passes, second_passes}

pub side_shown : (d : Side) (q : Quotes) → Shown q → Showable d (quoted d q)
side_shown Buy q w = w.0
side_shown Sell q w = w.1

-- what is sent to a quotation that a board may show is some shares
pub some_sent : (o : Order) (x : Quotation) → able o ≡ true → quotation_legal x ≡ true → 0 < min o.shares x.size
some_sent o x a l = grind (arith, nat_tests)

-- what a call leaves
data Kept (x : Outcome) : Type 0 where
  both : Sound x.state → Bearable x.pass x.state → Kept x

parts : {x : Outcome} → Kept x → Sound x.state × Bearable x.pass x.state
parts (both h b) = (h, b)

module _ (q : Quotes) (s : State) (w : Shown q) (h : Sound s) where
  -- a check that fails leaves all as it was
  checks : (p : Pass) → Bearable p s → (o : Option Refusal) {x : Outcome} → (o ≡ None → Kept x) → Kept (checked o s q p x)
  checks p b (Some why) f = both h b
  checks p b None f = f refl

  module _ (o : Order) (a : able o ≡ true) (f : fits o.number s ≡ true) where
    acted : (m : Move) → move_of s q o ≡ m → Sound (act m s q o).state
    acted (Trade n price shown) e = sound_traded (across_of o.side) (min o.shares shown) s h
    acted (Send x) e =
        let m = send_when s q o x e in
        let l = every_first quotation_legal x (quoted (across_of o.side) q) m.0 (side_shown (across_of o.side) q w).legal in
        sound_sent o x (min o.shares x.size) s a m.3 (some_sent o x a l) (omega arith) h
    acted (TakeOff why) e = h
    acted Rest e =
        let r = rest_when s q o (side_shown (across_of o.side) q w).ranked e in
        sound_placed o.side (rested o) s (restable o (rested o) s refl a f r.0 h) h

    left : (l : Option Order) → l ≡ (step s q o).left → Bearable (held_by l) (step s q o).state
    left None e = tt
    left (Some o') e = (able_after s q o o' a e, fits_after s q o o' f e)

    works : Kept (work_call o s q)
    works = cond_both (fits o.number s) _ _ Kept (λ _. both (acted (move_of s q o) refl) (left (step s q o).left refl)) (λ _. both h (a, f))

  enters : (d : Side) (t : Terms) → Kept (when_ready (Enter d t) s q)
  enters d t =
      checks ready tt (enter_refusal t s)
      (λ e. let ne = some_left s (second_passes (terms_refusal t) (numbers_refusal s) e) in
      both (sound_numbered s ne h) (able_entered d t s.next (sym (first_passes (terms_refusal t) (numbers_refusal s) e)), fits_next s ne h))

  cancels : (user n : ℕ) (o : Option Place) → FoundIn user n s o → Kept (cancel_at o s q)
  cancels user n None k = both h tt
  cancels user n (Some p) k = both (sound_out p.side p.spot s k.0 h) tt

  cuts : (k user n : ℕ) (o : Option Place) → FoundIn user n s o → Kept (cut_at k o s q)
  cuts k user n None z = both h tt
  cuts k user n (Some p) z =
      cond_both (ltb k (total p.spot.line)) _ _ Kept (λ t. both (sound_trimmed p.side k p.spot s z.0 (ltb-true k (total p.spot.line) t) h) tt) (λ _. both h tt)

  replaces : (t : Terms) (n : ℕ) → terms_refusal t ≡ None → (o : Option Place) → FoundIn t.user n s o → Kept (replace_at t o s q)
  replaces t n l None z = both h tt
  replaces t n l (Some p) z =
      checks ready tt (numbers_refusal s)
      (λ e. let ne = some_left s e in
      let m = sound_out p.side p.spot s z.0 h in
      both (sound_numbered (taken_out p s) ne m) (able_entered p.side t s.next (sym l), fits_next (taken_out p s) ne m))

  replies : (k n : ℕ) (o : Option (Spot Route)) → Located (route_bears n) s.routes o → Kept (reply_at k o s q)
  replies k n None z = both h tt
  replies k n (Some r) z =
      cond_both (leb k r.line.out) _ _ Kept
      (λ t. both (sound_unrouted r s z.0 h)
      (cond_both (eqb r.line.out k) _ _ (λ p. Bearable p (unrouted r s)) (λ _. tt)
      (λ u. (able_returned r s z.0 h k (let l : k ≤ r.line.out = leb-true k r.line.out t in grind (arith, nat_tests)), fits_returned r s z.0 h))))
      (λ _. both h tt)

  late_replies : (k n : ℕ) (o : Option (Spot Route)) → Located (route_bears n) s.routes o → Kept (late_reply_at k o s q)
  late_replies k n None z = both h tt
  late_replies k n (Some r) z = cond_both (leb k r.line.out) _ _ Kept (λ _. both (sound_unrouted r s z.0 h) tt) (λ _. both h tt)

  expires : (xs ys : List Resting) → s.buys ≡ xs → s.sells ≡ ys → Kept (expire_from xs ys s q)
  expires [] [] e f = both h tt
  expires [] (y ∷ ys) e f = both (sound_out Sell (record { front = []; line = y; rest = ys }) s f h) tt
  expires (x ∷ xs) ys e f = both (sound_out Buy (record { front = []; line = x; rest = xs }) s e h) tt

  kept_ready : (c : Call) → Kept (when_ready c s q)
  kept_ready (Enter d t) = enters d t
  kept_ready (Cut k user n) = checks ready tt (cut_refusal k user) (λ _. cuts k user n (find user n s) (found user n s))
  kept_ready (Cancel user n) = checks ready tt (cancel_refusal user) (λ _. cancels user n (find user n s) (found user n s))
  kept_ready (Replace t n) = checks ready tt (terms_refusal t) (λ e. replaces t n e (find t.user n s) (found t.user n s))
  kept_ready (Reply k n) = replies k n (locate (route_bears n) s.routes) (located (route_bears n) s.routes)
  kept_ready Work = both h tt
  kept_ready Close = both h tt
  kept_ready Expire = both h tt

  kept_in_hand : (o : Order) → Bearable (in_hand o) s → (c : Call) → Kept (when_in_hand o c s q)
  kept_in_hand o b Work = works o b.0 b.1
  kept_in_hand o b (Enter d t) = both h b
  kept_in_hand o b (Cut k user n) = both h b
  kept_in_hand o b (Cancel user n) = both h b
  kept_in_hand o b (Replace t n) = both h b
  kept_in_hand o b (Reply k n) = both h b
  kept_in_hand o b Close = both h b
  kept_in_hand o b Expire = both h b

  kept_ended : (c : Call) → Kept (when_ended c s q)
  kept_ended (Reply k n) = late_replies k n (locate (route_bears n) s.routes) (located (route_bears n) s.routes)
  kept_ended Expire = expires s.buys s.sells refl refl
  kept_ended (Enter d t) = both h tt
  kept_ended (Cut k user n) = both h tt
  kept_ended (Cancel user n) = both h tt
  kept_ended (Replace t n) = both h tt
  kept_ended Work = both h tt
  kept_ended Close = both h tt

pub sound_kept_lem : SoundKept
sound_kept_lem q c s ready w h b = parts (kept_ready q s w h c)
sound_kept_lem q c s ended w h b = parts (kept_ended q s w h c)
sound_kept_lem q c s (in_hand o) w h b = parts (kept_in_hand q s w h o b c)

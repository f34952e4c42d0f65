-- What can happen to a book: one case for each thing, with what made it happen.
use Rattle.std.specs.Prelude.{◌≡◌, ℕ, ◌<◌, Bool, true, false, ◌≢◌, List, [], ◌∷◌, Some, None}
use Rattle.ranking.specs.Place.{Spot, head_of}
use Rattle.market.specs.declared.types.Side.{Side}
use Rattle.market.specs.declared.types.Side.TheVariants.{Sell}
use Rattle.market.specs.declared.types.Resting.{Resting}
use Rattle.market.specs.declared.types.Route.{Route}
use Rattle.market.specs.declared.types.Quotation.{Quotation}
use Rattle.market.specs.declared.types.Order.{Order}
use Rattle.market.specs.declared.types.Terms.{Terms}
use Rattle.market.specs.declared.types.Reason.{Reason}
use Rattle.market.specs.declared.types.Reason.TheVariants.{Cancelled, Cut as Trimmed, Replaced, Expired}
use Rattle.market.specs.declared.types.Refusal.{Refusal}
use Rattle.market.specs.declared.types.Move.TheVariants.{Trade, Send, TakeOff, Rest}
use Rattle.market.specs.declared.types.Call.{Call}
use Rattle.market.specs.declared.types.Call.TheVariants.{Enter, Work, Cut, Cancel, Replace, Reply, Close, Expire}
use Rattle.market.specs.Sides.{across_of}
use Rattle.market.specs.States.{State, Quotes, on, put, owned, route_bears, fits}
use Rattle.market.specs.Orders.{total, trimmed, returned}
use Rattle.market.specs.Reports.{off_report, off_hand, back_report}
use Rattle.market.specs.Steps.{act}
use Rattle.market.specs.Calls.{Pass, ready, ended, in_hand, Outcome, refuse, answer, terms_refusal, enter_refusal, admit, Place, taken_out, changed_to, unrouted, stepped, call}
use Rattle.soundness.specs.Rules.{Rule}
use Rattle.soundness.specs.Stands.{Among, Stands}
use Rattle.laws.specs.Refusals.{first_failed}

-- nothing is in hand: Ready, or Ended
abbrev pub empty_handed : Pass → Bool
empty_handed ready = true
empty_handed ended = true
empty_handed (in_hand o) = false

pub data Happens (s : State) (q : Quotes) : Call → Pass → Outcome → Type 0 where
  -- a check fails: the refusal alters nothing, and bears the number of the first check that fails
  refusal : {c : Call} {p : Pass} (why : Refusal) → first_failed c s p ≡ Some why → Happens s q c p (refuse why s q p)
  -- by rule 1 the order in hand trades with the first resting order across
  trading : {o : Order} (x : Resting) → fits o.number s ≡ true → Some x ≡ head_of (on (across_of o.side) s) → Rule s q o (Trade x.number x.price x.shown) → Happens s q Work (in_hand o) (stepped (act (Trade x.number x.price x.shown) s q o))
  -- by rule 2 it is sent to the first quotation across, which is lessened by as much
  sending : {o : Order} (x : Quotation) → fits o.number s ≡ true → Rule s q o (Send x) → Happens s q Work (in_hand o) (stepped (act (Send x) s q o))
  -- by rules 2 to 5 its remainder is taken off, reason 5 to 8
  leaving : {o : Order} (why : Reason) → fits o.number s ≡ true → Rule s q o (TakeOff why) → Happens s q Work (in_hand o) (stepped (act (TakeOff why) s q o))
  -- by rule 6 it comes to rest, under a number that stands nowhere yet
  resting : {o : Order} → fits o.number s ≡ true → Rule s q o Rest → Happens s q Work (in_hand o) (stepped (act Rest s q o))
  -- legal terms are entered under the next number
  entering : {d : Side} {t : Terms} → enter_refusal t s ≡ None → Happens s q (Enter d t) ready (admit [] d t s q)
  -- the resting order of this user and number is taken off
  cancelling : {user n : ℕ} (p : Place) → Stands s p → owned user n p.spot.line ≡ true → Happens s q (Cancel user n) ready (answer (off_report Cancelled (total p.spot.line) p.side p.spot.line ∷ []) (taken_out p s) q ready)
  -- it loses some of its shares, where it stands
  cutting : {k user n : ℕ} (p : Place) → Stands s p → owned user n p.spot.line ≡ true → k < total p.spot.line → Happens s q (Cut k user n) ready (answer (off_report Trimmed k p.side p.spot.line ∷ []) (changed_to (trimmed k p.spot.line) p s) q ready)
  -- it is taken off, and legal terms of the same user are entered on its side
  replacing : {t : Terms} {n : ℕ} (p : Place) → Stands s p → owned t.user n p.spot.line ≡ true → terms_refusal t ≡ None → s.next ≢ 0 → Happens s q (Replace t n) ready (admit (off_report Replaced (total p.spot.line) p.side p.spot.line ∷ []) p.side t (taken_out p s) q)
  -- the route of this number comes back filled whole, while nothing is in hand
  filling : {k n : ℕ} (p : Pass) (r : Spot Route) → empty_handed p ≡ true → Among s.routes r → route_bears n r.line ≡ true → k ≡ r.line.out → Happens s q (Reply k n) p (answer (back_report k r.line ∷ []) (unrouted r s) q p)
  -- its unfilled shares return in hand
  returning : {k n : ℕ} (r : Spot Route) → Among s.routes r → route_bears n r.line ≡ true → k < r.line.out → Happens s q (Reply k n) ready (answer (back_report k r.line ∷ []) (unrouted r s) q (in_hand (returned k r.line)))
  -- or, after the close, are taken off
  lapsing : {k n : ℕ} (r : Spot Route) → Among s.routes r → route_bears n r.line ≡ true → k < r.line.out → Happens s q (Reply k n) ended (answer (back_report k r.line ∷ off_hand Expired (returned k r.line) ∷ []) (unrouted r s) q ended)
  -- the day ends
  closing : Happens s q Close ready (answer [] s q ended)
  -- after the close the first buy is taken off, or, where no buy rests, the first sell
  expiring : (d : Side) (x : Resting) (xs : List Resting) → on d s ≡ x ∷ xs → (d ≡ Sell → s.buys ≡ []) → Happens s q Expire ended (answer (off_report Expired (total x) d x ∷ []) (put d xs s) q ended)

-- nothing else happens
abbrev pub NothingElse : Type 0
NothingElse = (q : Quotes) (c : Call) (s : State) (p : Pass) → Happens s q c p (call q c s p)

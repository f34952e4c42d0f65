-- Steps of an order worked to its end.
use Rattle.std.proofs.Common.{◌≡◌, true, ◌∷◌, ◌++◌, Some, None, Option, sym, ap, ◌∙◌, subst}
use Rattle.std.proofs.lemmas.Bool.{cond-true}
use Rattle.market.specs.declared.types.Order.{Order}
use Rattle.market.specs.declared.types.Call.TheVariants.{Work}
use Rattle.market.specs.States.{fits}
use Rattle.market.specs.Steps.{step}
use Rattle.market.specs.Calls.{in_hand, Outcome, held_by, stepped}
use Rattle.table_board.specs.Quoting.{lists_of}
use Rattle.book.specs.declared.passes.InHand.{InHand}
use Rattle.book.specs.Outcomes.{book_state, order_of}
use Rattle.replay.specs.Days.{tell, turn, Finishes, steps}
use Rattle.replay.specs.Desks.{Held, held_between, held_working, MayWork, Follows}
use Rattle.replay.specs.declared.desk.Desk.{Desk}
use Rattle.replay.specs.declared.desk.Stage.{Stage}
use Rattle.replay.proofs.Notes.{noted_on}
use Rattle.replay.proofs.Calls.{Made, outcome_at, may_work, nothing_left}

-- the first step of an order in hand, and what finishes it after that step
module _ {d : Desk} (h : InHand) {d₁ : Desk} {p₁ : Held} (fit : fits (order_of h).number (book_state d.book) ≡ true) (m : Made Work d (held_working h) d₁ p₁) where
  -- it is not refused, since the number fits
  stepped_is : outcome_at m.says d₁ p₁ ≡ stepped (step (book_state d.book) (lists_of d.board) (order_of h))
  stepped_is = m.outcome ∙ cond-true (fits (order_of h).number (book_state d.book)) _ _ fit

  step_first : (d' : Desk) (p' : Held) → Follows Finishes d₁ p₁ d' p' → Follows Finishes d (held_working h) d' p'
  step_first d' p' f = record {
    turns = turn (lists_of d.board) Work ∷ f.turns;
    told = tell m.says ++ f.told;
    by_rule = subst P (sym stepped_is) (λ g. steps (order_of h) fit g) f.by_rule;
    noted = noted_on (tell m.says) f.told d.log d₁.log d'.log m.noted f.noted;
    pass = f.pass ∙ m.pass;
    id = f.id ∙ m.id;
  }
    where
      P : Outcome → Type 0
      P o = Finishes o.state o.quotes o.pass f.turns f.told (book_state d'.book) (lists_of d'.board) p'.pass → Finishes (book_state d.book) (lists_of d.board) (in_hand (order_of h)) (turn (lists_of d.board) Work ∷ f.turns) (tell o.says ++ f.told) (book_state d'.book) (lists_of d'.board) p'.pass

-- whatever finishes the order from here finishes it from the start
pub record Onward (d₀ : Desk) (h₀ : InHand) (d : Desk) (h : InHand) : Type 0 where
  pub on : (d' : Desk) (p' : Held) → Follows Finishes d (held_working h) d' p' → Follows Finishes d₀ (held_working h₀) d' p'
  pub may : MayWork d h

pub onward_start : (d : Desk) (h : InHand) → MayWork d h → Onward d h d h
onward_start d h may = record { on = λ d' p' f. f; may = may }

-- the order is done
pub done : {d₀ : Desk} (h₀ : InHand) {d : Desk} (h : InHand) {d' : Desk} (p' : Stage) → Onward d₀ h₀ d h → Made Work d (held_working h) d' (held_between p') → Follows Finishes d₀ (held_working h₀) d' (held_between p')
done h₀ h {d' = d'} p' w m = w.on d' (held_between p') (step_first h w.may.fit m d' (held_between p') (nothing_left d' p'))

-- shares are left in hand
module _ {d₀ : Desk} (h₀ : InHand) {d : Desk} (h : InHand) {d' : Desk} (h' : InHand) (w : Onward d₀ h₀ d h) (m : Made Work d (held_working h) d' (held_working h')) where
  pub onward : Onward d₀ h₀ d' h'
  onward = record {
    on = λ e p' f. w.on e p' (step_first h w.may.fit m e p' f);
    may = may_work Work d (held_working h) h' m w.may.own (h.fit, w.may.fit);
  }

  -- what is left in hand is what the step left
  pub left_is : Some (order_of h') ≡ (step (book_state d.book) (lists_of d.board) (order_of h)).left
  left_is = held (step (book_state d.book) (lists_of d.board) (order_of h)).left (ap (λ o. o.pass) (stepped_is h w.may.fit m))
    where
      held : (l : Option Order) → in_hand (order_of h') ≡ held_by l → Some (order_of h') ≡ l
      held None e = cc
      held (Some x) e = let same : order_of h' ≡ x = cc in ap Some same

-- The rules of a step, in the trade's words: which rule a move is made by, and what holds where it applies.
use Rattle.std.specs.Prelude.{◌≡◌, Bool, true, false, not, ◌&&◌, ◌||◌, Some}
use Rattle.ranking.specs.Place.{head_of}
use Rattle.market.specs.declared.types.Resting.{Resting}
use Rattle.market.specs.declared.types.Quotation.{Quotation}
use Rattle.market.specs.declared.types.Order.{Order}
use Rattle.market.specs.declared.types.Reason.TheVariants.{Unfilled, WouldLock, NoRoute, SideFull}
use Rattle.market.specs.declared.types.Move.{Move}
use Rattle.market.specs.declared.types.Move.TheVariants.{Trade, Send, TakeOff, Rest}
use Rattle.market.specs.Sides.{across_of, within}
use Rattle.market.specs.Legal.{goes_out, trades_past, never_rests, never_locks}
use Rattle.market.specs.States.{State, Quotes, on, quoted}
use Rattle.market.specs.Steps.{any_better, resting_near, quotation_near, no_route, side_full, move_of}

-- the order trades with this resting order, if it is the first across
abbrev pub trades_with : Quotes → Order → Resting → Bool
trades_with q o x =
    within o.side o.limit x.price && (trades_past o.kind || not (any_better (across_of o.side) x.price (quoted (across_of o.side) q)))

-- the order goes out to this quotation, if it is the first across
abbrev pub goes_to : Order → Quotation → Bool
goes_to o x = goes_out o.kind && within o.side o.limit x.price

-- it would lock or cross what stands first across, here or away
abbrev pub touches : State → Quotes → Order → Bool
touches s q o = resting_near o (head_of (on (across_of o.side) s)) || quotation_near o (head_of (quoted (across_of o.side) q))

-- rules 1 and 2 do not apply
abbrev pub NoTrade : State → Quotes → Order → Type 0
NoTrade s q o = (x : Resting) → Some x ≡ head_of (on (across_of o.side) s) → trades_with q o x ≡ false

abbrev pub NoSend : Quotes → Order → Type 0
NoSend q o = (x : Quotation) → Some x ≡ head_of (quoted (across_of o.side) q) → goes_to o x ≡ false

-- the rule by which a move is made: each applies where none before it does
pub data Rule (s : State) (q : Quotes) (o : Order) : Move → Type 0 where
  trading : (x : Resting) → Some x ≡ head_of (on (across_of o.side) s) → trades_with q o x ≡ true → Rule s q o (Trade x.number x.price x.shown)
  sending : (x : Quotation) → NoTrade s q o → Some x ≡ head_of (quoted (across_of o.side) q) → goes_to o x ≡ true → no_route s ≡ false → Rule s q o (Send x)
  unroutable : (x : Quotation) → NoTrade s q o → Some x ≡ head_of (quoted (across_of o.side) q) → goes_to o x ≡ true → no_route s ≡ true → Rule s q o (TakeOff NoRoute)
  unfilled : NoTrade s q o → NoSend q o → never_rests o.kind ≡ true → Rule s q o (TakeOff Unfilled)
  locking : NoTrade s q o → NoSend q o → never_rests o.kind ≡ false → (never_locks o.kind && touches s q o) ≡ true → Rule s q o (TakeOff WouldLock)
  crowded : NoTrade s q o → NoSend q o → never_rests o.kind ≡ false → (never_locks o.kind && touches s q o) ≡ false → side_full o.side s ≡ true → Rule s q o (TakeOff SideFull)
  resting : NoTrade s q o → NoSend q o → never_rests o.kind ≡ false → (never_locks o.kind && touches s q o) ≡ false → side_full o.side s ≡ false → Rule s q o Rest

-- THE LAW: the move of a step is the one that a rule makes, and no rule makes another
abbrev pub MovesByRule : Type 0
MovesByRule = (s : State) (q : Quotes) (o : Order) → Rule s q o (move_of s q o) × ((m : Move) → Rule s q o m → move_of s q o ≡ m)

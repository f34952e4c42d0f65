-- Strings of calls on a book, whatever the boards show before each, and the answers that they draw.
use Rattle.std.specs.Prelude.{◌≡◌, ◌⊎◌, List, [], ◌∷◌}
use Rattle.market.specs.declared.types.Report.{Report}
use Rattle.market.specs.declared.types.Call.{Call}
use Rattle.market.specs.States.{State, Quotes}
use Rattle.market.specs.Quotes.{Shown}
use Rattle.market.specs.Calls.{Pass, Says, reports, refused, Outcome, call}

-- the quotations that the board shows, and then a call
pub record Turn : Type 0 where
  pub quotes : Quotes
  pub call : Call

-- the quotations are such as a board may show
abbrev pub Playable : List Turn → Type 0
Playable [] = Unit {0}
Playable (t ∷ ts) = Shown t.quotes × Playable ts

abbrev pub does : Turn → State → Pass → Outcome
does t s p = call t.quotes t.call s p

-- the book and the pass once the calls are made
abbrev pub state_after : List Turn → State → Pass → State
state_after [] s p = s
state_after (t ∷ ts) s p = state_after ts (does t s p).state (does t s p).pass

abbrev pub pass_after : List Turn → State → Pass → Pass
pass_after [] s p = p
pass_after (t ∷ ts) s p = pass_after ts (does t s p).state (does t s p).pass

-- what the calls say, one after another
abbrev pub said : List Turn → State → Pass → List Says
said [] s p = []
said (t ∷ ts) s p = (does t s p).says ∷ said ts (does t s p).state (does t s p).pass

-- a report is one of those that a call said
abbrev pub Listed : Report → List Report → Type 0
Listed r [] = ⊥
Listed r (x ∷ xs) = (x ≡ r) ⊎ Listed r xs

abbrev pub Reported : Report → Says → Type 0
Reported r (reports rs) = Listed r rs
Reported r (refused n) = ⊥

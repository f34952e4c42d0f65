-- What the desk's methods do: an instruction, and what is noted of it.
use Rattle.std.specs.Prelude.{◌≡◌, ℕ, true, List}
use Rattle.market.specs.declared.types.Call.{Call}
use Rattle.market.specs.States.{State, Quotes, fits}
use Rattle.market.specs.Calls.{Pass, ready, ended, in_hand}
use Rattle.order_file.specs.declared.instructions.Instruction.{Instruction}
use Rattle.table_board.specs.Quoting.{lists_of}
use Rattle.book.specs.declared.passes.Ready.{Ready}
use Rattle.book.specs.declared.passes.InHand.{InHand}
use Rattle.book.specs.Outcomes.{book_state, id_of, ready_book, hand_book, ended_book, order_of}
use Rattle.laws.specs.Strings.{Turn}
use Rattle.replay.specs.Days.{Told, Finishes, Performs, Does}
use Rattle.replay.specs.Records.{Noted}
use Rattle.replay.specs.declared.desk.Desk.{Desk}
use Rattle.replay.specs.declared.desk.Stage.{Stage}
use Rattle.replay.specs.declared.desk.Stage.TheVariants.{Open, Over}

abbrev pub stage_pass : Stage → Pass
stage_pass (Open p) = ready
stage_pass (Over p) = ended

abbrev pub stage_book : Stage → ℕ
stage_book (Open p) = ready_book p
stage_book (Over p) = ended_book p

-- a pass as the rules have it, and the number of the book that it is for
pub record Held : Type 0 where
  pub pass : Pass
  pub book : ℕ

abbrev pub held_between : Stage → Held
held_between p = record { pass = stage_pass p; book = stage_book p }

abbrev pub held_working : InHand → Held
held_working h = record { pass = in_hand (order_of h); book = hand_book h }

-- the pass is for the desk's book
abbrev pub IsOwn : Desk → Stage → Type 0
IsOwn d p = stage_book p ≡ id_of d.book

-- the order in hand is for the desk's book, and its number fits there: so no step of it is refused
pub record MayWork (d : Desk) (h : InHand) : Type 0 where
  pub own : hand_book h ≡ id_of d.book
  pub fit : fits (order_of h).number (book_state d.book) ≡ true

-- how the rules let a book, the quotations and a pass become others, by which turns, and what they tell of it
abbrev pub Rule : Type 1
Rule = State → Quotes → Pass → List Turn → List Told → State → Quotes → Pass → Type 0

-- a rule followed at a desk, and noted: the book keeps its number, and the pass that comes back bears the number of the one before
pub record Follows (rule : Rule) (d : Desk) (p : Held) (d' : Desk) (p' : Held) : Type 0 where
  pub turns : List Turn
  pub told : List Told
  pub by_rule : rule (book_state d.book) (lists_of d.board) p.pass turns told (book_state d'.book) (lists_of d'.board) p'.pass
  pub noted : Noted told d.log d'.log
  pub pass : p'.book ≡ p.book
  pub id : id_of d'.book ≡ id_of d.book

-- the order in hand worked to its end
abbrev pub Finished : Desk → InHand → Desk → Ready → Type 0
Finished d h d' p' = Follows Finishes d (held_working h) d' (held_between (Open p'))

-- a call performed
abbrev pub Performed : Call → Desk → Stage → Desk → Stage → Type 0
Performed c d p d' p' = Follows (Performs c) d (held_between p) d' (held_between p')

-- an instruction followed
abbrev pub Followed : Instruction → Desk → Stage → Desk → Stage → Type 0
Followed i d p d' p' = Follows (Does i) d (held_between p) d' (held_between p')

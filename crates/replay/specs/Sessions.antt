-- A session: what an order file's instructions lead to, and the text that is printed of it.
use Rattle.std.specs.Prelude.{◌≡◌, ℕ, ◌≤◌, ◌⊎◌, List, [], ◌∷◌, ◌++◌, map, length, codes}
use Rattle.std.specs.List.{flat_map}
use Rattle.market.specs.States.{State, Quotes, new_state, no_quotes}
use Rattle.market.specs.Calls.{Pass, ready}
use Rattle.order_file.specs.declared.instructions.Instruction.{Instruction}
use Rattle.order_file.specs.declared.faults.Fault.{Fault}
use Rattle.order_file.specs.Faults.{fault_text}
use Rattle.order_file.specs.Files.{most_bytes, Fits, text_of, IsBadFile}
use Rattle.laws.specs.Strings.{Turn}
use Rattle.replay.specs.Days.{Told, Day}
use Rattle.replay.specs.Laws.{Lawful}
use Rattle.book.specs.Outcomes.{book_state}
use Rattle.replay.specs.Records.{told_of, told_text, Tells}
use Rattle.replay.specs.Desks.{stage_pass}
use Rattle.replay.specs.declared.day.DayRun.{DayRun}
use Rattle.replay.specs.declared.record.Line.{Line}

-- the instructions followed over a new book, whose first order gets the number 1, and a table board with no line:
-- the turns that they make, all that is told, and the book, the board and the pass at the end; the laws hold for them
pub record Session (is : List Instruction) (told : List Told) : Type 0 where
  pub turns : List Turn
  pub book : State
  pub board : Quotes
  pub pass : Pass
  pub day : Day is (new_state 1) no_quotes ready turns told book board pass
  pub lawful : Lawful turns told book pass

abbrev pub Traded : List Instruction → List Line → Type 0
Traded is lines = Session is (map told_of lines)

-- such a session, by the book and the pass that it ends with
pub record EndsWith (is : List Instruction) (told : List Told) (book : State) (pass : Pass) : Type 0 where
  pub turns : List Turn
  pub board : Quotes
  pub day : Day is (new_state 1) no_quotes ready turns told book board pass
  pub lawful : Lawful turns told book pass

-- a day that has been run: the book and the pass that it ends with, and all that was noted of it, if there was memory for every line
abbrev pub Ran : List Instruction → DayRun → Type 0
Ran is d = (told : List Told) × EndsWith is told (book_state d.book) (stage_pass d.stage) × Tells d.log told

-- the names line of the record, without its end
unfoldable pub report_names : List ℕ
report_names = codes "report number user side price shares held other"

-- the names line, then a line for each report and refusal; each line ends with LF
abbrev pub lines_text : List Told → List ℕ
lines_text ts = (report_names ++ 10 ∷ []) ++ flat_map (λ t. told_text t ++ 10 ∷ []) ts

-- a fault's two lines
abbrev pub fault_lines : Fault → List ℕ
fault_lines f = fault_text f ++ 10 ∷ []

-- a file that is read, and the day that its instructions make
pub record ReadsAndTrades (file text : List ℕ) : Type 0 where
  pub instructions : List Instruction
  pub told : List Told
  pub short : length file ≤ most_bytes
  pub fits : Fits instructions
  pub written : file ≡ text_of instructions
  pub session : Session instructions told
  pub printed : text ≡ lines_text told

-- a file with a fault
pub record IsFaulty (file text : List ℕ) : Type 0 where
  pub fault : Fault
  pub first : IsBadFile file fault
  pub printed : text ≡ fault_lines fault

-- WHAT IS PRINTED: the reports and refusals of the day that the file writes, or the file's first fault
abbrev pub Printed : List ℕ → List ℕ → Type 0
Printed file text = ReadsAndTrades file text ⊎ IsFaulty file text

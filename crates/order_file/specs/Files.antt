-- The order file: how it is written, how the reader moves along it, and what is wrong with a file that writes no instructions.
use Rattle.std.specs.Prelude.{◌≡◌, ℕ, ◌+◌, ◌<◌, ◌≤◌, Bool, true, false, ◌⊎◌, List, [], ◌∷◌, ◌++◌, length, Some, None, Ok, Err, vec_items, codes, Option, Result, Vec, ◌≢◌}
use Rattle.std.specs.List.{flat_map}
use Rattle.std.specs.declared.alloc.Global.{Global}
use Rattle.order_file.specs.Faults.{bad_line, no_names, too_long}
use Rattle.order_file.specs.Instructions.{written, Fit}
use Rattle.order_file.specs.Lines.{Lacks, Faults}
use Rattle.order_file.specs.declared.instructions.Instruction.{Instruction}
use Rattle.order_file.specs.declared.faults.Fault.{Fault}
use Rattle.order_file.specs.declared.faults.ReadError.{ReadError}
use Rattle.order_file.specs.declared.faults.ReadError.TheVariants.{Memory, Bad}
use Rattle.order_file.specs.declared.reader.Condition.{Condition}
use Rattle.order_file.specs.declared.reader.Condition.TheVariants.{BeforeNames, AmongValues, Stopped}
use Rattle.order_file.specs.declared.reader.Line.{Line}
use Rattle.order_file.specs.declared.reader.Line.TheVariants.{Ended, Unended, Absent}

-- the names line, without its end
unfoldable pub names : List ℕ
names = codes "call side price size show kind user number venue"

abbrev pub lines_of : List Instruction → List ℕ
lines_of cs = flat_map (λ c. written c ++ 10 ∷ []) cs

-- THE FILE: the names line, then a line for each instruction; each line ends with LF
abbrev pub text_of : List Instruction → List ℕ
text_of cs = (names ++ 10 ∷ []) ++ lines_of cs

abbrev pub most_bytes : ℕ
most_bytes = 32768

-- each number of each instruction has 32 bits
abbrev pub Fits : List Instruction → Type 0
Fits [] = Unit {0}
Fits (c ∷ cs) = Fit c × Fits cs

-- what the bytes begin with: a line and what follows it, a line with no end, or nothing
abbrev pub Begins : List ℕ → Line → Type 0
Begins bs (Ended l t) = (bs ≡ l.now ++ 10 ∷ t.now) × Lacks 10 l.now
Begins bs Unended = (0 < length bs) × Lacks 10 bs
Begins bs Absent = bs ≡ []

abbrev pub stopped : Condition → Bool
stopped BeforeNames = false
stopped AmongValues = false
stopped Stopped = true

-- what is wrong with the first of the lines that are left, which is line n
abbrev pub IsBadLine : List ℕ → ℕ → Fault → Type 0
IsBadLine bs n f =
    (Lacks 10 bs × (f ≡ bad_line n))
    ⊎ ((l : List ℕ) × (t : List ℕ) × (bs ≡ l ++ 10 ∷ t) × Lacks 10 l × Faults l n (Err f))

-- THE READER'S MOVES: one line of the bytes bs, as line n, leads to another condition, to the bytes t that are left, and to line m
unfoldable pub Moves : Condition → List ℕ → ℕ → Result (Option Instruction) Fault → Condition → List ℕ → ℕ → Type 0
Moves BeforeNames bs n (Ok None) to t m = (to ≡ AmongValues) × (bs ≡ (names ++ 10 ∷ []) ++ t) × (m ≡ n + 1)
Moves BeforeNames bs n (Ok (Some c)) to t m = ⊥
Moves BeforeNames bs n (Err f) to t m = (to ≡ Stopped) × ((u : List ℕ) → bs ≢ (names ++ 10 ∷ []) ++ u) × (f ≡ no_names)
Moves AmongValues bs n (Ok None) to t m = (to ≡ Stopped) × (bs ≡ []) × (t ≡ [])
Moves AmongValues bs n (Ok (Some c)) to t m = (to ≡ AmongValues) × Fit c × (bs ≡ written c ++ 10 ∷ t) × (m ≡ n + 1)
Moves AmongValues bs n (Err f) to t m = (to ≡ Stopped) × (0 < length bs) × IsBadLine bs n f
Moves Stopped bs n (Ok None) to t m = (to ≡ Stopped) × (t ≡ bs)
Moves Stopped bs n (Ok (Some c)) to t m = ⊥
Moves Stopped bs n (Err f) to t m = ⊥

-- THE FILE'S FIRST FAULT: too long; else no names line; else that of the first line after those of some instructions
abbrev pub IsBadFile : List ℕ → Fault → Type 0
IsBadFile bs f =
    ((most_bytes < length bs) × (f ≡ too_long))
    ⊎ ((length bs ≤ most_bytes) × ((t : List ℕ) → bs ≢ (names ++ 10 ∷ []) ++ t) × (f ≡ no_names))
    ⊎ ((length bs ≤ most_bytes) × ((cs : List Instruction) × (t : List ℕ) × Fits cs × (bs ≡ text_of cs ++ t) × (0 < length t) × IsBadLine t (length cs + 2) f))

-- accepted with the instructions cs exactly where the file is what cs are written as, and short enough
abbrev pub FileAccepted : List ℕ → Result (Vec Instruction Global) ReadError → Type 0
FileAccepted bs (Ok v) = (length bs ≤ most_bytes) × Fits (vec_items v) × (bs ≡ text_of (vec_items v))
FileAccepted bs (Err (Memory e)) = Unit {0}
FileAccepted bs (Err (Bad f)) = (cs : List Instruction) → length bs ≤ most_bytes → Fits cs → bs ≢ text_of cs

abbrev pub FileFaults : List ℕ → Result (Vec Instruction Global) ReadError → Type 0
FileFaults bs (Ok v) = Unit {0}
FileFaults bs (Err (Memory e)) = Unit {0}
FileFaults bs (Err (Bad f)) = IsBadFile bs f

-- no two instructions are written as one line, and no two lists of them as one file
abbrev pub OneLineEach : Type 0
OneLineEach = (c d : Instruction) → Fit c → Fit d → written c ≡ written d → c ≡ d

abbrev pub OneFileEach : Type 0
OneFileEach = (cs ds : List Instruction) → Fits cs → Fits ds → text_of cs ≡ text_of ds → cs ≡ ds

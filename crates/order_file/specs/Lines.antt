-- A line of values: its fields, what each kind of line wants of them, and what is wrong with a line that writes no instruction.
use Rattle.std.specs.Prelude.{◌≡◌, ℕ, ◌+◌, ◌<◌, cond, ◌⊎◌, List, [], ◌∷◌, ◌++◌, map, length, take, Some, None, Ok, Err, Option, Result, ◌==◌, ◌≢◌, slice_index, slice_index_or}
use Rattle.std.specs.Borrow.{Bor}
use Rattle.market.specs.declared.types.Terms.{Terms}
use Rattle.market.specs.Written.{Cell, word, digits, blank, dash, shown, spaced, kind_word}
use Rattle.order_file.specs.Faults.{bad_line}
use Rattle.order_file.specs.Instructions.{verb_word, cells_of, texts, written, Narrow, Fit}
use Rattle.order_file.specs.Fields.{Want, a_side, a_kind, a_number, a_blank, Writes, Good, cause_of, text, Blamed}
use Rattle.order_file.specs.declared.instructions.Instruction.{Instruction}
use Rattle.order_file.specs.declared.instructions.Verb.{Verb}
use Rattle.order_file.specs.declared.instructions.Verb.TheVariants.{Enter, Replace, Cut, Cancel, Reply, Quote, Close, Expire}
use Rattle.order_file.specs.declared.faults.Cause.{Cause}
use Rattle.order_file.specs.declared.faults.Cause.TheVariants.{WrongWord, NotNumber, Misused}
use Rattle.order_file.specs.declared.faults.Fault.{Fault}
use Rattle.order_file.specs.declared.fields.Part.{Part}
use Rattle.order_file.specs.declared.lines.Fields.{Fields}
use Rattle.order_file.specs.declared.lines.Row.{Row}

-- call side price size show kind user number venue
abbrev pub field_count : ℕ
field_count = 9

-- what each kind of line wants after its word: side price size show kind user number venue
abbrev pub wants : Verb → List Want
wants Enter = a_side ∷ a_number ∷ a_number ∷ a_number ∷ a_kind ∷ a_number ∷ a_blank ∷ a_blank ∷ []
wants Replace = a_blank ∷ a_number ∷ a_number ∷ a_number ∷ a_kind ∷ a_number ∷ a_number ∷ a_blank ∷ []
wants Cut = a_blank ∷ a_blank ∷ a_number ∷ a_blank ∷ a_blank ∷ a_number ∷ a_number ∷ a_blank ∷ []
wants Cancel = a_blank ∷ a_blank ∷ a_blank ∷ a_blank ∷ a_blank ∷ a_number ∷ a_number ∷ a_blank ∷ []
wants Reply = a_blank ∷ a_blank ∷ a_number ∷ a_blank ∷ a_blank ∷ a_blank ∷ a_number ∷ a_blank ∷ []
wants Quote = a_side ∷ a_number ∷ a_number ∷ a_blank ∷ a_blank ∷ a_blank ∷ a_blank ∷ a_number ∷ []
wants Close = a_blank ∷ a_blank ∷ a_blank ∷ a_blank ∷ a_blank ∷ a_blank ∷ a_blank ∷ a_blank ∷ []
wants Expire = a_blank ∷ a_blank ∷ a_blank ∷ a_blank ∷ a_blank ∷ a_blank ∷ a_blank ∷ a_blank ∷ []

-- bytes among which b does not stand
abbrev pub Lacks : ℕ → List ℕ → Type 0
Lacks b bs = (k : ℕ) → k < length bs → slice_index bs k ≢ b

-- what stands before the first b, and what after it
abbrev pub SplitAt : ℕ → List ℕ → Option (Bor (List ℕ) × Bor (List ℕ)) → Type 0
SplitAt b bs None = Lacks b bs
SplitAt b bs (Some x) = (bs ≡ x.0.now ++ b ∷ x.1.now) × Lacks b x.0.now

-- fields that hold no space
abbrev pub Plain : List (List ℕ) → Type 0
Plain [] = Unit {0}
Plain (p ∷ ps) = Lacks 32 p × Plain ps

-- the bytes, cut at each space
abbrev pub onto : ℕ → List (List ℕ) → List (List ℕ)
onto b [] = (b ∷ []) ∷ []
onto b (p ∷ ps) = (b ∷ p) ∷ ps

abbrev pub cut : List ℕ → List (List ℕ)
cut [] = [] ∷ []
cut (b ∷ bs) = cond (b == 32) ([] ∷ cut bs) (onto b (cut bs))

-- the next field, which has others after it, and what is left of the line then; at a fault the same is left as before
abbrev pub NextField : Fields → Result Part Fault → Fields → Type 0
NextField old (Ok p) new = (cut old.rest.now ≡ text p ∷ cut new.rest.now) × (p.place ≡ old.place) × (new.place ≡ record { line = old.place.line; field = old.place.field + 1 })
NextField old (Err f) new = (cut old.rest.now ≡ old.rest.now ∷ []) × (f ≡ bad_line old.place.line) × (new ≡ old)

-- the last field, which is all that is left of the line
abbrev pub LastField : Fields → Result Part Fault → Type 0
LastField l (Ok p) = (cut l.rest.now ≡ text p ∷ []) × (p.place ≡ l.place)
LastField l (Err f) = (1 < length (cut l.rest.now)) × (f ≡ bad_line l.place.line)

abbrev pub values : Row → List Part
values r = r.side ∷ r.price ∷ r.size ∷ r.show ∷ r.kind ∷ r.user ∷ r.number ∷ r.venue ∷ []

abbrev pub parts : Row → List Part
parts r = r.call ∷ values r

-- the parts of line n, in their order from field k on
abbrev pub Placed : ℕ → ℕ → List Part → Type 0
Placed n k [] = Unit {0}
Placed n k (p ∷ ps) = (p.place ≡ record { line = n; field = k }) × Placed n (k + 1) ps

abbrev pub Rows : List ℕ → ℕ → Result Row Fault → Type 0
Rows bs n (Ok r) = (cut bs ≡ map text (parts r)) × Placed n 1 (parts r)
Rows bs n (Err f) = (length (cut bs) ≢ field_count) × (f ≡ bad_line n)

-- the first part that is not as wanted
abbrev pub Amiss : List Want → List Part → Fault → Type 0
Amiss [] ps f = ⊥
Amiss (w ∷ ws) [] f = ⊥
Amiss (w ∷ ws) (p ∷ ps) f = ((Good (Writes w) (text p) → ⊥) × Blamed (cause_of w) (text p) p.place f) ⊎ (Good (Writes w) (text p) × Amiss ws ps f)

-- every part is as wanted
abbrev pub AllGood : List Want → List Part → Type 0
AllGood [] [] = Unit {0}
AllGood [] (p ∷ ps) = ⊥
AllGood (w ∷ ws) [] = ⊥
AllGood (w ∷ ws) (p ∷ ps) = Good (Writes w) (text p) × AllGood ws ps

-- price size show kind user
abbrev pub term_wants : List Want
term_wants = a_number ∷ a_number ∷ a_number ∷ a_kind ∷ a_number ∷ []

abbrev pub term_parts : Row → List Part
term_parts r = r.price ∷ r.size ∷ r.show ∷ r.kind ∷ r.user ∷ []

abbrev pub term_cells : Terms → List Cell
term_cells t = digits t.price ∷ digits t.size ∷ digits t.show ∷ word (kind_word t.kind) ∷ digits t.user ∷ []

abbrev pub TermsTaken : Row → Result Terms Fault → Type 0
TermsTaken r (Ok t) = Narrow (term_cells t) × (map shown (term_cells t) ≡ map text (term_parts r)) × AllGood term_wants (term_parts r)
TermsTaken r (Err f) = Amiss term_wants (term_parts r) f

abbrev pub WordAlone : Row → Result (Unit {0}) Fault → Type 0
WordAlone r (Ok x) = map text (values r) ≡ dash ∷ dash ∷ dash ∷ dash ∷ dash ∷ dash ∷ dash ∷ dash ∷ []
WordAlone r (Err f) = Amiss (wants Close) (values r) f

-- the values of one kind of line
abbrev pub Taken : Verb → List Part → Result Instruction Fault → Type 0
Taken v ps (Ok c) = Fit c × (texts c ≡ verb_word v ∷ map text ps)
Taken v ps (Err f) = Amiss (wants v) ps f

-- THE LINE: accepted with the instruction c exactly where it is what c is written as
abbrev pub Accepts : List ℕ → Result Instruction Fault → Type 0
Accepts bs (Ok c) = Fit c × (bs ≡ written c)
Accepts bs (Err f) = (c : Instruction) → Fit c → bs ≢ written c

-- the cause that a field's place in an instruction makes of it
abbrev pub blame : Cell → Cause
blame (word w) = WrongWord
blame (digits n) = NotNumber
blame blank = Misused

-- THE FIRST BAD FIELD of line n: the fields before it are those of some instruction, and with it they are those of none
pub record Astray (n : ℕ) (ps : List (List ℕ)) (f : Fault) : Type 0 where
  pub before : ℕ
  pub like : Instruction
  pub fit : Fit like
  pub so_far : take before (texts like) ≡ take before ps
  pub no_further : (c : Instruction) → Fit c → take (before + 1) (texts c) ≢ take (before + 1) ps
  pub blamed : Blamed (blame (slice_index_or (cells_of like) before blank)) (slice_index_or ps before []) (record { line = n; field = before + 1 }) f

-- THE FAULT of line n: it has not as many fields as it should, or a first bad field
abbrev pub Faults : List ℕ → ℕ → Result Instruction Fault → Type 0
Faults bs n (Ok c) = Unit {0}
Faults bs n (Err f) =
    (((ps : List (List ℕ)) → length ps ≡ field_count → Plain ps → bs ≢ spaced ps) × (f ≡ bad_line n))
    ⊎ ((ps : List (List ℕ)) × (length ps ≡ field_count) × Plain ps × (bs ≡ spaced ps) × Astray n ps f)

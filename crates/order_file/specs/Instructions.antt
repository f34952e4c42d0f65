-- How an instruction is written: the fields of its line.
use Rattle.std.specs.Prelude.{ℕ, ◌^◌, ◌<◌, List, [], ◌∷◌, map, codes}
use Rattle.market.specs.Written.{Cell, word, digits, blank, shown, line_of, side_word, kind_word}
use Rattle.order_file.specs.declared.instructions.Instruction.{Instruction}
use Rattle.order_file.specs.declared.instructions.Instruction.TheVariants.{Enter, Replace, Cut, Cancel, Reply, Quote, Close, Expire}
use Rattle.order_file.specs.declared.instructions.Verb.{Verb}
use Rattle.order_file.specs.declared.instructions.Verb.TheVariants.{Enter as Enter', Replace as Replace', Cut as Cut', Cancel as Cancel', Reply as Reply', Quote as Quote', Close as Close', Expire as Expire'}

abbrev pub instruction_verb : Instruction → Verb
instruction_verb (Enter s t) = Enter'
instruction_verb (Replace t n) = Replace'
instruction_verb (Cut z u n) = Cut'
instruction_verb (Cancel u n) = Cancel'
instruction_verb (Reply z n) = Reply'
instruction_verb (Quote s q) = Quote'
instruction_verb Close = Close'
instruction_verb Expire = Expire'

abbrev pub verb_word : Verb → List ℕ
verb_word Enter' = codes "enter"
verb_word Replace' = codes "replace"
verb_word Cut' = codes "cut"
verb_word Cancel' = codes "cancel"
verb_word Reply' = codes "reply"
verb_word Quote' = codes "quote"
verb_word Close' = codes "close"
verb_word Expire' = codes "expire"

-- side price size show kind user number venue
abbrev pub values_of : Instruction → List Cell
values_of (Enter s t) = word (side_word s) ∷ digits t.price ∷ digits t.size ∷ digits t.show ∷ word (kind_word t.kind) ∷ digits t.user ∷ blank ∷ blank ∷ []
values_of (Replace t n) = blank ∷ digits t.price ∷ digits t.size ∷ digits t.show ∷ word (kind_word t.kind) ∷ digits t.user ∷ digits n ∷ blank ∷ []
values_of (Cut z u n) = blank ∷ blank ∷ digits z ∷ blank ∷ blank ∷ digits u ∷ digits n ∷ blank ∷ []
values_of (Cancel u n) = blank ∷ blank ∷ blank ∷ blank ∷ blank ∷ digits u ∷ digits n ∷ blank ∷ []
values_of (Reply z n) = blank ∷ blank ∷ digits z ∷ blank ∷ blank ∷ blank ∷ digits n ∷ blank ∷ []
values_of (Quote s q) = word (side_word s) ∷ digits q.price ∷ digits q.size ∷ blank ∷ blank ∷ blank ∷ blank ∷ digits q.venue ∷ []
values_of Close = blank ∷ blank ∷ blank ∷ blank ∷ blank ∷ blank ∷ blank ∷ blank ∷ []
values_of Expire = blank ∷ blank ∷ blank ∷ blank ∷ blank ∷ blank ∷ blank ∷ blank ∷ []

-- call side price size show kind user number venue
abbrev pub cells_of : Instruction → List Cell
cells_of c = word (verb_word (instruction_verb c)) ∷ values_of c

abbrev pub texts : Instruction → List (List ℕ)
texts c = map shown (cells_of c)

-- the line, without its end
abbrev pub written : Instruction → List ℕ
written c = line_of (cells_of c)

-- each number has 32 bits
abbrev pub Narrow : List Cell → Type 0
Narrow [] = Unit {0}
Narrow (word w ∷ fs) = Narrow fs
Narrow (digits n ∷ fs) = (n < 2 ^ 32) × Narrow fs
Narrow (blank ∷ fs) = Narrow fs

abbrev pub Fit : Instruction → Type 0
Fit c = Narrow (values_of c)

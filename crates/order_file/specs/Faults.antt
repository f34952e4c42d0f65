-- The faults of an order file: their numbers, where each stands, and how one is written.
use Rattle.std.specs.Prelude.{ℕ, List, [], ◌∷◌, ◌++◌, codes}
use Rattle.market.specs.Written.{Cell, word, digits, line_of}
use Rattle.order_file.specs.declared.faults.Cause.{Cause}
use Rattle.order_file.specs.declared.faults.Cause.TheVariants.{NoNames, BadLine, WrongWord, NotNumber, Misused, TooLong}
use Rattle.order_file.specs.declared.faults.Layer.{Layer}
use Rattle.order_file.specs.declared.faults.Layer.TheVariants.{Field as of_field, Line as of_one_line, File as of_file}
use Rattle.order_file.specs.declared.faults.Fault.{Fault}
use Rattle.order_file.specs.declared.fields.Place.{Place}

abbrev pub cause_code : Cause → ℕ
cause_code NoNames = 41
cause_code BadLine = 42
cause_code WrongWord = 43
cause_code NotNumber = 44
cause_code Misused = 45
cause_code TooLong = 46

abbrev pub layer_word : Layer → List ℕ
layer_word of_field = codes "field"
layer_word of_one_line = codes "line"
layer_word of_file = codes "file"

-- a fault of the field at a place
abbrev pub bad_field : Cause → Place → Fault
bad_field c p = record { cause = c; line = p.line; field = p.field; layer = of_field }

-- a line that has not nine fields, or does not end
abbrev pub bad_line : ℕ → Fault
bad_line n = record { cause = BadLine; line = n; field = 0; layer = of_one_line }

-- the names line is wrong or absent
abbrev pub no_names : Fault
no_names = record { cause = NoNames; line = 1; field = 0; layer = of_file }

abbrev pub too_long : Fault
too_long = record { cause = TooLong; line = 0; field = 0; layer = of_file }

-- cause line field layer
abbrev pub fault_cells : Fault → List Cell
fault_cells f = digits (cause_code f.cause) ∷ digits f.line ∷ digits f.field ∷ word (layer_word f.layer) ∷ []

abbrev pub fault_text : Fault → List ℕ
fault_text f = codes "cause line field layer" ++ 10 ∷ line_of (fault_cells f)

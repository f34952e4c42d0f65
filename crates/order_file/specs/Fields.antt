-- What a field shows, and when it is what is wanted.
use Rattle.std.specs.Prelude.{◌≡◌, ℕ, ◌^◌, ◌<◌, List, Some, None, Ok, Err, decimal, Option, Result, ◌≢◌}
use Rattle.market.specs.declared.types.Side.{Side}
use Rattle.market.specs.declared.types.Kind.{Kind}
use Rattle.market.specs.Written.{dash, side_word, kind_word}
use Rattle.order_file.specs.Instructions.{verb_word}
use Rattle.order_file.specs.Faults.{bad_field}
use Rattle.order_file.specs.declared.instructions.Verb.{Verb}
use Rattle.order_file.specs.declared.faults.Cause.{Cause}
use Rattle.order_file.specs.declared.faults.Cause.TheVariants.{WrongWord, NotNumber, Misused}
use Rattle.order_file.specs.declared.faults.Fault.{Fault}
use Rattle.order_file.specs.declared.fields.Place.{Place}
use Rattle.order_file.specs.declared.fields.Part.{Part}
use Rattle.order_file.specs.declared.fields.Field.{Field}
use Rattle.order_file.specs.declared.fields.Field.TheVariants.{Word, Number, Blank}

abbrev pub text : Part → List ℕ
text p = p.bytes.now

-- what can be wanted of a field
pub data Want : Type 0 where
  a_verb a_side a_kind a_number a_blank : Want

-- what such a field is read as
abbrev pub Value : Want → Type 0
Value a_verb = Verb
Value a_side = Side
Value a_kind = Kind
Value a_number = ℕ
Value a_blank = Unit {0}

-- the bytes that are a value's word, by the spelling of its type
abbrev pub Spells : {X : Type 0} → (X → List ℕ) → X → List ℕ → Type 0
Spells spelling x p = p ≡ spelling x

-- the bytes that write a value; a number has 32 bits, and no zero before other digits
abbrev pub Writes : (w : Want) → Value w → List ℕ → Type 0
Writes a_verb v p = Spells verb_word v p
Writes a_side s p = Spells side_word s p
Writes a_kind k p = Spells kind_word k p
Writes a_number n p = (n < 2 ^ 32) × (p ≡ decimal n)
Writes a_blank x p = p ≡ dash

-- the value that the bytes write, if they write one
abbrev pub Reads : {X : Type 0} → (X → List ℕ → Type 0) → List ℕ → Option X → Type 0
Reads writes p (Some x) = writes x p
Reads {X = X} writes p None = (x : X) → writes x p → ⊥

-- a field is a blank, a number, or else a word; it keeps its part of the file's bytes and its place
abbrev pub Shows : Part → Field → Type 0
Shows p (Word b at) = (b.now ≡ text p) × (at ≡ p.place) × (text p ≢ dash) × ((n : ℕ) → Writes a_number n (text p) → ⊥)
Shows p (Number b n at) = (b.now ≡ text p) × (at ≡ p.place) × (text p ≢ dash) × Writes a_number n (text p)
Shows p (Blank b at) = (b.now ≡ text p) × (at ≡ p.place) × (text p ≡ dash)

-- the bytes that write some value
unfoldable pub Good : {X : Type 0} → (X → List ℕ → Type 0) → List ℕ → Type 0
Good {X = X} writes p = (x : X) × writes x p

-- the cause where the field shows no blank
abbrev pub cause_of : Want → Cause
cause_of a_verb = WrongWord
cause_of a_side = WrongWord
cause_of a_kind = WrongWord
cause_of a_number = NotNumber
cause_of a_blank = Misused

-- a bad field is misused where it shows a blank, and else at fault as given
abbrev pub Blamed : Cause → List ℕ → Place → Fault → Type 0
Blamed cause p at f = (p ≡ dash → f ≡ bad_field Misused at) × ((p ≢ dash) → f ≡ bad_field cause at)

-- the verdict on a part that is to write a value
abbrev pub Judged : {X : Type 0} → (X → List ℕ → Type 0) → Cause → Part → Result X Fault → Type 0
Judged writes cause p (Ok x) = writes x (text p) × Good writes (text p)
Judged writes cause p (Err f) = (Good writes (text p) → ⊥) × Blamed cause (text p) p.place f

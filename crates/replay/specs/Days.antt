-- A day: what an order file's instructions do to a book and a table board, and what is told of it.
use Rattle.std.specs.Prelude.{◌≡◌, ℕ, true, List, [], ◌∷◌, ◌++◌, map, Some, None, Option}
use Rattle.market.specs.declared.types.Side.{Side}
use Rattle.market.specs.declared.types.Quotation.{Quotation}
use Rattle.market.specs.declared.types.Report.{Report}
use Rattle.market.specs.declared.types.Refusal.{Refusal}
use Rattle.market.specs.declared.types.Call.{Call}
use Rattle.market.specs.declared.types.Call.TheVariants.{Enter, Work, Cut, Cancel, Replace, Reply, Close, Expire}
use Rattle.market.specs.declared.types.Order.{Order}
use Rattle.market.specs.States.{State, Quotes, quoted, put_quotes, fits}
use Rattle.market.specs.Reports.{refusal_number}
use Rattle.market.specs.Quotes.{requoted}
use Rattle.market.specs.Steps.{step}
use Rattle.market.specs.Calls.{Pass, ready, ended, in_hand, Says, reports, refused, held_by, call}
use Rattle.table_board.specs.Quoting.{quotation_refusal}
use Rattle.order_file.specs.declared.instructions.Instruction.{Instruction}
use Rattle.order_file.specs.declared.instructions.Instruction.TheVariants.{Enter as Enter', Replace as Replace', Cut as Cut', Cancel as Cancel', Reply as Reply', Quote as Quote', Close as Close', Expire as Expire'}
use Rattle.laws.specs.Strings.{Turn}

-- what one line of the record tells: a report, or the number of a refusal
pub data Told : Type 0 where
  report : Report → Told
  refusal : ℕ → Told

abbrev pub tell : Says → List Told
tell (reports rs) = map report rs
tell (refused n) = refusal n ∷ []

-- the quotations, and then a call
abbrev pub turn : Quotes → Call → Turn
turn q c = record { quotes = q; call = c }

-- the order in hand is worked to its end: a step, and then the others; its number fits the book, so that no step is refused
pub data Finishes : State → Quotes → Pass → List Turn → List Told → State → Quotes → Pass → Type 0 where
  idle : {s : State} {q : Quotes} → Finishes s q ready [] [] s q ready
  over : {s : State} {q : Quotes} → Finishes s q ended [] [] s q ended
  steps : {s s' : State} {q q' : Quotes} {p' : Pass} (o : Order) {ts : List Turn} {l : List Told} → fits o.number s ≡ true →
      Finishes (step s q o).state (step s q o).quotes (held_by (step s q o).left) ts l s' q' p' →
      Finishes s q (in_hand o) (turn q Work ∷ ts) (report (step s q o).report ∷ l) s' q' p'

-- a call, and the order that it takes in hand worked to its end
pub data Performs (c : Call) (s : State) (q : Quotes) (p : Pass) : List Turn → List Told → State → Quotes → Pass → Type 0 where
  performs : {s' : State} {q' : Quotes} {p' : Pass} {ts : List Turn} {l : List Told} →
      Finishes (call q c s p).state (call q c s p).quotes (call q c s p).pass ts l s' q' p' →
      Performs c s q p (turn q c ∷ ts) (tell (call q c s p).says ++ l) s' q' p'

-- a quote: refused it changes nothing and is told; accepted it changes the side's list, and nothing is told
abbrev pub Requotes : Side → Quotation → Option Refusal → State → Quotes → Pass → List Turn → List Told → State → Quotes → Pass → Type 0
Requotes d x (Some why) s q p ts l s' q' p' = (ts ≡ []) × (l ≡ refusal (refusal_number why) ∷ []) × (s' ≡ s) × (q' ≡ q) × (p' ≡ p)
Requotes d x None s q p ts l s' q' p' = (ts ≡ []) × (l ≡ []) × (s' ≡ s) × (q' ≡ put_quotes d (requoted d x (quoted d q)) q) × (p' ≡ p)

-- an instruction: a call, or a change of the quotations
abbrev pub Does : Instruction → State → Quotes → Pass → List Turn → List Told → State → Quotes → Pass → Type 0
Does (Enter' d t) = Performs (Enter d t)
Does (Replace' t n) = Performs (Replace t n)
Does (Cut' k user n) = Performs (Cut k user n)
Does (Cancel' user n) = Performs (Cancel user n)
Does (Reply' k n) = Performs (Reply k n)
Does (Quote' d x) = Requotes d x (quotation_refusal x)
Does Close' = Performs Close
Does Expire' = Performs Expire

-- the instructions of a day, one after another
pub data Day : List Instruction → State → Quotes → Pass → List Turn → List Told → State → Quotes → Pass → Type 0 where
  done : {s : State} {q : Quotes} {p : Pass} → Day [] s q p [] [] s q p
  then : {i : Instruction} {is : List Instruction} {s s₁ s₂ : State} {q q₁ q₂ : Quotes} {p p₁ p₂ : Pass} (ts us : List Turn) (l m : List Told) →
      Does i s q p ts l s₁ q₁ p₁ → Day is s₁ q₁ p₁ us m s₂ q₂ p₂ → Day (i ∷ is) s q p (ts ++ us) (l ++ m) s₂ q₂ p₂

-- The line format: how fields, and a report, are written as bytes.
use Rattle.std.specs.Prelude.{◌≡◌, ℕ, List, [], ◌∷◌, ◌++◌, map, Some, Option, codes, decimal}
use Rattle.std.specs.List.{flat_map}
use Rattle.market.specs.declared.types.Side.{Side}
use Rattle.market.specs.declared.types.Side.TheVariants.{Buy, Sell}
use Rattle.market.specs.declared.types.Kind.{Kind}
use Rattle.market.specs.declared.types.Kind.TheVariants.{Limit, BookOnly, Immediate, Sweep}
use Rattle.market.specs.declared.types.What.{What}
use Rattle.market.specs.declared.types.What.TheVariants.{In, Trade, Sent, Rest, Off, Back}
use Rattle.market.specs.declared.types.Report.{Report}
use Rattle.market.specs.Reports.{reason_number}

-- what one field shows
pub data Cell : Type 0 where
  word : List ℕ → Cell
  digits : ℕ → Cell
  blank : Cell

abbrev pub dash : List ℕ
dash = 45 ∷ []

abbrev pub shown : Cell → List ℕ
shown (word w) = w
shown (digits n) = decimal n
shown blank = dash

-- fields parted by one space
abbrev pub spaced_after : List ℕ → List (List ℕ) → List ℕ
spaced_after p [] = p
spaced_after p (q ∷ qs) = p ++ 32 ∷ spaced_after q qs

abbrev pub spaced : List (List ℕ) → List ℕ
spaced [] = []
spaced (p ∷ ps) = spaced_after p ps

abbrev pub line_of : List Cell → List ℕ
line_of cs = spaced (map shown cs)

abbrev pub side_word : Side → List ℕ
side_word Buy = codes "B"
side_word Sell = codes "S"

abbrev pub kind_word : Kind → List ℕ
kind_word Limit = codes "L"
kind_word BookOnly = codes "B"
kind_word Immediate = codes "I"
kind_word Sweep = codes "S"

abbrev pub what_word : What → List ℕ
what_word In = codes "in"
what_word (Trade n) = codes "trade"
what_word (Sent venue) = codes "sent"
what_word (Rest held) = codes "rest"
what_word (Off why) = codes "off"
what_word (Back unfilled venue) = codes "back"

-- which reports tell of held, and which of other: where one does not, the field is blank
abbrev pub held_cell : What → Cell
held_cell In = blank
held_cell (Trade n) = blank
held_cell (Sent venue) = blank
held_cell (Rest held) = digits held
held_cell (Off why) = blank
held_cell (Back unfilled venue) = digits unfilled

abbrev pub other_cell : What → Cell
other_cell In = blank
other_cell (Trade n) = digits n
other_cell (Sent venue) = digits venue
other_cell (Rest held) = blank
other_cell (Off why) = digits (reason_number why)
other_cell (Back unfilled venue) = digits venue

-- report number user side price shares held other
abbrev pub report_cells : Report → List Cell
report_cells r =
    word (what_word r.what) ∷ digits r.number ∷ digits r.user ∷ word (side_word r.side) ∷ digits r.price ∷ digits r.shares
    ∷ held_cell r.what ∷ other_cell r.what ∷ []

abbrev pub refusal_cells : ℕ → List Cell
refusal_cells n = word (codes "no") ∷ blank ∷ blank ∷ blank ∷ blank ∷ blank ∷ blank ∷ digits n ∷ []

abbrev pub report_line : Report → List ℕ
report_line r = line_of (report_cells r)

abbrev pub refusal_line : ℕ → List ℕ
refusal_line n = line_of (refusal_cells n)

-- the names line, then a line for each item
abbrev pub lines_under : {T : Type 0} → List ℕ → (T → List ℕ) → List T → List ℕ
lines_under names line items = (names ++ 10 ∷ []) ++ flat_map (λ x. line x ++ 10 ∷ []) items

-- the text is the names line and the items' lines, where it is known how each item is written; each line ends with LF
abbrev pub LinesUnder : {T : Type 0} → (T → Option (List ℕ)) → List ℕ → List T → List ℕ → Type 0
LinesUnder {T} output names items text = (line : T → List ℕ) → ((x : T) → output x ≡ Some (line x)) → text ≡ lines_under names line items

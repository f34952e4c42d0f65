-- The record's lines, what they tell, and how they are written.
use Rattle.std.specs.Prelude.{◌≡◌, ℕ, List, ◌++◌, map, Ok, Err, Result, IfOk, IsOkAnd, IsErr}
use Rattle.market.specs.declared.types.Report.{Report}
use Rattle.market.specs.declared.types.Refusal.{Refusal}
use Rattle.market.specs.Reports.{refusal_number}
use Rattle.market.specs.Written.{report_line, refusal_line}
use Rattle.replay.specs.Days.{Told, report, refusal}
use Rattle.replay.specs.declared.record.Line.{Line}
use Rattle.replay.specs.declared.record.Record.{Record}

abbrev pub told_in : Result Report Refusal → Told
told_in (Ok r) = report r
told_in (Err why) = refusal (refusal_number why)

abbrev pub told_of : Line → Told
told_of l = told_in l.0

-- a line of the record, without its end
abbrev pub told_text : Told → List ℕ
told_text (report r) = report_line r
told_text (refusal n) = refusal_line n

-- there was memory for the record's lines, and they tell this
abbrev pub HasLines : Record → List Told → Type 0
HasLines r l = IsOkAnd r.lines (λ v. map told_of v.items ≡ l)

-- there was no memory for one of its lines
abbrev pub HasEnded : Record → Type 0
HasEnded r = IsErr r.lines

-- what a record tells, if there was memory for its lines
abbrev pub Tells : Record → List Told → Type 0
Tells r l = IfOk r.lines (λ v. map told_of v.items ≡ l)

-- lines added: a record that has its lines afterwards had them before, and has these at their end
abbrev pub Noted : List Told → Record → Record → Type 0
Noted l r r' = IfOk r'.lines (λ v'. IsOkAnd r.lines (λ v. map told_of v'.items ≡ map told_of v.items ++ l))

use Rattle.std.proofs.Common.{[], ◌∷◌, inl, inr}
use Rattle.order_file.specs.Fields.{a_blank}
use Rattle.order_file.specs.Lines.{term_wants, term_parts, values, Taken}
use Rattle.order_file.specs.declared.instructions.Verb.TheVariants.{Enter}
use Rattle.order_file.proofs.Wants.{front, after, passed_on}
use Rattle.order_file.proofs.lines.enter.Goals as goal

pub returns-in_err-side : goal.returns-in_err-side
returns-in_err-side c = passed_on (Taken Enter (values c.args.row.now)) _ _ c.from_residual.ensures.1 (inl c.in_err-side.ensures)

pub returns-in_err-terms : goal.returns-in_err-terms
returns-in_err-terms c =
    let row = c.args.row.now in
    let a = front term_wants (a_blank ∷ a_blank ∷ []) (term_parts row) (row.number ∷ row.venue ∷ []) _ c.in_err-terms.ensures in
    passed_on (Taken Enter (values row)) _ _ c.from_residual-in_err-terms.ensures.1 (inr (c.in_ok-side.ensures.1, a))

pub returns-in_err-blank : goal.returns-in_err-blank
returns-in_err-blank c =
    let row = c.args.row.now in
    let a = after term_wants (a_blank ∷ a_blank ∷ []) (term_parts row) (row.number ∷ row.venue ∷ []) _ c.in_ok-terms.ensures.2
    (inl c.in_err-blank.ensures) in
    passed_on (Taken Enter (values row)) _ _ c.from_residual-in_err-blank.ensures.1 (inr (c.in_ok-side.ensures.1, a))

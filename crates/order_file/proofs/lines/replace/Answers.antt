use Rattle.std.proofs.Common.{[], ◌∷◌, inl, inr}
use Rattle.order_file.specs.Fields.{a_number, a_blank}
use Rattle.order_file.specs.Lines.{term_wants, term_parts, values, Taken}
use Rattle.order_file.specs.declared.instructions.Verb.TheVariants.{Replace}
use Rattle.order_file.proofs.Wants.{front, after, passed_on}
use Rattle.order_file.proofs.lines.replace.Goals as goal

pub returns-in_err-blank : goal.returns-in_err-blank
returns-in_err-blank c = passed_on (Taken Replace (values c.args.row.now)) _ _ c.from_residual.ensures.1 (inl c.in_err-blank.ensures)

pub returns-in_err-terms : goal.returns-in_err-terms
returns-in_err-terms c =
    let row = c.args.row.now in
    let a = front term_wants (a_number ∷ a_blank ∷ []) (term_parts row) (row.number ∷ row.venue ∷ []) _ c.in_err-terms.ensures in
    passed_on (Taken Replace (values row)) _ _ c.from_residual-in_err-terms.ensures.1 (inr (c.in_ok-blank.ensures.1, a))

pub returns-in_err-number : goal.returns-in_err-number
returns-in_err-number c =
    let row = c.args.row.now in
    let a = after term_wants (a_number ∷ a_blank ∷ []) (term_parts row) (row.number ∷ row.venue ∷ []) _ c.in_ok-terms.ensures.2
    (inl c.in_err-number.ensures) in
    passed_on (Taken Replace (values row)) _ _ c.from_residual-in_err-number.ensures.1 (inr (c.in_ok-blank.ensures.1, a))

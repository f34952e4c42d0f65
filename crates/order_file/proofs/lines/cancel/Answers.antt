use Rattle.std.proofs.Common.{inl, inr}
use Rattle.order_file.specs.Lines.{values, Taken}
use Rattle.order_file.specs.declared.instructions.Verb.TheVariants.{Cancel}
use Rattle.order_file.proofs.Wants.{passed_on}
use Rattle.order_file.proofs.lines.cancel.Goals as goal

pub returns-in_err-blank : goal.returns-in_err-blank
returns-in_err-blank c = passed_on (Taken Cancel (values c.args.row.now)) _ _ c.from_residual.ensures.1 (inl c.in_err-blank.ensures)

pub returns-in_err-user : goal.returns-in_err-user
returns-in_err-user c = passed_on (Taken Cancel (values c.args.row.now)) _ _ c.from_residual-in_err-user.ensures.1 (inr (c.in_ok-blank.ensures.1, inr (c.in_ok-blank-2.ensures.1, inr (c.in_ok-blank-3.ensures.1, inr (c.in_ok-blank-4.ensures.1, inr (c.in_ok-blank-5.ensures.1, inl c.in_err-user.ensures))))))

pub returns-in_err-number : goal.returns-in_err-number
returns-in_err-number c = passed_on (Taken Cancel (values c.args.row.now)) _ _ c.from_residual-in_err-number.ensures.1 (inr (c.in_ok-blank.ensures.1, inr (c.in_ok-blank-2.ensures.1, inr (c.in_ok-blank-3.ensures.1, inr (c.in_ok-blank-4.ensures.1, inr (c.in_ok-blank-5.ensures.1, inr (c.in_ok-user.ensures.1, inl c.in_err-number.ensures)))))))

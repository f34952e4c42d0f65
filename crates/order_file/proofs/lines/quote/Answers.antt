use Rattle.std.proofs.Common.{inl, inr}
use Rattle.order_file.specs.Lines.{values, Taken}
use Rattle.order_file.specs.declared.instructions.Verb.TheVariants.{Quote}
use Rattle.order_file.proofs.Wants.{passed_on}
use Rattle.order_file.proofs.lines.quote.Goals as goal

pub returns-in_err-side : goal.returns-in_err-side
returns-in_err-side c = passed_on (Taken Quote (values c.args.row.now)) _ _ c.from_residual.ensures.1 (inl c.in_err-side.ensures)

pub returns-in_err-price : goal.returns-in_err-price
returns-in_err-price c = passed_on (Taken Quote (values c.args.row.now)) _ _ c.from_residual-in_err-price.ensures.1 (inr (c.in_ok-side.ensures.1, inl c.in_err-price.ensures))

pub returns-in_err-size : goal.returns-in_err-size
returns-in_err-size c = passed_on (Taken Quote (values c.args.row.now)) _ _ c.from_residual-in_err-size.ensures.1 (inr (c.in_ok-side.ensures.1, inr (c.in_ok-price.ensures.1, inl c.in_err-size.ensures)))

pub returns-in_err-blank : goal.returns-in_err-blank
returns-in_err-blank c = passed_on (Taken Quote (values c.args.row.now)) _ _ c.from_residual-in_err-blank.ensures.1 (inr (c.in_ok-side.ensures.1, inr (c.in_ok-price.ensures.1, inr (c.in_ok-size.ensures.1, inl c.in_err-blank.ensures))))

pub returns-in_err-venue : goal.returns-in_err-venue
returns-in_err-venue c = passed_on (Taken Quote (values c.args.row.now)) _ _ c.from_residual-in_err-venue.ensures.1 (inr (c.in_ok-side.ensures.1, inr (c.in_ok-price.ensures.1, inr (c.in_ok-size.ensures.1, inr (c.in_ok-blank.ensures.1, inr (c.in_ok-blank-2.ensures.1, inr (c.in_ok-blank-3.ensures.1, inr (c.in_ok-blank-4.ensures.1, inl c.in_err-venue.ensures))))))))

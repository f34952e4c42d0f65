use Rattle.std.proofs.Common.{inl, inr}
use Rattle.order_file.specs.Lines.{TermsTaken}
use Rattle.order_file.proofs.Wants.{passed_on}
use Rattle.order_file.proofs.lines.terms.Goals as goal

pub returns-in_err-price : goal.returns-in_err-price
returns-in_err-price c = passed_on (TermsTaken c.args.row.now) _ _ c.from_residual.ensures.1 (inl c.in_err-price.ensures)

pub returns-in_err-size : goal.returns-in_err-size
returns-in_err-size c = passed_on (TermsTaken c.args.row.now) _ _ c.from_residual-in_err-size.ensures.1 (inr (c.in_ok-price.ensures.1, inl c.in_err-size.ensures))

pub returns-in_err-show : goal.returns-in_err-show
returns-in_err-show c = passed_on (TermsTaken c.args.row.now) _ _ c.from_residual-in_err-show.ensures.1 (inr (c.in_ok-price.ensures.1, inr (c.in_ok-size.ensures.1, inl c.in_err-show.ensures)))

pub returns-in_err-kind : goal.returns-in_err-kind
returns-in_err-kind c = passed_on (TermsTaken c.args.row.now) _ _ c.from_residual-in_err-kind.ensures.1 (inr (c.in_ok-price.ensures.1, inr (c.in_ok-size.ensures.1, inr (c.in_ok-show.ensures.1, inl c.in_err-kind.ensures))))

pub returns-in_err-user : goal.returns-in_err-user
returns-in_err-user c = passed_on (TermsTaken c.args.row.now) _ _ c.from_residual-in_err-user.ensures.1 (inr (c.in_ok-price.ensures.1, inr (c.in_ok-size.ensures.1, inr (c.in_ok-show.ensures.1, inr (c.in_ok-kind.ensures.1, inl c.in_err-user.ensures)))))

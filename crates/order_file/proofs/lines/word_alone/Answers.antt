use Rattle.std.proofs.Common.{inl}
use Rattle.order_file.specs.Lines.{WordAlone}
use Rattle.order_file.proofs.Wants.{passed_on}
use Rattle.order_file.proofs.lines.word_alone.Goals as goal

pub returns-in_err-blank : goal.returns-in_err-blank
returns-in_err-blank c = passed_on (WordAlone c.args.row.now) _ _ c.from_residual.ensures.1 (inl c.in_err-blank.ensures)

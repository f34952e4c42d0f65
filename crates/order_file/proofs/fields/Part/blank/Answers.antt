use Rattle.std.proofs.Common.{arith}
use Rattle.order_file.specs.Fields.{a_blank, Writes}
use Rattle.order_file.specs.declared.faults.Cause.TheVariants.{Misused}
use Rattle.order_file.proofs.Verdicts.{taken, wrong}
use Rattle.order_file.proofs.fields.Part.blank.Goals as goal

pub returns-in-Blank : goal.returns-in-Blank
returns-in-Blank c = taken (Writes a_blank) Misused c.args.self tt c.in-Blank.ensures.2

pub returns-in-Word : goal.returns-in-Word
returns-in-Word c = wrong (Writes a_blank) Misused c.args.self _ c.of_field.result (grind arith) (λ d. grind (arith, d)) (λ x d. grind (arith, d)) c.of_field.ensures

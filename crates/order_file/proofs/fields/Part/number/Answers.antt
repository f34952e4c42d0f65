use Rattle.order_file.specs.Fields.{a_number, Writes}
use Rattle.order_file.specs.declared.faults.Cause.TheVariants.{NotNumber}
use Rattle.order_file.proofs.Verdicts.{taken, wrong, unused}
use Rattle.order_file.proofs.Words.{number_not_dash}
use Rattle.order_file.proofs.fields.Part.number.Goals as goal

pub returns-in-Number : goal.returns-in-Number
returns-in-Number c = taken (Writes a_number) NotNumber c.args.self c.in-Number.n c.in-Number.ensures.3

pub returns-in-Word : goal.returns-in-Word
returns-in-Word c =
    let s = c.in-Word.ensures in
    wrong (Writes a_number) NotNumber c.args.self c.in-Word.place c.of_field.result s.1 s.2 s.3 c.of_field.ensures

pub returns-in-Blank : goal.returns-in-Blank
returns-in-Blank c =
    let s = c.in-Blank.ensures in
    unused (Writes a_number) NotNumber c.args.self c.in-Blank.place c.of_field-in-Blank.result s.1 s.2 number_not_dash c.of_field-in-Blank.ensures

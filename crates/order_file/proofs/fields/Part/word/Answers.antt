use Rattle.order_file.specs.Fields.{Spells}
use Rattle.order_file.specs.declared.faults.Cause.TheVariants.{WrongWord}
use Rattle.order_file.proofs.Verdicts.{read_word, wrong, unused, above_digits, above_dash}
use Rattle.order_file.proofs.fields.Part.word.Goals as goal

pub returns-in-Word : goal.returns-in-Word
returns-in-Word g c =
    rw c.ok_or.ensures.value
    (read_word g.W.Word.spelling c.args.self c.in-Word.bytes c.in-Word.place c.of_bytes.result c.of_field.result c.in-Word.ensures c.of_bytes.ensures c.of_field.ensures)

pub returns-in-Number : goal.returns-in-Number
returns-in-Number g c =
    let s = c.in-Number.ensures in
    wrong (Spells g.W.Word.spelling) WrongWord c.args.self c.in-Number.place c.of_field-in-Number.result s.1 s.2 (λ x h. above_digits (g.W.Word.spelling x) _ _ (g.met.W.Word.letter x) s.3 h) c.of_field-in-Number.ensures

pub returns-in-Blank : goal.returns-in-Blank
returns-in-Blank g c =
    let s = c.in-Blank.ensures in
    unused (Spells g.W.Word.spelling) WrongWord c.args.self c.in-Blank.place c.of_field-in-Blank.result s.1 s.2 (λ x h. above_dash (g.W.Word.spelling x) (g.met.W.Word.letter x) h) c.of_field-in-Blank.ensures

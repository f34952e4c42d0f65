use Rattle.std.proofs.Common.{refl, arith}
use Rattle.order_file.specs.declared.instructions.Instruction.TheVariants.{Close as Close', Expire as Expire'}
use Rattle.order_file.specs.declared.instructions.Verb.TheVariants.{Close, Expire}
use Rattle.order_file.proofs.Wants.{alone}
use Rattle.order_file.proofs.lines.by_verb.Goals as goal

pub returns-in-Close : goal.returns-in-Close
returns-in-Close c = rw c.in-Close.is (alone Close Close' c.args.row.now c.word_alone.result _ refl tt refl c.word_alone.ensures (grind (arith, c.map.ensures.cases)))

pub returns-in-Expire : goal.returns-in-Expire
returns-in-Expire c = rw c.in-Expire.is (alone Expire Expire' c.args.row.now c.word_alone-in-Expire.result _ refl tt refl c.word_alone-in-Expire.ensures (grind (arith, c.map-in-Expire.ensures.cases)))

use Rattle.std.proofs.Common.{arith}
use Rattle.order_file.proofs.Moves.{wrong_names, no_line, wrong_values}
use Rattle.order_file.proofs.reader.Reader.step.Goals as goal

pub returns-in_err-check_names-in-BeforeNames-Ended : goal.returns-in_err-check_names-in-BeforeNames-Ended
returns-in_err-check_names-in-BeforeNames-Ended c =
    wrong_names c.args.self.now.condition c.args.self.now.rest.now c.args.self.now.line c.next_line-kind.result c.in-BeforeNames-Ended.text c.in-BeforeNames-Ended.rest
    c.from_residual.result c.in_err-check_names-in-BeforeNames-Ended.field-0.0 _ _
    c.in-BeforeNames-Ended.is-0 c.in-BeforeNames-Ended.is-1 c.next_line-kind.ensures c.in_err-check_names-in-BeforeNames-Ended.ensures c.from_residual.ensures.1

pub returns-in_err-instruction-in-AmongValues-Ended : goal.returns-in_err-instruction-in-AmongValues-Ended
returns-in_err-instruction-in-AmongValues-Ended c =
    wrong_values c.args.self.now.condition c.args.self.now.rest.now c.args.self.now.line c.next_line-kind.result c.in-AmongValues-Ended.text c.in-AmongValues-Ended.rest
    c.from_residual-in_err-instruction-in-AmongValues-Ended.result c.in_err-instruction-in-AmongValues-Ended.field-0.0 _ _
    c.in-AmongValues-Ended.is-0 c.in-AmongValues-Ended.is-1 c.next_line-kind.ensures c.in_err-instruction-in-AmongValues-Ended.ensures.fault c.from_residual-in_err-instruction-in-AmongValues-Ended.ensures.1

pub returns-in-BeforeNames-Unended : goal.returns-in-BeforeNames-Unended
returns-in-BeforeNames-Unended c =
    no_line c.args.self.now.condition c.args.self.now.rest.now c.args.self.now.line c.next_line-kind.result c.stop.result c.of_names.result _ _ _
    c.in-BeforeNames-Unended.is-0 (λ l t e. grind (arith, e)) c.next_line-kind.ensures c.of_names.ensures c.stop.ensures.told c.stop.ensures.condition

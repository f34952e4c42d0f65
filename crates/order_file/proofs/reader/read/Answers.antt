use Rattle.std.proofs.Common.{◌∷◌, [], length, vec_items, ap, ◌∙◌, arith}
use Rattle.std.proofs.lemmas.List.{length-append}
use Rattle.std.proofs.lemmas.Result.{err_from_is_err_and}
use Rattle.order_file.proofs.Progress.{added, taken_off, refused}
use Rattle.order_file.proofs.Same.{one_file_each}
use Rattle.order_file.proofs.reader.read.Goals as goal

pub returns-in_err-instruction : goal.returns-in_err-instruction
returns-in_err-instruction c =
    let r = err_from_is_err_and c.from_residual-in_err-instruction.result c.from_residual-in_err-instruction.ensures.1 in
    let d = refused c.args.file.now c.loop-reader.reader.condition c.loop-reader.reader.rest.now c.loop-reader.reader.line (vec_items c.loop-reader.instructions) c.in_err-instruction.field-0.0
    c.step.new.self.condition c.step.new.self.rest.now c.step.new.self.line
    c.in_ok-check_length.ensures c.loop-reader.invariant.0 c.in_err-instruction.ensures in
    rw (r.1, r.2) (record { accepted = d.accepted; fault = d.fault; unambiguous = one_file_each })

pub loop-reader-preserved-in-Some : goal.loop-reader-preserved-in-Some
loop-reader-preserved-in-Some c =
    let i = c.loop-reader.invariant in
    let v = c.in_ok-instruction.ensures in
    let n = c.push_reserved.ensures.items in
    let l = taken_off c.loop-reader.reader.condition c.loop-reader.reader.rest.now c.loop-reader.reader.line c.in_ok-instruction.field-0 c.in-Some.instruction
    c.step.new.self.condition c.step.new.self.rest.now c.step.new.self.line v c.in-Some.is in (
      added c.args.file.now c.loop-reader.reader.condition c.loop-reader.reader.rest.now c.loop-reader.reader.line (vec_items c.loop-reader.instructions) c.in_ok-instruction.field-0 c.in-Some.instruction
          c.step.new.self.condition c.step.new.self.rest.now c.step.new.self.line (vec_items c.push_reserved.new.self) i.0 v c.in-Some.is n,
      omega (arith, i.1, l, ap length n ∙ length-append (vec_items c.loop-reader.instructions) (c.in-Some.instruction ∷ [])),
      omega (arith, i.2, c.push_reserved.ensures.capacity),
    )

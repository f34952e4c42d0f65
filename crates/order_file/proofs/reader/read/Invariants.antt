use Rattle.std.proofs.Common.{◌+◌, ◌*◌, ◌/◌, ◌≤◌, length, vec_items, vec_capacity}
use Rattle.order_file.proofs.Progress.{Progress, steps_left}
use Rattle.order_file.proofs.reader.read.Given as goal

abbrev pub invariant-loop-reader : goal.invariant-loop-reader
invariant-loop-reader l =
    Progress l.file l.reader.condition l.reader.rest.now l.reader.line (vec_items l.instructions)
    × (9 * length (vec_items l.instructions) + length l.reader.rest.now ≤ length l.file)
    × (length l.file / 9 ≤ vec_capacity l.instructions)

abbrev pub decreases-loop-reader : goal.decreases-loop-reader
decreases-loop-reader l = steps_left l.reader.condition l.reader.rest.now

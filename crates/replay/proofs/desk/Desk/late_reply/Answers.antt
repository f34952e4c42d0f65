use Rattle.std.proofs.Common.{[], ◌∷◌, sym, subst, Option, map}
use Rattle.market.specs.declared.types.Report.{Report}
use Rattle.market.specs.Calls.{reports}
use Rattle.table_board.specs.Quoting.{lists_of}
use Rattle.book.specs.Outcomes.{late_list}
use Rattle.replay.specs.Days.{report}
use Rattle.replay.specs.Records.{Noted}
use Rattle.replay.specs.declared.desk.Stage.TheVariants.{Over}
use Rattle.replay.proofs.Notes.{noted_on}
use Rattle.replay.proofs.Calls.{turned_down, made, at_once}
use Rattle.replay.proofs.desk.Desk.late_reply.Goals as goal

pub returns-in-Err : goal.returns-in-Err
returns-in-Err c =
    let e = c.in-Err.ensures in
    turned_down (Over c.args.pass.now) c.in-Err.why c.requires (e (lists_of c.args.self.now.board)) c.note.ensures

pub returns-in-Some : goal.returns-in-Some
returns-in-Some c =
    let e = c.in-Ok.ensures in
    let rs = λ (off : Option Report). c.in-Ok.report ∷ late_list off in
    let n = noted_on (report c.in-Ok.report ∷ []) (report c.in-Some.unfilled ∷ []) c.args.self.now.log c.note-in-Ok.new.self c.note-in-Some.new.self c.note-in-Ok.ensures c.note-in-Some.ensures in
    at_once (Over c.args.pass.now) (made (reports (rs c.in-Ok.off)) c.requires (e (lists_of c.args.self.now.board)) (subst (λ (off : Option Report). Noted (map report (rs off)) c.args.self.now.log c.note-in-Some.new.self) (sym c.in-Some.is) n))

pub returns-in_default : goal.returns-in_default
returns-in_default c =
    let e = c.in-Ok.ensures in
    let rs = λ (off : Option Report). c.in-Ok.report ∷ late_list off in
    at_once (Over c.args.pass.now) (made (reports (rs c.in-Ok.off)) c.requires (e (lists_of c.args.self.now.board)) (subst (λ (off : Option Report). Noted (map report (rs off)) c.args.self.now.log c.note-in-Ok.new.self) (sym c.in_default.is) c.note-in-Ok.ensures))

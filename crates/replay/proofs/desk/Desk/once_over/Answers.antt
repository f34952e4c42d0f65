use Rattle.std.proofs.Common.{◌≡◌, sym, refl, subst, inl, inr}
use Rattle.market.specs.declared.types.Call.TheVariants.{Enter, Replace, Cut, Cancel, Close}
use Rattle.market.specs.declared.types.Call.{Call}
use Rattle.order_file.specs.declared.instructions.Instruction.{Instruction}
use Rattle.market.specs.Calls.{ended, refuse, call}
use Rattle.market.specs.declared.types.Refusal.TheVariants.{NoPass}
use Rattle.table_board.specs.Quoting.{lists_of}
use Rattle.book.specs.Outcomes.{book_state}
use Rattle.replay.specs.Desks.{Followed}
use Rattle.replay.specs.declared.desk.Desk.{Desk}
use Rattle.replay.specs.declared.desk.Stage.TheVariants.{Over}
use Rattle.replay.proofs.Calls.{no_pass}
use Rattle.replay.proofs.desk.Desk.once_over.Goals as goal

pub returns-in-Quote : goal.returns-in-Quote
returns-in-Quote c = subst (λ (i : Instruction). Followed i c.args.self.now (Over c.args.pass) c.quote.new.self (Over c.args.pass)) (sym c.in-Quote.is) (c.quote.ensures (Over c.args.pass))

pub returns-in-Enter : goal.returns-in-Enter
returns-in-Enter c =
    let d = c.args.self.now in
    let d' : Desk = record { book = d.book; board = d.board; log = c.note.new.self } in
    let P = λ (i : Instruction). Followed i d (Over c.args.pass) d' (Over c.args.pass) in
    let none = λ (k : Call) (e : call (lists_of d.board) k (book_state d.book) ended ≡ refuse NoPass (book_state d.book) (lists_of d.board) ended). no_pass k d (Over c.args.pass) c.note.new.self e c.note.ensures in
    elim c.in-Enter.is [
      | inl (x, t, e) ↦ subst P (sym e) (none (Enter x t) refl)
      | inr (inl (t, n, e)) ↦ subst P (sym e) (none (Replace t n) refl)
      | inr (inr (inl (k, u, n, e))) ↦ subst P (sym e) (none (Cut k u n) refl)
      | inr (inr (inr (inl (u, n, e)))) ↦ subst P (sym e) (none (Cancel u n) refl)
      | inr (inr (inr (inr e))) ↦ subst P (sym e) (none Close refl)
    ]

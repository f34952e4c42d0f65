use Rattle.std.proofs.Common.{sym, refl, subst}
use Rattle.market.specs.declared.types.Call.TheVariants.{Expire}
use Rattle.order_file.specs.declared.instructions.Instruction.{Instruction}
use Rattle.replay.specs.Desks.{Followed}
use Rattle.replay.specs.declared.desk.Stage.TheVariants.{Open}
use Rattle.replay.proofs.Calls.{no_pass}
use Rattle.replay.proofs.desk.Desk.while_open.Goals as goal

pub returns-in-Quote : goal.returns-in-Quote
returns-in-Quote c = subst (λ (i : Instruction). Followed i c.args.self.now (Open c.args.pass) c.quote.new.self (Open c.args.pass)) (sym c.in-Quote.is) (c.quote.ensures (Open c.args.pass))

pub returns-in-Expire : goal.returns-in-Expire
returns-in-Expire c =
    subst (λ (i : Instruction). Followed i c.args.self.now (Open c.args.pass) (record { book = c.args.self.now.book; board = c.args.self.now.board; log = c.note.new.self }) (Open c.args.pass)) (sym c.in-Expire.is) (no_pass Expire c.args.self.now (Open c.args.pass) c.note.new.self refl c.note.ensures)

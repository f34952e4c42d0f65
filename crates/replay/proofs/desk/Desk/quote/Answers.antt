use Rattle.replay.proofs.Quotes.{quote_refused, quote_accepted}
use Rattle.replay.proofs.desk.Desk.quote.Goals as goal

pub returns-in-Err : goal.returns-in-Err
returns-in-Err c p =
    let d = c.args.self.now in quote_refused c.args.side c.args.q d.book d.board c.quote.new.self p c.in-Err.why d.log c.note.new.self c.in-Err.ensures.0 c.in-Err.ensures.1 c.note.ensures

pub returns-in_default : goal.returns-in_default
returns-in_default c p =
    let d = c.args.self.now in quote_accepted c.args.side c.args.q d.book d.board c.quote.new.self p d.log c.in_default.ensures.0 c.in_default.ensures.1

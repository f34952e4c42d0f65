use Rattle.soundness.proofs.Keeps.{restable}
use Rattle.book.specs.Outcomes.{book_state}
use Rattle.book.proofs.book.Book.rest.Goals as goal

pub rest-requires-clause-may : goal.rest-requires-clause-may
rest-requires-clause-may c =
    let h = c.args.hand.now in
    restable h.order c.into.result (book_state c.args.self.now) c.into.ensures h.fit c.requires.number c.requires.clear c.args.self.now.orders.sound

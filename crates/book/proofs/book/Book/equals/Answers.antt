use Rattle.laws.proofs.Equal.{foretells, told_exactly}
use Rattle.resting.proofs.Sounds.{sound_of}
use Rattle.book.specs.Outcomes.{book_state}
use Rattle.book.proofs.book.Book.equals.Goals as goal

pub returns-clause-foretells : goal.returns-clause-foretells
returns-clause-foretells c =
    let a = c.args.self.now in
    let b = c.args.other.now in
    foretells (book_state a) (book_state b) (sound_of a.orders) (sound_of b.orders) c.equals.result c.equals.ensures

pub returns-clause-exactly : goal.returns-clause-exactly
returns-clause-exactly c =
    let a = c.args.self.now in
    let b = c.args.other.now in
    told_exactly (book_state a) (book_state b) (sound_of a.orders) (sound_of b.orders) c.equals.result c.equals.ensures

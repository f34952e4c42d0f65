-- What making a book does: it gets a number that no book of the house had, and stands empty.
use Rattle.std.specs.Prelude.{◌≡◌, ℕ, ◌+◌, Ok, Err, Result}
use Rattle.market.specs.States.{new_state}
use Rattle.book.specs.declared.book.Book.{Book}
use Rattle.book.specs.declared.passes.Ready.{Ready}
use Rattle.book.specs.declared.house.NotMade.{NotMade}
use Rattle.book.specs.declared.house.NotMade.TheVariants.{Memory, BookNumbersUsedUp}
use Rattle.book.specs.Outcomes.{book_state}

-- h books made before, and h' afterwards:
-- 1. a book under the next number, with its pass, and nothing in it
-- 2. no memory: the house stays as it was
-- 3. book numbers used up: the house stays as it was
abbrev pub Makes : ℕ → ℕ → ℕ → Result (Book × Ready) NotMade → Type 0
Makes h h' first (Ok (book, pass)) = (book.id ≡ h + 1) × (pass.book ≡ h + 1) × (book_state book ≡ new_state first) × (h' ≡ h + 1)
Makes h h' first (Err (Memory e)) = h' ≡ h
Makes h h' first (Err BookNumbersUsedUp) = (h ≡ 4294967295) × (h' ≡ h)

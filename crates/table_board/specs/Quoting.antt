-- What a quote and a take do to the lists of a table board.
use Rattle.std.specs.Prelude.{◌≡◌, ℕ, ◌<◌, ◌≤◌, ◌||◌, List, Some, None, Ok, Err, Option, Result, ◌==◌, nat_le}
use Rattle.ranking.specs.Lists.{lines_of}
use Rattle.market.specs.declared.types.Side.{Side}
use Rattle.market.specs.declared.types.Quotation.{Quotation}
use Rattle.market.specs.declared.types.Refusal.{Refusal}
use Rattle.market.specs.declared.types.Refusal.TheVariants.{Size, Price, Venue, NoSuchLine}
use Rattle.market.specs.Legal.{legal_price, legal_venue}
use Rattle.market.specs.States.{Quotes, quotes_of, quoted, put_quotes}
use Rattle.market.specs.Quotes.{size_at, lessened, requoted}
use Rattle.market.specs.Calls.{unless, or_else}
use Rattle.table_board.specs.declared.table.TableBoard.{TableBoard}

-- the two lists of a table board
abbrev pub lists_of : TableBoard → Quotes
lists_of b = quotes_of (lines_of b.lists.buy) (lines_of b.lists.sell)

-- quote: 3 for a size above 999,999, 4 for an illegal price unless the size is 0, 11 for a venue not from 1 to 64
abbrev pub quotation_refusal : Quotation → Option Refusal
quotation_refusal q =
    or_else (unless (nat_le q.size 999999) Size)
    (or_else (unless (q.size == 0 || legal_price q.price) Price)
    (unless (legal_venue q.venue) Venue))

-- 1. nothing refuses the quote: the list of its side has the venue's new line, and the other stays
-- 2. the first check that fails refuses it: both lists stay
abbrev pub Quoted : {U : Type 0} → Side → Quotation → Quotes → Quotes → Result U Refusal → Type 0
Quoted d q b b' (Ok u) = (quotation_refusal q ≡ None) × (b' ≡ put_quotes d (requoted d q (quoted d b)) b)
Quoted d q b b' (Err why) = (quotation_refusal q ≡ Some why) × (b' ≡ b)

-- take, on the list of its side:
-- 1. the venue's line has that many shares, and is lessened
-- 2. else refusal 12, and the list stays
abbrev pub TakenFrom : {U : Type 0} → ℕ → ℕ → List Quotation → List Quotation → Result U Refusal → Type 0
TakenFrom v n xs ys (Ok u) = (0 < n) × (n ≤ size_at v xs) × (ys ≡ lessened v n xs)
TakenFrom v n xs ys (Err why) = (0 < n → n ≤ size_at v xs → ⊥) × (why ≡ NoSuchLine) × (ys ≡ xs)

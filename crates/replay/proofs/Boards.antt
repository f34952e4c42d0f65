-- A table board shows only what a board may show.
use Rattle.market.specs.Quotes.{Shown}
use Rattle.table_board.specs.declared.table.TableBoard.{TableBoard}
use Rattle.table_board.specs.Quoting.{lists_of}

pub table_shown : (b : TableBoard) → Shown (lists_of b)
table_shown b = b.shown

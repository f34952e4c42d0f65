use Rattle.std.proofs.Common.{rules}
use Rattle.market.specs.States.{venue_is}
use Rattle.table_board.proofs.lists.find_line.Goals as goal

pub returns : goal.returns
returns c = c.find.ensures.found (venue_is c.args.venue) (λ x r k. search rules)

use Rattle.std.proofs.Common.{sym, rules, tests, ◌∙◌}
use Rattle.std.proofs.lemmas.Iterator.Adapters.{option_map_id}
use Rattle.std.proofs.lemmas.Iterator.Consumers.{YieldsList-from_first}
use Rattle.std.proofs.lemmas.Iterator.Search.{find_from_yields_List}
use Rattle.market.specs.States.{venue_is}
use Rattle.board.proofs.looks.line_of.Goals as goal

pub returns : goal.returns
returns g c =
    sym (option_map_id c.find.result) ∙ find_from_yields_List (venue_is c.args.venue) _ _ _ c.find.ensures.ran (YieldsList-from_first (λ q. q) (λ rest. rest) _ c.lines.ensures) (λ x b q k. search (rules, tests))

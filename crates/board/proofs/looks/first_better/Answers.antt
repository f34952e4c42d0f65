use Rattle.std.proofs.Common.{◌≡◌, false, rules, sym, ◌∙◌}
use Rattle.std.specs.Option.{option_map_or}
use Rattle.market.specs.Sides.{ahead}
use Rattle.board.proofs.Firsts.{first_says}
use Rattle.board.proofs.looks.first_better.Goals as goal

pub returns : goal.returns
returns g c =
    let e : c.is_some_and.result ≡ option_map_or (λ q. ahead c.args.side q.price c.args.price) c.first_line.result false = search rules in
    rw c.first_line.ensures at e ∙ sym (first_says c.args.side c.args.price _ (g.met.B.Board.ranked c.args.board.now c.args.side))

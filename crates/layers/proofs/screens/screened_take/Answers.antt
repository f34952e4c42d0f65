use Rattle.std.proofs.Common.{◌≡◌, true, false, rules}
use Rattle.market.specs.States.{quotes_of, quoted}
use Rattle.board.specs.Lines.{of_venue}
use Rattle.layers.specs.Shows.{is_shown}
use Rattle.layers.proofs.Sifting.{shown_line, taken_shown, below_shown, taken_hidden, below_hidden}
use Rattle.layers.proofs.screens.screened_take.Goals as goal

pub returns-then-is_some_and : goal.returns-then-is_some_and
returns-then-is_some_and g c =
    let p = g.S.Screen.passes c.args.screen.now in
    let sizeless = g.met.S.Screen.sizeless c.args.screen.now in
    let b = quotes_of (g.B.Board.bids c.args.board.now) (g.B.Board.offers c.args.board.now) in
    let venues = g.met.B.Board.venues c.args.board.now c.args.side in
    let shown : is_shown p (of_venue c.args.venue (quoted c.args.side b)) ≡ true = search rules in
    let line = shown_line p (of_venue c.args.venue (quoted c.args.side b)) shown in
    record {
      shown = taken_shown p sizeless c.args.side c.args.venue c.args.shares b venues _ _ shown c.take.ensures;
      below = below_shown p sizeless c.args.side c.args.venue c.args.shares b venues line.0 line.1 line.2 _ _ c.take.ensures;
    }

pub returns-else-is_some_and : goal.returns-else-is_some_and
returns-else-is_some_and g c =
    let p = g.S.Screen.passes c.args.screen.now in
    let sizeless = g.met.S.Screen.sizeless c.args.screen.now in
    let b = quotes_of (g.B.Board.bids c.args.board.now) (g.B.Board.offers c.args.board.now) in
    let venues = g.met.B.Board.venues c.args.board.now c.args.side in
    let hidden : is_shown p (of_venue c.args.venue (quoted c.args.side b)) ≡ false = search rules in
    record {
      shown = taken_hidden p sizeless c.args.side c.args.venue c.args.shares b venues (Unit {0}) hidden;
      below = below_hidden p sizeless c.args.side c.args.venue c.args.shares b venues hidden (Unit {0});
    }

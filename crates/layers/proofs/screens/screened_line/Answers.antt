use Rattle.std.proofs.Common.{◌≡◌, Bool, cond, List, [], ◌∷◌, rules, tests, sym, refl, ap, ◌∙◌}
use Rattle.std.specs.Iterator.{YieldsFirst}
use Rattle.std.specs.List.{filter, slice_get}
use Rattle.std.proofs.lemmas.Iterator.{YieldsList}
use Rattle.std.proofs.lemmas.Iterator.Adapters.{option_map_id}
use Rattle.std.proofs.lemmas.Iterator.Consumers.{YieldsList-from_first, YieldsList-from_filter, YieldsList-at, nth_from_yields_List}
use Rattle.ranking.specs.Place.{those}
use Rattle.market.specs.States.{quotes_of, quoted}
use Rattle.layers.proofs.screens.screened_line.Goals as goal

-- those that pass are what `filter` gives
those_are : {X : Type 0} (p : X → Bool) (xs : List X) → filter p xs ≡ those p xs
those_are p [] = refl
those_are p (x ∷ xs) = ap (λ ys. cond (p x) (x ∷ ys) ys) (those_are p xs)

pub returns : goal.returns
returns g c =
    let p = g.S.Screen.passes c.args.screen.now in
    let xs = quoted c.args.side (quotes_of (g.B.Board.bids c.args.board.now) (g.B.Board.offers c.args.board.now)) in
    let below : YieldsList (YieldsFirst (λ rest. rest)) (λ q. q) c.lines.result xs = YieldsList-from_first (λ q. q) (λ rest. rest) xs c.lines.ensures in
    let found = nth_from_yields_List c.nth.result c.nth.new.self c.args.place c.nth.ensures.ran (YieldsList-from_filter _ p (YieldsList-at c.filter.ensures.source below) c.filter.ensures.closure (λ x b q k. search (rules, tests))) in
    sym (option_map_id c.nth.result) ∙ found ∙ ap (λ qs. slice_get qs c.args.place) (those_are p xs)

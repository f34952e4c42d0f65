use Rattle.std.proofs.Common.{◌≡◌, ◌<◌, length, sym, ap, ◌∙◌, subst}
use Rattle.ranking.specs.Lists.{lines_of}
use Rattle.market.specs.States.{quoted}
use Rattle.market.specs.Quotes.{without, requoted}
use Rattle.table_board.specs.Quoting.{lists_of, quotation_refusal}
use Rattle.table_board.proofs.Keeping.{list_of, shown_with, accepted, room, showable_requoted}
use Rattle.table_board.proofs.table.TableBoard.quote.Goals as goal

pub requote-requires : goal.requote-requires
requote-requires c =
    let d = c.args.side in
    let b = c.args.self.now in
    let there : lines_of c.on_mut.result.now ≡ quoted d (lists_of b) = ap lines_of c.on_mut.ensures.value ∙ list_of d b in
    let none = accepted (quotation_refusal c.args.q) (c.in_ok-check_quote.ensures) in
    subst (λ xs. length (without c.args.q.venue xs) < 64) (sym there) (room c.args.q none d b)

pub invariant_of-self : goal.invariant_of-self
invariant_of-self c =
    let d = c.args.side in
    let b = c.args.self.now in
    let there : lines_of c.on_mut.result.now ≡ quoted d (lists_of b) = ap lines_of c.on_mut.ensures.value ∙ list_of d b in
    let none = accepted (quotation_refusal c.args.q) (c.in_ok-check_quote.ensures) in
    record { shown = shown_with d b c.requote.new.lines _ (c.requote.ensures ∙ ap (requoted d c.args.q) there) (showable_requoted c.args.q none d b) }

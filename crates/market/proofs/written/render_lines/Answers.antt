use Rattle.std.proofs.Common.{ap, ◌∙◌}
use Rattle.std.proofs.lemmas.List.{take_all}
use Rattle.market.specs.Written.{lines_under}
use Rattle.market.proofs.written.render_lines.Goals as goal

pub returns : goal.returns
returns g c line known = c.loop-item.invariant line known ∙ ap (λ zs. lines_under c.args.names.now line zs) (take_all c.loop-item.item-index c.args.items.now c.loop-item-test.false)

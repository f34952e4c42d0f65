use Rattle.std.proofs.Common.{rules}
use Rattle.std.proofs.lemmas.Iterator.{YieldsList-from_slice, YieldsList-from_map}
use Rattle.std.proofs.lemmas.Iterator.Consumers.{YieldsList-from_copied}
use Rattle.market.specs.Sheets.{line}
use Rattle.resting.proofs.Sheets.{same_from_eq, decided_on}
use Rattle.market.specs.States.{on}
use Rattle.resting.specs.Orders.{state_of}
use Rattle.resting.proofs.Sounds.{on_side}
use Rattle.resting.proofs.orders.OpenOrders.has_the_side_of.Goals as goal

pub returns-then-ours-theirs : goal.returns-then-ours-theirs
returns-then-ours-theirs c =
    let d = c.args.side in
    let s = state_of c.args.self.now in
    let z = state_of c.args.other.now in
    let ours = on_side d c.args.self.now c.on.result.now c.on.ensures in
    let theirs = on_side d c.args.other.now c.on-2.result.now c.on-2.ensures in
    decided_on d s z c.eq.result (same_from_eq c.map-then-ours-theirs.result c.eq.result c.eq.ensures.ran
    (YieldsList-from_map _ line (YieldsList-from_copied (YieldsList-from_slice (on d s) cc)) c.map.ensures.closure (λ x r q k. search rules))
    (YieldsList-from_map _ line (YieldsList-from_copied (YieldsList-from_slice (on d z) cc)) c.map-then-ours-theirs.ensures.closure (λ x r q k. search rules))
    (λ x y. search rules))

use Rattle.std.proofs.Common.{get_or, ap, ◌∙◌}
use Rattle.std.specs.List.{remove}
use Rattle.resting.specs.Orders.{state_of}
use Rattle.resting.proofs.Sounds.{on_side, sound_put, sound_removed, few_on, no_order}
use Rattle.resting.proofs.orders.OpenOrders.take_out.Goals as goal

pub invariant_of-self : goal.invariant_of-self
invariant_of-self c =
    let d = c.args.at.side in
    let o = c.args.self.now in
    let i = c.args.at.place in
    let there = on_side d o c.on_mut.result.now c.on_mut.ensures.value in
    let lines = c.remove.ensures.lines ∙ ap (λ xs. remove xs i) there in
    record { sound = sound_put d o c.remove.new.self _ lines (sound_removed d i no_order (state_of o) c.requires o.sound) }

pub returns-clause-few : goal.returns-clause-few
returns-clause-few c =
    let d = c.args.at.side in
    let o = c.args.self.now in
    let there = on_side d o c.on_mut.result.now c.on_mut.ensures.value in
    few_on d o c.args.at.place c.remove.result c.requires (c.remove.ensures.value _ ∙ ap (λ xs. get_or xs c.args.at.place c.remove.result) there)

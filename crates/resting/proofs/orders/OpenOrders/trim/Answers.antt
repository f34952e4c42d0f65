use Rattle.std.proofs.Common.{ap, ◌∙◌}
use Rattle.market.specs.States.{on, put}
use Rattle.resting.specs.Sides.{trim_at}
use Rattle.resting.specs.Orders.{state_of}
use Rattle.resting.proofs.Places.{trim_is}
use Rattle.resting.proofs.Sounds.{on_side, put_side, sound_put, sound_trim, no_order}
use Rattle.resting.proofs.orders.OpenOrders.trim.Goals as goal

pub invariant_of-self : goal.invariant_of-self
invariant_of-self c =
    let d = c.args.at.side in
    let o = c.args.self.now in
    let i = c.args.at.place in
    let there = on_side d o c.on_mut.result.now c.on_mut.ensures.value in
    let lines = c.trim_line.ensures ∙ ap (trim_at i c.args.k) there in
    record { sound = sound_put d o c.trim_line.new.list _ lines (sound_trim d i c.args.k no_order (state_of o) c.requires.place c.requires.few o.sound) }

pub returns : goal.returns
returns c x =
    let d = c.args.at.side in
    let o = c.args.self.now in
    let i = c.args.at.place in
    let there = on_side d o c.on_mut.result.now c.on_mut.ensures.value in
    let lines = c.trim_line.ensures ∙ ap (trim_at i c.args.k) there ∙ trim_is (on d (state_of o)) i c.args.k x c.requires.place in
    put_side d o c.trim_line.new.list ∙ ap (λ xs. put d xs (state_of o)) lines

use Rattle.std.proofs.Common.{◌≡◌, IfSome, refl, rules}
use Rattle.market.specs.Orders.{returned}
use Rattle.std.proofs.lemmas.Bool.{leb-true}
use Rattle.std.proofs.lemmas.Result.{err_from_is_err_and}
use Rattle.market.specs.declared.types.Call.TheVariants.{Reply}
use Rattle.market.specs.declared.types.Refusal.TheVariants.{ReplyTooLarge}
use Rattle.market.specs.Calls.{ready, ended}
use Rattle.book.specs.Outcomes.{book_state}
use Rattle.book.proofs.Hands.{able_left}
use Rattle.book.proofs.Verdicts.{held}
use Rattle.book.proofs.Calls.{owned, found_route, reply_large, late_large, came_back, reply_done, late_done}
use Rattle.book.proofs.book.Book.reply_by.Goals as goal

pub returns-in_err-unless : goal.returns-in_err-unless
returns-in_err-unless c =
    let a = c.args in
    let s = book_state a.self.now in
    let x = c.route_at-route.result in
    let f = found_route a.number s _ _ _ c.in_ok-place.ensures.value c.find_route.ensures in
    let e = c.route_at-route.ensures x in
    let r = err_from_is_err_and c.from_residual-in_err-unless.result c.from_residual-in_err-unless.ensures.1 in
    rw (r.1, r.2)
    (record {
      ready = λ q. owned a.self.now _ a.bears q (Reply a.filled a.number) ready _ c.in_ok-check_pass.ensures refl (reply_large s q a.filled a.number c.in_ok-place.place x f e _ c.in_err-unless.ensures);
      ended = λ q. owned a.self.now _ a.bears q (Reply a.filled a.number) ended _ c.in_ok-check_pass.ensures refl (late_large s q a.filled a.number c.in_ok-place.place x f e _ c.in_err-unless.ensures);
      able = tt;
    })

pub returns : goal.returns
returns c =
    let a = c.args in
    let s = book_state a.self.now in
    let x = c.route_at-route.result in
    let f = found_route a.number s _ _ _ c.in_ok-place.ensures.value c.find_route.ensures in
    let e = c.route_at-route.ensures x in
    let some : IfSome c.then-left.result (λ y. y ≡ returned a.filled x) = search rules in
    let l = came_back a.filled x _ c.then-left.ensures.variant some in
    record {
      ready = λ q. owned a.self.now _ a.bears q (Reply a.filled a.number) ready _ c.in_ok-check_pass.ensures refl (reply_done s q a.filled a.number c.in_ok-place.place x f e c.in_ok-unless.ensures _ _ c.replied.ensures c.end_route.ensures.state _ l);
      ended = λ q. owned a.self.now _ a.bears q (Reply a.filled a.number) ended _ c.in_ok-check_pass.ensures refl (late_done s q a.filled a.number c.in_ok-place.place x f e c.in_ok-unless.ensures _ _ c.replied.ensures c.end_route.ensures.state _ l);
      able = able_left s a.filled c.in_ok-place.place x _ _ f.0 e (leb-true _ _ (held _ ReplyTooLarge c.in_ok-unless.ensures)) refl l a.self.now.orders.sound;
    }

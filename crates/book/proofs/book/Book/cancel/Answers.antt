use Rattle.market.specs.declared.types.Call.TheVariants.{Cancel}
use Rattle.market.specs.declared.types.Refusal.TheVariants.{User}
use Rattle.market.specs.Calls.{ready}
use Rattle.book.specs.Outcomes.{book_state}
use Rattle.book.proofs.Verdicts.{holds_as}
use Rattle.book.proofs.Calls.{owned, located, cancel_done}
use Rattle.book.proofs.book.Book.cancel.Goals as goal

pub returns : goal.returns
returns c =
    let a = c.args in
    let s = book_state a.self.now in
    let m = c.take_off.ensures in
    λ q. owned a.self.now _ a.pass.now.book q (Cancel a.user a.number) ready _ c.in_ok-check_pass.ensures m.0 (cancel_done s q a.user a.number c.in_ok-at.at (located a.user a.number s _ _ _ c.in_ok-at.ensures.value c.find.ensures) _ _ (holds_as _ _ User c.in_ok-unless.ensures c.is_legal_user.ensures) m.1)

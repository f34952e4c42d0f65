use Rattle.market.specs.declared.types.Call.TheVariants.{Expire}
use Rattle.market.specs.Calls.{ended}
use Rattle.book.specs.Outcomes.{book_state}
use Rattle.book.proofs.Calls.{owned, expire_done}
use Rattle.book.proofs.book.Book.expire.Goals as goal

pub returns : goal.returns
returns c =
    let a = c.args in
    let m = c.take_off.ensures in
    λ q. owned a.self.now _ a.pass.now.book q Expire ended _ c.in_ok-check_pass.ensures m.0 (expire_done c.in_ok-side.side _ _ (book_state a.self.now) _ q _ c.in_ok-side.ensures.value c.expiring_side.ensures m.1)

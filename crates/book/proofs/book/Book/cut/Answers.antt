use Rattle.std.proofs.Common.{ℕ, ◌<◌, sym, refl, ap, ◌∙◌, subst}
use Rattle.std.proofs.lemmas.Bool.{ltb-true}
use Rattle.std.proofs.lemmas.Result.{err_from_is_err_and}
use Rattle.market.specs.declared.types.Call.TheVariants.{Cut}
use Rattle.market.specs.declared.types.Refusal.TheVariants.{User, Size, CutTooLarge}
use Rattle.market.specs.Orders.{total}
use Rattle.market.specs.States.{on}
use Rattle.market.specs.Calls.{ready}
use Rattle.resting.proofs.Places.{total_is}
use Rattle.book.specs.Outcomes.{book_state}
use Rattle.book.proofs.Verdicts.{held, holds_as}
use Rattle.book.proofs.Calls.{owned, located, cut_large, cut_done}
use Rattle.book.proofs.book.Book.cut.Goals as goal

pub returns-in_err-unless-3 : goal.returns-in_err-unless-3
returns-in_err-unless-3 c =
    let a = c.args in
    let s = book_state a.self.now in
    let x = c.line_at-line.result in
    let r = err_from_is_err_and c.from_residual-in_err-unless-3.result c.from_residual-in_err-unless-3.ensures.1 in
    rw (r.1, r.2)
    (λ q. owned a.self.now _ a.pass.now.book q (Cut a.size a.user a.number) ready _ c.in_ok-check_pass.ensures refl
    (cut_large s q a.user a.number c.in_ok-at.at (located a.user a.number s _ _ _ c.in_ok-at.ensures.value c.find.ensures) a.size x (holds_as _ _ User c.in_ok-unless.ensures c.is_legal_user.ensures) (holds_as _ _ Size c.in_ok-unless-2.ensures c.is_legal_size.ensures) (c.line_at-line.ensures.value x) _ c.in_err-unless-3.ensures))

pub trim-requires-clause-few : goal.trim-requires-clause-few
trim-requires-clause-few c =
    let a = c.args in
    let s = book_state a.self.now in
    let at = c.in_ok-at.at in
    let x = c.line_at-line.result in
    let h = (located a.user a.number s _ _ _ c.in_ok-at.ensures.value c.find.ensures).0 in
    subst (λ (n : ℕ). a.size < n) (sym (total_is (on at.side s) at.place x h ∙ ap total (sym (c.line_at-line.ensures.value x)))) (ltb-true _ _ (held _ CutTooLarge c.in_ok-unless-3.ensures))

pub returns : goal.returns
returns c =
    let a = c.args in
    let s = book_state a.self.now in
    let x = c.line_at-line.result in
    λ q. owned a.self.now _ a.pass.now.book q (Cut a.size a.user a.number) ready _ c.in_ok-check_pass.ensures refl
    (cut_done s q a.user a.number c.in_ok-at.at (located a.user a.number s _ _ _ c.in_ok-at.ensures.value c.find.ensures) a.size x (holds_as _ _ User c.in_ok-unless.ensures c.is_legal_user.ensures) (holds_as _ _ Size c.in_ok-unless-2.ensures c.is_legal_size.ensures) (c.line_at-line.ensures.value x) _ _ c.in_ok-unless-3.ensures c.taken_off.ensures (c.trim.ensures x))

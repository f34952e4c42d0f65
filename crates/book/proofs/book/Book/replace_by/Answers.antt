use Rattle.std.proofs.Common.{sym, refl, ap, ◌∙◌}
use Rattle.std.proofs.lemmas.Result.{err_from_is_err_and}
use Rattle.market.specs.declared.types.Call.TheVariants.{Replace}
use Rattle.market.specs.Calls.{ready}
use Rattle.resting.proofs.Sounds.{no_order}
use Rattle.book.specs.Outcomes.{book_state}
use Rattle.book.proofs.Verdicts.{numbers}
use Rattle.book.proofs.Calls.{owned, located, replace_used, replace_done}
use Rattle.book.proofs.book.Book.replace_by.Goals as goal

pub returns-in_err-check_numbers : goal.returns-in_err-check_numbers
returns-in_err-check_numbers c =
    let a = c.args in
    let s = book_state a.self.now in
    let r = err_from_is_err_and c.from_residual-in_err-check_numbers.result c.from_residual-in_err-check_numbers.ensures.1 in
    let f = located a.t.user a.number s _ _ _ c.in_ok-at.ensures.value c.find.ensures in
    rw (r.1, r.2)
    (λ q. owned a.self.now _ a.pass.now.book q (Replace a.t a.number) ready _ c.in_ok-check_pass.ensures refl (replace_used s q a.t a.number c.in_ok-at.at f c.in_ok-check_terms.ensures _ c.in_err-check_numbers.ensures))

pub admit-requires : goal.admit-requires
admit-requires c =
    let s = book_state c.args.self.now in
    λ z. numbers s c.in_ok-check_numbers.ensures (sym (ap (λ w. w.next) (c.take_off-off.ensures.1 no_order).1) ∙ z)

pub returns : goal.returns
returns c =
    let a = c.args in
    let s = book_state a.self.now in
    let f = located a.t.user a.number s _ _ _ c.in_ok-at.ensures.value c.find.ensures in
    let m = c.take_off-off.ensures in
    let n = c.admit.ensures in
    λ q. owned a.self.now _ a.pass.now.book q (Replace a.t a.number) ready _ c.in_ok-check_pass.ensures (n.0 ∙ m.0)
    (replace_done s q a.t a.number c.in_ok-at.at f c.in_ok-check_terms.ensures c.admit.result _ _ _ c.in_ok-check_numbers.ensures m.1 n.1 n.2 n.3)

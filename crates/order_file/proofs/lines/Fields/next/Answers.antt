use Rattle.std.proofs.Common.{refl, ◌∙◌, subst}
use Rattle.std.proofs.lemmas.Result.{err_from_is_err_and}
use Rattle.order_file.proofs.Cuts.{Heads, heads, fault_of}
use Rattle.order_file.proofs.lines.Fields.next.Goals as goal

pub returns-in_err-bytes : goal.returns-in_err-bytes
returns-in_err-bytes c =
    let r = err_from_is_err_and c.from_residual.result c.from_residual.ensures.1 in
    let bs = c.args.self.now.rest.now in
    let h = subst (Heads bs) c.in_err-bytes.ensures.ok_part (heads bs c.split_once.result c.split_once.ensures) in
    rw (r.1, r.2) (h, fault_of c.split_once.result _ _ c.in_err-bytes.ensures.value ∙ c.of_line.ensures, refl)

pub returns : goal.returns
returns c =
    let bs = c.args.self.now.rest.now in
    (subst (Heads bs) c.in_ok-bytes.ensures.ok_part (heads bs c.split_once.result c.split_once.ensures), refl, refl)

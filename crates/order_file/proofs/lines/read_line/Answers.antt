use Rattle.std.proofs.Common.{refl}
use Rattle.std.proofs.lemmas.Result.{err_from_is_err_and}
use Rattle.order_file.specs.Lines.{values}
use Rattle.order_file.proofs.Strays.{by_word, no_verb, not_all}
use Rattle.order_file.proofs.lines.read_line.Goals as goal

pub returns-in_err-row : goal.returns-in_err-row
returns-in_err-row c =
    let r = err_from_is_err_and c.from_residual.result c.from_residual.ensures.1 in
    let e = c.in_err-row.ensures in
    let d = not_all c.args.bytes.now c.args.line _ e.0 e.1 in
    rw (r.1, r.2) (record { accepts = d.accepts; fault = d.fault })

pub returns-in_err-verb : goal.returns-in_err-verb
returns-in_err-verb c =
    let r = err_from_is_err_and c.from_residual-in_err-verb.result c.from_residual-in_err-verb.ensures.1 in
    let w = c.in_ok-row.ensures in
    let e = c.in_err-verb.ensures in
    let d = no_verb c.args.bytes.now c.args.line c.in_ok-row.row.call (values c.in_ok-row.row) _ w.0 refl w.1.0 e.0 e.1 in
    rw (r.1, r.2) (record { accepts = d.accepts; fault = d.fault })

pub returns : goal.returns
returns c =
    let w = c.in_ok-row.ensures in
    let d = by_word c.in_ok-verb.verb c.args.bytes.now c.args.line c.in_ok-row.row.call (values c.in_ok-row.row) c.by_verb.result
    w.0 refl w.1.1 c.in_ok-verb.ensures.0 c.by_verb.ensures in
    record { accepts = d.accepts; fault = d.fault }

use Rattle.std.proofs.Common.{◌≡◌, ◌∷◌, Some, length, refl, ap, arith}
use Rattle.order_file.specs.Lines.{cut}
use Rattle.order_file.proofs.Cuts.{cut_none, cut_some, heads}
use Rattle.order_file.proofs.lines.Fields.last.Goals as goal

pub returns-in-Some : goal.returns-in-Some
returns-in-Some c =
    let bs = c.args.self.rest.now in
    let l : length (cut bs) ≡ length (c.in-Some.field-0.0.now ∷ cut c.in-Some.field-0.1.now) = ap length (heads bs (Some c.in-Some.field-0) c.in-Some.ensures) in
    (omega (arith, l, cut_some c.in-Some.field-0.1.now), c.of_line.ensures)

pub returns-in-None : goal.returns-in-None
returns-in-None c = (cut_none c.args.self.rest.now c.in-None.ensures, refl)

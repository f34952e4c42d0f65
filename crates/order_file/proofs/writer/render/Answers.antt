use Rattle.std.proofs.Common.{refl}
use Rattle.std.proofs.lemmas.Result.{IfOk-weaker}
use Rattle.order_file.specs.Files.{names}
use Rattle.order_file.specs.Instructions.{written}
use Rattle.order_file.proofs.writer.render.Goals as goal

pub returns : goal.returns
unfolding names
returns c = IfOk-weaker c.render_lines.result _ _ (λ s lines. lines written (λ i. refl)) c.render_lines.ensures

use Rattle.std.proofs.Common.{[], ◌∷◌, ◌++◌, sym, refl, ap, ◌∙◌}
use Rattle.std.proofs.lemmas.Result.{IfOk-weaker}
use Rattle.std.proofs.lemmas.List.Folds.{flat_map-map}
use Rattle.replay.specs.Records.{told_of, told_text}
use Rattle.replay.specs.Sessions.{report_names}
use Rattle.replay.proofs.day.render.Goals as goal

pub returns : goal.returns
unfolding report_names
returns c =
    let ends = ap (λ zs. (report_names ++ 10 ∷ []) ++ zs) (flat_map-map (λ t. told_text t ++ 10 ∷ []) told_of c.args.lines.now) in
    IfOk-weaker c.render_lines.result _ _ (λ s lines. lines (λ l. told_text (told_of l)) (λ l. refl) ∙ sym ends) c.render_lines.ensures

use Rattle.std.proofs.Common.{◌≡◌, ap, ◌∙◌, rules}
use Rattle.ranking.specs.Place.{place, in_rank}
use Rattle.ranking.proofs.Ranking.{place_in_rank, place_behind}
use Rattle.ranking.proofs.list.RankedList.insert.Goals as goal

pub returns : goal.returns
returns g c =
    let b = g.R.Rank.before c.args.by.now in
    let met = g.met.R.Rank in
    let by = c.args.by.now in
    let placed : c.insert.new.self.items ≡ place b c.args.x c.args.self.now.lines.items = search rules in
    record {
      lines = placed;
      behind = λ h. placed ∙ place_behind b (met.irreflexive by) (met.transitive by) (met.level by) c.args.x c.args.self.now.lines.items h;
      ranked = λ h. ap (in_rank b) placed ∙ place_in_rank b (met.irreflexive by) (met.transitive by) c.args.x c.args.self.now.lines.items h;
      most = search rules;
      still = search rules;
    }

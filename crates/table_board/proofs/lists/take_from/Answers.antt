use Rattle.std.proofs.Common.{◌≡◌, sym, refl, ap, ◌∙◌, subst, arith}
use Rattle.std.specs.List.{remove}
use Rattle.std.proofs.lemmas.Result.{err_from_is_err_and}
use Rattle.ranking.specs.Place.{Found}
use Rattle.market.specs.States.{venue_is}
use Rattle.market.specs.declared.types.Refusal.TheVariants.{NoSuchLine}
use Rattle.ranking.specs.Lists.{lines_of}
use Rattle.table_board.proofs.Finding.{none_of, some_of, no_size, as_it_was, its_size, all_taken, some_taken}
use Rattle.table_board.proofs.lists.take_from.Goals as goal
use Rattle.table_board.proofs.lists.take_from.Goals.{then-shares-eq0-via-then-shares-eq0, then-shares-eq0-via-else-shares-eq0+then-line-shares}

pub returns-in_err-place : goal.returns-in_err-place
returns-in_err-place c =
    let w = none_of c.find_line.result NoSuchLine _ c.in_err-place.ensures.value in
    let r = err_from_is_err_and c.from_residual.result c.from_residual.ensures.1 in
    let none = no_size c.args.venue (lines_of c.args.lines.now) (subst (Found (venue_is c.args.venue) (lines_of c.args.lines.now)) w.0 c.find_line.ensures) in
    rw (r.1, r.2) (λ some enough. omega (arith, none), w.1, refl)

pub returns-then-shares-eq0 : goal.returns-then-shares-eq0
returns-then-shares-eq0 c =
    let xs = lines_of c.args.lines.now in
    let found = subst (Found (venue_is c.args.venue) (lines_of c.args.lines.now)) (some_of c.find_line.result NoSuchLine c.in_ok-place.place c.in_ok-place.ensures.value) c.find_line.ensures in
    let x = c.line_mut-line.result.now in
    let same = as_it_was c.args.venue xs c.in_ok-place.place found.0 found.1 x c.line_mut-line.ensures.value in
    let size = its_size c.args.venue xs c.in_ok-place.place found.0 found.1 x c.line_mut-line.ensures.value in
    elim c.then-shares-eq0.branch [
      | then-shares-eq0-via-then-shares-eq0 w ↦ (λ some enough. omega (arith, w.if-shares-eq0.true), refl, ap lines_of w.lines-is ∙ same)
      | then-shares-eq0-via-else-shares-eq0+then-line-shares w ↦ (λ some enough. omega (arith, size, w.if-line-shares.true), refl, ap lines_of w.lines-is ∙ same)
    ]

pub returns-then-shares-line : goal.returns-then-shares-line
returns-then-shares-line c =
    let xs = lines_of c.args.lines.now in
    let found = subst (Found (venue_is c.args.venue) (lines_of c.args.lines.now)) (some_of c.find_line.result NoSuchLine c.in_ok-place.place c.in_ok-place.ensures.value) c.find_line.ensures in
    let x = c.line_mut-line.result.now in
    let size = its_size c.args.venue xs c.in_ok-place.place found.0 found.1 x c.line_mut-line.ensures.value in
    (omega (arith, c.if-shares-eq0.false), omega (arith, size), sym (some_taken c.args.venue xs c.in_ok-place.place found.0 found.1 x c.line_mut-line.ensures.value c.args.shares (λ e. omega (arith, c.if-shares-line.true))))

pub returns-else-shares-line : goal.returns-else-shares-line
returns-else-shares-line c =
    let xs = lines_of c.args.lines.now in
    let i = c.in_ok-place.place in
    let found = subst (Found (venue_is c.args.venue) (lines_of c.args.lines.now)) (some_of c.find_line.result NoSuchLine c.in_ok-place.place c.in_ok-place.ensures.value) c.find_line.ensures in
    let x = c.line_mut-line.result.now in
    let same = as_it_was c.args.venue xs i found.0 found.1 x c.line_mut-line.ensures.value in
    let size = its_size c.args.venue xs i found.0 found.1 x c.line_mut-line.ensures.value in
    let all : x.size ≡ c.args.shares = omega (arith, c.if-shares-line.false, c.if-line-shares.false) in
    (omega (arith, c.if-shares-eq0.false), omega (arith, size), c.remove.ensures.lines ∙ ap (λ l. remove l i) same ∙ sym (all_taken c.args.venue xs i found.0 found.1 x c.line_mut-line.ensures.value c.args.shares all))

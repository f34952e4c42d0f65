use Rattle.std.proofs.Common.{◌≡◌, ℕ, ◌+◌, ◌≤◌, List, [], ◌∷◌, length, drop, Some, None, sym, ap, ◌∙◌, arith}
use Rattle.std.specs.List.{slice_get}
use Rattle.std.proofs.Math.ListN.{drop_of_length-le}
use Rattle.std.proofs.lemmas.List.{drop_more}
use Rattle.std.proofs.lemmas.Option.{slice_get_within, slice_get_cases, get_or_from_slice_get}
use Rattle.board.proofs.lines.LinesIterator.next.Goals as goal

-- what is left from a place on, by what stands there
one_left : {X : Type 0} (xs : List X) (i : ℕ) (x : X) → slice_get xs i ≡ Some x → drop i xs ≡ x ∷ drop (i + 1) xs
one_left xs i x e = drop_more xs i x (slice_get_within xs i x e) ∙ ap (λ y. y ∷ drop (i + 1) xs) (get_or_from_slice_get xs i x x e)

none_left : {X : Type 0} (xs : List X) (i : ℕ) → slice_get xs i ≡ None → drop i xs ≡ []
none_left xs i e = let past : length xs ≤ i = grind (arith, slice_get_cases) in drop_of_length-le xs past

pub returns-in_err-line-clause-steps : goal.returns-in_err-line-clause-steps
returns-in_err-line-clause-steps g c =
    let rest = sym c.self.view_is ∙ none_left _ c.self.inside.place (sym c.in_err-line.ensures) in
    rw c.from_residual.ensures (rest, rest)

pub overflow_add-self : goal.overflow_add-self
overflow_add-self g c =
    omega (arith, slice_get_within _ c.self.inside.place c.in_ok-line.line (sym c.in_ok-line.ensures), g.met.B.Board.few c.self.inside.board.now c.self.inside.side)

pub returns-clause-steps : goal.returns-clause-steps
returns-clause-steps g c = sym c.self.view_is ∙ one_left _ c.self.inside.place c.in_ok-line.line (sym c.in_ok-line.ensures)

pub returns-clause-goes : goal.returns-clause-goes
returns-clause-goes g c = rw (returns-clause-steps g c) (record { on = λ h. (tt, tt, omega arith); keeps = tt; rests = λ h. tt })

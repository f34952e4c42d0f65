-- The law of equal books: equal books answer alike, and two books are equal or a short string tells them apart.
use Rattle.std.proofs.Common.{ℕ, ◌+◌, ◌≤◌, Bool, true, false, length, Decides, refl, inl, inr, arith}
use Rattle.std.proofs.lemmas.Bool.{false≢true}
use Rattle.std.proofs.lemmas.List.{length-map}
use Rattle.market.specs.States.{State}
use Rattle.market.specs.Calls.{ready}
use Rattle.market.specs.Sheets.{Equal}
use Rattle.market.specs.Sound.{Sound}
use Rattle.laws.specs.Equal.{Differ, EqualOrToldApart, EqualExactly, Foretells, ToldExactly}
use Rattle.laws.proofs.Probes.{ask, asks, asks_playable}
use Rattle.laws.proofs.Sheets.{equal_answer_alike}
use Rattle.laws.proofs.Tell.{Told, told}

differ : (k k' : ℕ) (s s' : State) → k ≤ k' → Told k s ready s' ready → Differ k' s s'
differ k k' s s' l (cs, m, ne) = (asks cs, asks_playable cs, omega (arith, length-map cs ask), ne)

pub equal_or_told_apart : EqualOrToldApart
equal_or_told_apart s s' z z' u u' =
    elim (told s s' z z' u u') [ inl e ↦ inl e | inr w ↦ inr (differ (length s.buys + length s.sells + 3) _ s s' (omega arith) w) ]

pub equal_exactly_lem : EqualExactly
equal_exactly_lem s s' z z' u u' = (
  λ e ts _. equal_answer_alike s s' e ts,
  λ alike. elim (equal_or_told_apart s s' z z' u u') [ inl e ↦ e | inr w ↦ absurd (w.3 (alike w.0 w.1)) ],
)

-- the verdict of a comparison of two sound books
module _ (s s' : State) (z : Sound s) (z' : Sound s') where
  pub foretells : (r : Bool) → Decides r (Equal s s') → Foretells r s s'
  foretells true d = equal_answer_alike s s' (d.0 refl)
  foretells false d = λ u u'. elim (equal_or_told_apart s s' z z' u u') [ inl e ↦ absurd (false≢true (d.1 e)) | inr w ↦ w ]

  pub told_exactly : (r : Bool) → Decides r (Equal s s') → ToldExactly r s s'
  told_exactly r d u u' = (λ yes. (equal_exactly_lem s s' z z' u u').0 (d.0 yes), λ alike. d.1 ((equal_exactly_lem s s' z z' u u').1 alike))

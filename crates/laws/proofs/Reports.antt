-- What the reports of one kind, among those of a call, have in common.
use Rattle.std.proofs.Common.{◌≡◌, Bool, true, false, not, List, [], ◌∷◌, ap, ◌∙◌, subst, inl, inr}
use Rattle.std.proofs.lemmas.Bool.{both_ways, and_parts, not-true}
use Rattle.ranking.specs.Place.{every}
use Rattle.market.specs.declared.types.Report.{Report}
use Rattle.market.specs.declared.types.What.{What}
use Rattle.market.specs.declared.types.What.TheVariants.{In, Trade, Sent, Rest, Off, Back}
use Rattle.market.specs.Calls.{Says, reports, refused}
use Rattle.laws.specs.Strings.{Listed, Reported}

-- each report of a kind has the property
pub record Each (t : What → Bool) (P : Report → Type 0) (y : Says) : Type 0 where
  pub each : (x : Report) → Reported x y → t x.what ≡ true → P x

abbrev pub is_trade : What → Bool
is_trade (Trade n) = true
is_trade In = false
is_trade (Sent v) = false
is_trade (Rest held) = false
is_trade (Off why) = false
is_trade (Back unfilled v) = false

abbrev pub is_sent : What → Bool
is_sent (Sent v) = true
is_sent In = false
is_sent (Trade n) = false
is_sent (Rest held) = false
is_sent (Off why) = false
is_sent (Back unfilled v) = false

abbrev pub is_rest : What → Bool
is_rest (Rest held) = true
is_rest In = false
is_rest (Trade n) = false
is_rest (Sent v) = false
is_rest (Off why) = false
is_rest (Back unfilled v) = false

abbrev pub none_said : (What → Bool) → Says → Bool
none_said t (reports rs) = every (λ r. not (t r.what)) rs
none_said t (refused m) = true

none_among : (t : What → Bool) (rs : List Report) → every (λ r. not (t r.what)) rs ≡ true → (x : Report) → Listed x rs → t x.what ≡ true → ⊥
none_among t [] h x w e = w
none_among t (r ∷ rs) h x w e =
    let p = and_parts (not (t r.what)) (every (λ y. not (t y.what)) rs) h in
    elim w [ inl z ↦ both_ways (t r.what) (not-true (t r.what) p.0) (ap (λ (y : Report). t y.what) z ∙ e) | inr v ↦ none_among t rs p.1 x v e ]

-- no report of the kind
pub silent : (t : What → Bool) {P : Report → Type 0} {y : Says} → none_said t y ≡ true → Each t P y
silent t {y = reports rs} e = record { each = λ x w z. absurd (none_among t rs e x w z) }
silent t {y = refused m} e = record { each = λ x w z. absurd w }

-- one report
pub alone : {t : What → Bool} {P : Report → Type 0} (r : Report) → P r → Each t P (reports (r ∷ []))
alone {P = P} r h = record { each = λ x w z. elim w [ inl v ↦ subst P v h | inr v ↦ absurd v ] }

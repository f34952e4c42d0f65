-- The lists of a board: what may be shown there, what a take leaves, what a quote leaves.
use Rattle.std.specs.Prelude.{◌≡◌, ℕ, ◌-◌, ◌<◌, ◌≤◌, Bool, true, cond, not, ◌&&◌, List, [], ◌∷◌, Ok, Err, Result, ◌==◌}
use Rattle.ranking.specs.Place.{every, place, in_rank}
use Rattle.market.specs.declared.types.Side.{Side}
use Rattle.market.specs.declared.types.Side.TheVariants.{Buy, Sell}
use Rattle.market.specs.declared.types.Quotation.{Quotation}
use Rattle.market.specs.declared.types.Refusal.{Refusal}
use Rattle.market.specs.declared.types.Refusal.TheVariants.{NoSuchLine}
use Rattle.market.specs.Sides.{quotation_before}
use Rattle.market.specs.Legal.{legal_price, legal_size, legal_venue}
use Rattle.market.specs.States.{Quotes, quoted, put_quotes, venue_is}

abbrev pub quotation_legal : Quotation → Bool
quotation_legal q = legal_venue q.venue && (legal_price q.price && legal_size q.size)

-- at most one line for a venue
abbrev pub one_a_venue : List Quotation → Bool
one_a_venue [] = true
one_a_venue (q ∷ qs) = every (λ x. not (venue_is q.venue x)) qs && one_a_venue qs

-- a list that a board may show on a side
pub record Showable (d : Side) (qs : List Quotation) : Type 0 where
  pub ranked : in_rank (quotation_before d) qs ≡ true
  pub legal : every quotation_legal qs ≡ true
  pub venues : one_a_venue qs ≡ true

-- quotations that a board may show
abbrev pub Shown : Quotes → Type 0
Shown q = Showable Buy q.bids × Showable Sell q.offers

-- the size of a venue's line, or 0
abbrev pub size_at : ℕ → List Quotation → ℕ
size_at v [] = 0
size_at v (q ∷ qs) = cond (venue_is v q) q.size (size_at v qs)

abbrev pub resized : ℕ → Quotation → Quotation
resized n q = record { venue = q.venue; price = q.price; size = n }

-- the lines with a venue's lessened by n shares, and dropped where none is left
abbrev pub lessened : ℕ → ℕ → List Quotation → List Quotation
lessened v n [] = []
lessened v n (q ∷ qs) = cond (venue_is v q) (cond (q.size == n) qs (resized (q.size - n) q ∷ qs)) (q ∷ lessened v n qs)

-- the lines without a venue's
abbrev pub without : ℕ → List Quotation → List Quotation
without v [] = []
without v (q ∷ qs) = cond (venue_is v q) qs (q ∷ without v qs)

-- the lines once a venue has quoted: its line before is gone, and one of size 0 is none
abbrev pub requoted : Side → Quotation → List Quotation → List Quotation
requoted d q qs = cond (q.size == 0) (without q.venue qs) (place (quotation_before d) q (without q.venue qs))

-- take: the venue's line has that many shares and is lessened, the rest of both lists stays; else refusal 12 and both stay
abbrev pub Taken : {U : Type 0} → Side → ℕ → ℕ → Quotes → Quotes → Result U Refusal → Type 0
Taken d v n q q' (Ok u) = (0 < n) × (n ≤ size_at v (quoted d q)) × (q' ≡ put_quotes d (lessened v n (quoted d q)) q)
Taken d v n q q' (Err e) = (0 < n → n ≤ size_at v (quoted d q) → ⊥) × (e ≡ NoSuchLine) × (q' ≡ q)

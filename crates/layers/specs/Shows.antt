-- Which lines a layer shows, and what its calls do.
use Rattle.std.specs.Prelude.{◌≡◌, ℕ, ◌-◌, ◌^◌, Bool, true, false, not, ◌&&◌, ◌||◌, Some, None, Ok, Err, MatchBool, Option, Result, ◌==◌, nat_le}
use Rattle.std.specs.Int.{bit_at}
use Rattle.market.specs.declared.types.Side.{Side}
use Rattle.market.specs.declared.types.Quotation.{Quotation}
use Rattle.market.specs.declared.types.Refusal.{Refusal}
use Rattle.market.specs.declared.types.Refusal.TheVariants.{Venue, NoSuchLine}
use Rattle.market.specs.Legal.{legal_venue}
use Rattle.market.specs.States.{Quotes, quoted}
use Rattle.market.specs.Quotes.{Taken}
use Rattle.board.specs.Lines.{of_venue}
use Rattle.layers.specs.declared.band.Prices.{Prices}

-- the mark of venue v is bit v - 1 of the word
abbrev pub marked : ℕ → ℕ → Bool
marked w v = legal_venue v && bit_at w (v - 1) == 1

-- the bit of a venue's mark:
-- 1. the word that has it alone
-- 2. the venue is not from 1 to 64: refusal 11
abbrev pub BitOf : ℕ → Result ℕ Refusal → Type 0
BitOf v (Ok bit) = (legal_venue v ≡ true) × (bit ≡ 2 ^ (v - 1))
BitOf v (Err why) = (legal_venue v ≡ false) × (why ≡ Venue)

-- self-help shows the lines of venues that are not marked
abbrev pub unmarked : ℕ → Quotation → Bool
unmarked w q = not (marked w q.venue)

-- a band shows the lines with a price from low to high
abbrev pub in_band : Prices → Quotation → Bool
in_band band q = nat_le band.low q.price && nat_le q.price band.high

-- declare:
-- 1. the venue is marked, and every other mark is as it was
-- 2. the venue is not from 1 to 64: refusal 11, and the marks stay
abbrev pub Marked : {U : Type 0} → ℕ → ℕ → ℕ → Result U Refusal → Type 0
Marked v w w' (Ok u) = (legal_venue v ≡ true) × ((x : ℕ) → marked w' x ≡ (x == v || marked w x))
Marked v w w' (Err why) = (legal_venue v ≡ false) × (why ≡ Venue) × (w' ≡ w)

-- revoke:
-- 1. the venue is not marked, and every other mark is as it was
-- 2. the venue is not from 1 to 64: refusal 11, and the marks stay
abbrev pub Unmarked : {U : Type 0} → ℕ → ℕ → ℕ → Result U Refusal → Type 0
Unmarked v w w' (Ok u) = (legal_venue v ≡ true) × ((x : ℕ) → marked w' x ≡ (not (x == v) && marked w x))
Unmarked v w w' (Err why) = (legal_venue v ≡ false) × (why ≡ Venue) × (w' ≡ w)

-- a line is there, and is shown
abbrev pub is_shown : (Quotation → Bool) → Option Quotation → Bool
is_shown p None = false
is_shown p (Some q) = p q

-- take on a layer, to the board below:
-- 1. the venue's line is shown: what the board below answers
-- 2. it is hidden, or there is none: refusal 12, and the board below stays
abbrev pub TakenBelow : {U : Type 0} → (Quotation → Bool) → Side → ℕ → ℕ → Quotes → Quotes → Result U Refusal → Type 0
TakenBelow p d v n q q' r = MatchBool (is_shown p (of_venue v (quoted d q))) (Taken d v n q q' r) ((r ≡ Err NoSuchLine) × (q' ≡ q))

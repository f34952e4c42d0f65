-- Sixty-four venues at one line each: a side shows at most sixty-four lines.
use Rattle.std.proofs.Common.{◌≡◌, ℕ, zero, suc, ◌^◌, ◌<◌, ◌≤◌, Bool, true, ◌&&◌, leb, List, [], ◌∷◌, length, refl, arith}
use Rattle.std.proofs.lemmas.Bool.Decides.{nat_tests}
use Rattle.ranking.specs.Place.{every}
use Rattle.market.specs.declared.types.Quotation.{Quotation}
use Rattle.market.specs.Legal.{legal_venue}
use Rattle.market.specs.Quotes.{quotation_legal, one_a_venue, without}
use Rattle.board.proofs.Dropping.{lacking, length_without, every_without, venues_without, lacking_without}

-- the venue is one of the first n
abbrev up_to : ℕ → Quotation → Bool
up_to n q = leb 1 q.venue && leb q.venue n

-- none of the first n + 1, and none of venue n + 1
up_to_less : (n : ℕ) (xs : List Quotation) → every (up_to (suc n)) xs ≡ true → lacking (suc n) xs ≡ true → every (up_to n) xs ≡ true
up_to_less n [] h k = refl
up_to_less n (x ∷ xs) h k = let rest = up_to_less n xs in grind (arith, nat_tests)

at_most : (n : ℕ) (xs : List Quotation) → every (up_to n) xs ≡ true → one_a_venue xs ≡ true → length xs ≤ n
at_most zero [] h k = omega arith
at_most zero (x ∷ xs) h k = grind (arith, nat_tests)
at_most (suc n) xs h k =
    let rest = at_most n (without (suc n) xs) (up_to_less n (without (suc n) xs) (every_without (suc n) (up_to (suc n)) xs h) (lacking_without (suc n) xs k)) (venues_without (suc n) xs k) in
    omega (arith, rest, length_without (suc n) xs)

legal_venues : (xs : List Quotation) → every quotation_legal xs ≡ true → every (up_to 64) xs ≡ true
legal_venues [] h = refl
legal_venues (x ∷ xs) h = let rest = legal_venues xs in grind (arith, nat_tests)

pub at_most_64 : (xs : List Quotation) → every quotation_legal xs ≡ true → one_a_venue xs ≡ true → length xs ≤ 64
at_most_64 xs h k = at_most 64 xs (legal_venues xs h) k

pub few_lines : (xs : List Quotation) → every quotation_legal xs ≡ true → one_a_venue xs ≡ true → length xs < 2 ^ 64
few_lines xs h k = omega (arith, at_most_64 xs h k)

-- room for a line more of a legal venue that has none
pub room_for_one : (v : ℕ) (xs : List Quotation) → legal_venue v ≡ true → every quotation_legal xs ≡ true → one_a_venue xs ≡ true → lacking v xs ≡ true → length xs < 64
room_for_one v xs legal h k none =
    let q : Quotation = record { venue = v; price = 0; size = 0 } in
    let all = legal_venues xs h in
    omega (arith, at_most 64 (q ∷ xs) (grind (arith, nat_tests)) (grind arith))

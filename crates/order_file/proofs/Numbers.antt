-- When bytes are what `decimal` writes of a number of 32 bits.
use Rattle.std.proofs.Common.{◌≡◌, ℕ, zero, suc, ◌+◌, ◌*◌, ◌^◌, ◌<◌, ◌≤◌, List, length, get_or, take, decimal, sym, ap, ◌∙◌, subst, arith}
use Rattle.std.specs.Str.Parse.{digits_value, AllDigits}
use Rattle.order_file.specs.Fields.{a_number, Writes}
use Rattle.std.specs.Char.{digit_value}
use Rattle.std.specs.Int.{IsInRange}
use Rattle.std.proofs.lemmas.Int.Digits.{digits_value_more, digits_more}
use Rattle.std.proofs.lemmas.Fmt.{decimal-digits_value, decimal_nonempty, first_decimal, decimal_digit, digits_decimal, digits_value-decimal}
use Rattle.std.proofs.lemmas.Str.Parse.{IsNumeralModel, numerals_by_value, digits_value-take-le, tells_digits, digit_at}
use Rattle.std.proofs.lemmas.Str.{digit_value_digit}

pub own : IsNumeralModel (AllDigits 10) (digits_value 10)
own = numerals_by_value (AllDigits 10) tells_digits

wide : (n : ℕ) → n < 2 ^ 32 → n < 2 ^ 64
wide n h = omega arith

pub written : (bs : List ℕ) → 0 < length bs → (get_or bs 0 0 ≡ 48 → length bs ≡ 1) → AllDigits 10 bs → digits_value 10 bs < 2 ^ 32 → bs ≡ decimal (digits_value 10 bs)
written bs some lead ds small = sym (decimal-digits_value own bs ds some lead (omega arith))

-- what is written of a number is not empty, and 0 leads no other digits
pub leads : (bs : List ℕ) (n : ℕ) → Writes a_number n bs → (0 < length bs) × (get_or bs 0 0 ≡ 48 → length bs ≡ 1)
leads bs zero h = let one : length bs ≡ 1 = ap length h.1 ∙ ap length (decimal_digit 0 (omega arith)) in (omega arith, λ _. one)
leads bs (suc n) h =
    let f : 48 < get_or (decimal (suc n)) 0 0 = first_decimal (suc n) (omega arith) (wide (suc n) h.0) in
    let g : get_or bs 0 0 ≡ get_or (decimal (suc n)) 0 0 = ap (λ (x : List ℕ). get_or x 0 0) h.1 in
    let some : 0 < length bs = omega (arith, decimal_nonempty (suc n) (wide (suc n) h.0), ap length h.1) in
    (some, λ z. omega arith)

-- a byte that is no digit stands in no number
pub other_not : (bs : List ℕ) (i : ℕ) → i < length bs → (IsInRange 48 57 (get_or bs i 0) → ⊥) → (n : ℕ) → Writes a_number n bs → ⊥
other_not bs i l bad n h = bad (digit_at bs i (subst (AllDigits 10) (sym h.1) (digits_decimal own n (wide n h.0))) l)

pub no_digit : (bs : List ℕ) (i : ℕ) → i < length bs → (digit_value (get_or bs i 0) < 10 → ⊥) → (n : ℕ) → Writes a_number n bs → ⊥
no_digit bs i l bad = other_not bs i l (λ r. let d : digit_value (get_or bs i 0) + 48 ≡ get_or bs i 0 = digit_value_digit (get_or bs i 0) r in bad (omega (arith, r)))

-- bytes whose front writes too large a number write none
large_not : (bs : List ℕ) (i : ℕ) → 2 ^ 32 ≤ digits_value 10 (take i bs) → (n : ℕ) → Writes a_number n bs → ⊥
large_not bs i l n h =
    let k : digits_value 10 bs ≡ n = ap (digits_value 10) h.1 ∙ digits_value-decimal own n (wide n h.0) in
    omega (arith, digits_value-take-le 10 bs i (omega arith), k, h.0)

-- one digit more
more : (bs : List ℕ) (i v d : ℕ) → i < length bs → v ≡ digits_value 10 (take i bs) → d ≡ digit_value (get_or bs i 0) → v * 10 + d ≡ digits_value 10 (take (i + 1) bs)
more bs i v d l e f =
    let m : digits_value 10 (take (i + 1) bs) ≡ digits_value 10 (take i bs) * 10 + digit_value (get_or bs i 0) = digits_value_more 10 bs i l in omega arith

pub more_digits : (bs : List ℕ) (i v d w : ℕ) → i < length bs → v ≡ digits_value 10 (take i bs) → AllDigits 10 (take i bs)
    → (digit_value (get_or bs i 0) < 10) × (d ≡ digit_value (get_or bs i 0)) → w ≡ v * 10 + d
    → (w ≡ digits_value 10 (take (i + 1) bs)) × AllDigits 10 (take (i + 1) bs)
more_digits bs i v d w l e ds f g = (g ∙ more bs i v d l e f.1, digits_more 10 bs i l ds f.0)

pub too_many : (bs : List ℕ) (i v d : ℕ) → i < length bs → v ≡ digits_value 10 (take i bs) → d ≡ digit_value (get_or bs i 0) → 2 ^ 32 ≤ v * 10 + d
    → (n : ℕ) → Writes a_number n bs → ⊥
too_many bs i v d l e f big = let m = more bs i v d l e f in large_not bs (i + 1) (omega arith)

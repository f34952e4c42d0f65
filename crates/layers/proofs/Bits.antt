-- Setting, clearing and testing the bit of one venue's mark.
use Rattle.std.proofs.Common.{◌≡◌, ℕ, ◌-◌, ◌^◌, ◌<◌, Bool, true, false, not, ◌&&◌, ◌||◌, eqb, Ok, Err, Result, bit_or, bit_and, w64, arith}
use Rattle.std.specs.Int.{bit_at, bit_not}
use Rattle.std.specs.Result.{MatchResult}
use Rattle.std.proofs.lemmas.Nat.{pow_below}
use Rattle.std.proofs.lemmas.Nat.Bits.{bit_at_or, bit_at_and, bit_at_not, bit_at-pow_same, bit_at-pow_other, bit_at-lt, and_pow}
use Rattle.std.proofs.lemmas.Bool.Decides.{nat_tests}
use Rattle.market.specs.declared.types.Refusal.{Refusal}
use Rattle.market.specs.Legal.{legal_venue}
use Rattle.layers.specs.Shows.{marked, BitOf}

module _ (w v : ℕ) (legal : legal_venue v ≡ true) where
  pub mark_set : (x : ℕ) → marked (bit_or w (2 ^ (v - 1))) x ≡ (eqb x v || marked w x)
  mark_set x = grind (arith, nat_tests, bit_at_or w (2 ^ (v - 1)) (x - 1), bit_at-pow_same (v - 1), bit_at-pow_other (v - 1) (x - 1), bit_at-lt w (x - 1))

  pub mark_cleared : (x : ℕ) → marked (bit_and w (bit_not w64 (2 ^ (v - 1)))) x ≡ (not (eqb x v) && marked w x)
  mark_cleared x =
      let low : v - 1 < 64 = grind (arith, nat_tests) in
      let turned : x - 1 < 64 → bit_at (bit_not w64 (2 ^ (v - 1))) (x - 1) ≡ 1 - bit_at (2 ^ (v - 1)) (x - 1) = bit_at_not w64 (2 ^ (v - 1)) (x - 1) (pow_below (v - 1) 64 low) in
      grind (arith, nat_tests, bit_at_and w (bit_not w64 (2 ^ (v - 1))) (x - 1), turned, bit_at-pow_same (v - 1), bit_at-pow_other (v - 1) (x - 1), bit_at-lt w (x - 1))

pub mark_had : (r : Result ℕ Refusal) (w v : ℕ) (t : Bool) → BitOf v r → MatchResult r (λ b. t ≡ not (eqb (bit_and w b) 0)) (λ _. t ≡ false) → t ≡ marked w v
mark_had (Ok b) w v t h e = grind (arith, nat_tests, and_pow w (v - 1), bit_at-lt w (v - 1))
mark_had (Err why) w v t h e = grind (arith, nat_tests)

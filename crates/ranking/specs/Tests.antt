-- What is known of a closure that is passed as a test of lines.
use Rattle.std.specs.Prelude.{◌≡◌, ℕ, ◌<◌, Bool, true, false, List, length, Option, MatchOption, MatchBool}
use Rattle.std.specs.Borrow.{Bor}
use Rattle.std.specs.Fn.{Shared, FnReturnsAt}
use Rattle.std.specs.List.{AllWithin, HoldsAt}

-- the closure f answers t of each line
abbrev pub Tests : {F X : Type 0} → Shared F (Bor X × Unit {0}) Bool → F → (X → Bool) → Type 0
Tests {F} {X} g f t = (x : X) (r : Bool) → FnReturnsAt g f x r → r ≡ t x

module _ {F X : Type 0} (g : Shared F (Bor X × Unit {0}) Bool) (f : F) (xs : List X) where
  -- f answered true of the line at the place and false of each before it, or false of all
  abbrev pub FirstAnswered : Option ℕ → Type 0
  FirstAnswered o = MatchOption o (AllWithin (λ x. FnReturnsAt g f x false) xs 0 (length xs)) (λ i. (i < length xs) × HoldsAt (λ x. FnReturnsAt g f x true) xs i × AllWithin (λ x. FnReturnsAt g f x false) xs 0 i)

  -- f answered false of all lines, or true of one
  abbrev pub NoneAnswered : Bool → Type 0
  NoneAnswered b = MatchBool b (AllWithin (λ x. FnReturnsAt g f x false) xs 0 (length xs)) ((k : ℕ) × (k < length xs) × HoldsAt (λ x. FnReturnsAt g f x true) xs k)

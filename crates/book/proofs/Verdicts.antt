-- What follows where a check refuses, and where none does.
use Rattle.std.proofs.Common.{◌≡◌, Bool, true, false, Some, None, Ok, Err, Option, refl, ap, ◌∙◌, arith}
use Rattle.std.proofs.lemmas.Bool.Decides.{nat_tests}
use Rattle.market.specs.declared.types.Refusal.{Refusal}
use Rattle.market.specs.States.{State, Quotes}
use Rattle.market.specs.Calls.{Pass, Outcome, refuse, unless, verdict, checked, or_else, numbers_refusal}

-- a call that is a check and then an outcome
module _ (s : State) (q : Quotes) (p : Pass) where
  pub fails : (e : Option Refusal) (why : Refusal) (o : Outcome) → Err why ≡ verdict e → refuse why s q p ≡ checked e s q p o
  fails None why o h = grind arith
  fails (Some x) why o h = let same : why ≡ x = cc in ap (λ w. refuse w s q p) same

  pub passes : (e : Option Refusal) (o o' : Outcome) → Ok tt ≡ verdict e → o' ≡ o → o' ≡ checked e s q p o
  passes None o o' h e = e
  passes (Some x) o o' h e = grind arith

pub no_refusal : (e : Option Refusal) → Ok tt ≡ verdict e → None ≡ e
no_refusal None h = refl
no_refusal (Some x) h = grind arith

-- a check that holds, and one that fails
pub held : (b : Bool) (why : Refusal) → Ok tt ≡ verdict (unless b why) → b ≡ true
held true why h = refl
held false why h = grind arith

pub holds_as : (b b' : Bool) (why : Refusal) → Ok tt ≡ verdict (unless b why) → b ≡ b' → Ok tt ≡ verdict (unless b' why)
holds_as b b' why h e = h ∙ ap (λ t. verdict (unless t why)) e

pub failed : (b : Bool) (why w : Refusal) → Err w ≡ verdict (unless b why) → (b ≡ false) × (w ≡ why)
failed true why w h = grind arith
failed false why w h = let same : w ≡ why = cc in (refl, same)

-- one check after another
pub first_fails : (e f : Option Refusal) (why : Refusal) → Err why ≡ verdict e → Err why ≡ verdict (or_else e f)
first_fails None f why h = grind arith
first_fails (Some x) f why h = h

pub first_passes : (e f : Option Refusal) → Ok tt ≡ verdict e → verdict (or_else e f) ≡ verdict f
first_passes None f h = refl
first_passes (Some x) f h = grind arith

pub numbers : (s : State) → Ok tt ≡ verdict (numbers_refusal s) → s.next ≡ 0 → ⊥
numbers s h z = grind (arith, nat_tests)

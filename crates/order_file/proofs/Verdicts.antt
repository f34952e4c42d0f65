-- From what a part shows to the verdict on it.
use Rattle.std.proofs.Common.{◌≡◌, ℕ, ◌<◌, List, Some, None, Ok, Err, Option, get_or, sym, ap, ◌∙◌, subst, arith, Bor, ok_or}
use Rattle.market.specs.Written.{dash}
use Rattle.order_file.specs.Faults.{bad_field}
use Rattle.order_file.specs.Fields.{a_number, Writes, Spells, Reads, text, Shows, Good, Judged}
use Rattle.order_file.specs.declared.faults.Cause.{Cause}
use Rattle.order_file.specs.declared.faults.Cause.TheVariants.{WrongWord, Misused}
use Rattle.order_file.specs.declared.faults.Fault.{Fault}
use Rattle.order_file.specs.declared.fields.Place.{Place}
use Rattle.order_file.specs.declared.fields.Part.{Part}
use Rattle.order_file.specs.declared.fields.Field.TheVariants.{Word}
use Rattle.order_file.proofs.Numbers.{leads, other_not}

pub good : {X : Type 0} (writes : X → List ℕ → Type 0) (x : X) (p : List ℕ) → writes x p → Good writes p
unfolding Good
good writes x p h = (x, h)

pub good_value : {X : Type 0} (writes : X → List ℕ → Type 0) (p : List ℕ) → Good writes p → (x : X) × writes x p
unfolding Good
good_value writes p g = g

bad : {X : Type 0} (writes : X → List ℕ → Type 0) (p : List ℕ) → ((x : X) → writes x p → ⊥) → Good writes p → ⊥
bad writes p h g = let v = good_value writes p g in h v.0 v.1

pub taken : {X : Type 0} (writes : X → List ℕ → Type 0) (cause : Cause) (p : Part) (x : X) → writes x (text p) → Judged writes cause p (Ok x)
taken writes cause p x h = (h, good writes x (text p) h)

-- a part that is no blank, and writes no value that is wanted
pub wrong : {X : Type 0} (writes : X → List ℕ → Type 0) (cause : Cause) (p : Part) (at : Place) (f : Fault) → at ≡ p.place → (text p ≡ dash → ⊥) → ((x : X) → writes x (text p) → ⊥)
    → f ≡ bad_field cause at → Judged writes cause p (Err f)
wrong writes cause p at f here used h e = (bad writes (text p) h, ((λ d. absurd (used d)), λ _. e ∙ ap (bad_field cause) here))

-- a blank, which writes no value that is wanted
pub unused : {X : Type 0} (writes : X → List ℕ → Type 0) (cause : Cause) (p : Part) (at : Place) (f : Fault) → at ≡ p.place → text p ≡ dash → ((x : X) → writes x dash → ⊥)
    → f ≡ bad_field Misused at → Judged writes cause p (Err f)
unused writes cause p at f here d h e =
    (bad writes (text p) (λ x k. h x (subst (writes x) d k)), ((λ _. e ∙ ap (bad_field Misused) here), λ n. absurd (n d)))

-- a part that shows a word, which is read as one of a type
pub read_word : {X : Type 0} (spelling : X → List ℕ) (p : Part) (b : Bor (List ℕ)) (at : Place) (o : Option X) (f : Fault) → Shows p (Word b at) → Reads (Spells spelling) b.now o
    → f ≡ bad_field WrongWord at → Judged (Spells spelling) WrongWord p (ok_or o f)
read_word spelling p b at (Some x) f s h e = taken (Spells spelling) WrongWord p x (sym s.0 ∙ h)
read_word spelling p b at None f s h e = wrong (Spells spelling) WrongWord p at f s.1 s.2 (λ x k. h x (s.0 ∙ k)) e

-- words begin above the digits
pub above_digits : (w p : List ℕ) (n : ℕ) → 57 < get_or w 0 0 → Writes a_number n p → p ≡ w → ⊥
above_digits w p n l h e = let f : get_or p 0 0 ≡ get_or w 0 0 = ap (λ (x : List ℕ). get_or x 0 0) e in other_not p 0 (leads p n h).0 (λ i. omega (arith, i)) n h

pub above_dash : (w : List ℕ) → 57 < get_or w 0 0 → dash ≡ w → ⊥
above_dash w l e = omega (arith, ap (λ (x : List ℕ). get_or x 0 0) e)

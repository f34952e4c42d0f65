-- No field holds a space or a line end, and no number is a blank.
use Rattle.std.proofs.Common.{◌≡◌, ℕ, zero, suc, ◌^◌, ◌<◌, ◌≤◌, Bool, true, false, cond, ltb, List, [], ◌∷◌, decimal, refl, arith, ltb-true}
use borrow.Author.Tests.{both_ways}
use Rattle.market.specs.declared.types.Side.{Side}
use Rattle.market.specs.declared.types.Side.TheVariants.{Buy, Sell}
use Rattle.market.specs.declared.types.Kind.{Kind}
use Rattle.market.specs.declared.types.Kind.TheVariants.{Limit, BookOnly, Immediate, Sweep}
use Rattle.market.specs.Written.{dash, side_word, kind_word}
use Rattle.order_file.specs.Instructions.{verb_word}
use Rattle.order_file.specs.Lines.{Lacks}
use Rattle.order_file.specs.declared.instructions.Verb.{Verb}
use Rattle.order_file.specs.declared.instructions.Verb.TheVariants.{Enter, Replace, Cut, Cancel, Reply, Quote, Close, Expire}
use Rattle.order_file.specs.Fields.{a_number, Writes}
use Rattle.order_file.proofs.Numbers.{other_not}

pub number_not_dash : (n : ℕ) → Writes a_number n dash → ⊥
number_not_dash n h = other_not dash 0 (omega arith) (λ i. omega arith) n h

-- lists without the byte b
abbrev pub Free : ℕ → List ℕ → Type 0
Free b [] = Unit {0}
Free b (x ∷ xs) = (x ≡ b → ⊥) × Free b xs

pub free : (b : ℕ) (xs : List ℕ) → Lacks b xs → Free b xs
free b [] h = tt
free b (x ∷ xs) h = (h 0 (omega arith), free b xs (λ k l e. h (suc k) (omega arith) e))

pub lacks : (b : ℕ) (xs : List ℕ) → Free b xs → Lacks b xs
lacks b [] h k l e = omega arith
lacks b (x ∷ xs) h zero l e = h.0 e
lacks b (x ∷ xs) h (suc k) l e = lacks b xs h.1 k (omega arith) e

-- a test for lists of bytes above b
abbrev over : ℕ → List ℕ → Bool
over b [] = true
over b (x ∷ xs) = cond (ltb b x) (over b xs) false

over_step : (b x : ℕ) (xs : List ℕ) (t : Bool) → ltb b x ≡ t → cond t (over b xs) false ≡ true → (b < x) × (over b xs ≡ true)
over_step b x xs true e h = (ltb-true b x e, h)
over_step b x xs false e h = absurd (both_ways false refl h)

pub free_over : (a b : ℕ) → a ≤ b → (xs : List ℕ) → over b xs ≡ true → Free a xs
free_over a b l [] h = tt
free_over a b l (x ∷ xs) h = let r = over_step b x xs (ltb b x) refl h in ((λ e. omega (arith, e, r.0)), free_over a b l xs r.1)

-- words hold no byte up to 32
pub side_free : (a : ℕ) → a ≤ 32 → (s : Side) → Free a (side_word s)
side_free a l Buy = free_over a 32 l (side_word Buy) refl
side_free a l Sell = free_over a 32 l (side_word Sell) refl

pub kind_free : (a : ℕ) → a ≤ 32 → (k : Kind) → Free a (kind_word k)
kind_free a l Limit = free_over a 32 l (kind_word Limit) refl
kind_free a l BookOnly = free_over a 32 l (kind_word BookOnly) refl
kind_free a l Immediate = free_over a 32 l (kind_word Immediate) refl
kind_free a l Sweep = free_over a 32 l (kind_word Sweep) refl

pub verb_free : (a : ℕ) → a ≤ 32 → (v : Verb) → Free a (verb_word v)
verb_free a l Enter = free_over a 32 l (verb_word Enter) refl
verb_free a l Replace = free_over a 32 l (verb_word Replace) refl
verb_free a l Cut = free_over a 32 l (verb_word Cut) refl
verb_free a l Cancel = free_over a 32 l (verb_word Cancel) refl
verb_free a l Reply = free_over a 32 l (verb_word Reply) refl
verb_free a l Quote = free_over a 32 l (verb_word Quote) refl
verb_free a l Close = free_over a 32 l (verb_word Close) refl
verb_free a l Expire = free_over a 32 l (verb_word Expire) refl

pub dash_free : (a : ℕ) → a ≤ 32 → Free a dash
dash_free a l = free_over a 32 l dash refl

pub number_free : (a : ℕ) → a ≤ 32 → (n : ℕ) → n < 2 ^ 32 → Free a (decimal n)
number_free a l n h = free a (decimal n) (λ k m e. other_not (decimal n) k m (λ i. omega (arith, e, i)) n (h, refl))

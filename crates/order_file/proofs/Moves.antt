-- The reader's moves, by its ways out of a step.
use Rattle.std.proofs.Common.{◌≡◌, ℕ, ◌<◌, List, [], ◌∷◌, ◌++◌, length, IsErrAnd, Err, Option, Result, sym, refl, ap, ◌∙◌, subst, inr, arith, Bor}
use Rattle.std.proofs.lemmas.List.{append_assoc, length-append}
use Rattle.std.proofs.lemmas.Result.{err_from_is_err_and}
use Rattle.order_file.specs.Faults.{no_names}
use Rattle.order_file.specs.Lines.{Faults}
use Rattle.order_file.specs.Files.{names, Begins, Moves}
use Rattle.order_file.specs.declared.instructions.Instruction.{Instruction}
use Rattle.order_file.specs.declared.faults.Fault.{Fault}
use Rattle.order_file.specs.declared.reader.Condition.{Condition}
use Rattle.order_file.specs.declared.reader.Condition.TheVariants.{BeforeNames, AmongValues, Stopped}
use Rattle.order_file.specs.declared.reader.Line.{Line}
use Rattle.order_file.specs.declared.reader.Line.TheVariants.{Ended, Unended, Absent}
use Rattle.order_file.proofs.Words.{Free, free, free_over}

-- the first line end parts two lists alike
pub one_way : (p q xs ys : List ℕ) → Free 10 p → Free 10 q → p ++ 10 ∷ xs ≡ q ++ 10 ∷ ys → (p ≡ q) × (xs ≡ ys)
one_way [] [] xs ys h g e = (refl, (cc))
one_way [] (b ∷ q) xs ys h g e = absurd (g.0 (let z : b ≡ 10 = cc in z))
one_way (a ∷ p) [] xs ys h g e = absurd (h.0 (let z : a ≡ 10 = cc in z))
one_way (a ∷ p) (b ∷ q) xs ys h g e =
    let hd : a ≡ b = cc in
    let tl : p ++ 10 ∷ xs ≡ q ++ 10 ∷ ys = cc in
    let r = one_way p q xs ys h.1 g.1 tl in
    let s : p ≡ q = r.0 in
    ((cc), r.1)

pub has_end : (p u : List ℕ) → Free 10 (p ++ 10 ∷ u) → ⊥
has_end [] u h = h.0 refl
has_end (b ∷ p) u h = has_end p u h.1

pub single : (p u : List ℕ) → (p ++ 10 ∷ []) ++ u ≡ p ++ 10 ∷ u
single p u = simp append_assoc

pub names_free : Free 10 names
unfolding names
names_free = free_over 10 10 (omega arith) names refl

-- line by line
pub shorter : (bs l t : List ℕ) → bs ≡ l ++ 10 ∷ t → length t < length bs
shorter bs l t e = omega (arith, ap length e ∙ length-append l (10 ∷ t))

abbrev Answer : Type 0
Answer = Result (Option Instruction) Fault

pub wrong_names : (k : Condition) (bs : List ℕ) (n : ℕ) (i : Line) (l t : Bor (List ℕ)) (r : Answer) (f : Fault) (u : List ℕ) (m : ℕ)
    → k ≡ BeforeNames → i ≡ Ended l t → Begins bs i → (l.now ≡ names → ⊥) × (f ≡ no_names) → IsErrAnd r (λ y. y ≡ f) → Moves k bs n r Stopped u m
unfolding Moves
wrong_names k bs n i l t r f u m a b h g e =
    let p = err_from_is_err_and r e in
    let q = subst (Begins bs) b h in
    rw (a, p.1) (refl, (λ v z. g.0 (one_way l.now names t.now v (free 10 l.now q.1) names_free (sym q.0 ∙ z ∙ single names v)).0), p.2 ∙ g.1)

-- bytes that begin with no ended line have no line end
no_end : (bs : List ℕ) (i : Line) → Begins bs i → ((l t : Bor (List ℕ)) → i ≡ Ended l t → ⊥) → Free 10 bs
no_end bs (Ended l t) h bad = absurd (bad l t refl)
no_end bs Unended h bad = free 10 bs h.1
no_end bs Absent h bad = rw h tt

pub no_line : (k : Condition) (bs : List ℕ) (n : ℕ) (i : Line) (r : Answer) (f : Fault) (to : Condition) (u : List ℕ) (m : ℕ)
    → k ≡ BeforeNames → ((l t : Bor (List ℕ)) → i ≡ Ended l t → ⊥) → Begins bs i → f ≡ no_names → r ≡ Err f → to ≡ Stopped → Moves k bs n r to u m
unfolding Moves
no_line k bs n i r f to u m a b h e r-is to_is =
    rw (a, r-is) (to_is, (λ v z. has_end names v (subst (Free 10) (z ∙ single names v) (no_end bs i h b))), e)

pub wrong_values : (k : Condition) (bs : List ℕ) (n : ℕ) (i : Line) (l t : Bor (List ℕ)) (r : Answer) (f : Fault) (u : List ℕ) (m : ℕ)
    → k ≡ AmongValues → i ≡ Ended l t → Begins bs i → Faults l.now n (Err f) → IsErrAnd r (λ y. y ≡ f) → Moves k bs n r Stopped u m
unfolding Moves
wrong_values k bs n i l t r f u m a b h g e =
    let p = err_from_is_err_and r e in
    let q = subst (Begins bs) b h in
    rw (a, p.1, p.2) (refl, omega (arith, shorter bs l.now t.now q.0), inr (l.now, t.now, q.0, q.1, g))

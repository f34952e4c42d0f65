-- Cutting at spaces, and joining again.
use Rattle.std.proofs.Common.{◌≡◌, ℕ, zero, suc, ◌<◌, Bool, true, false, cond, eqb, List, [], ◌∷◌, ◌++◌, length, Some, None, Err, Option, ok_or, refl, ap, ◌∙◌, arith, ne_eqb, eqb-true, Bor}
use borrow.Author.Tests.{eqb-false}
use Rattle.market.specs.Written.{spaced, spaced_after}
use Rattle.order_file.specs.declared.faults.Fault.{Fault}
use Rattle.order_file.specs.Lines.{Lacks, SplitAt, Plain, onto, cut}

tail_free : (b : ℕ) (bs : List ℕ) → Lacks 32 (b ∷ bs) → Lacks 32 bs
tail_free b bs h k l e = h (suc k) (omega arith) e

pub cut_none : (bs : List ℕ) → Lacks 32 bs → cut bs ≡ bs ∷ []
cut_none [] h = refl
cut_none (b ∷ bs) h =
    let q : eqb b 32 ≡ false = ne_eqb b 32 (h 0 (omega arith)) in
    rw (q, cut_none bs (tail_free b bs h))

pub cut_joined : (p bs : List ℕ) → Lacks 32 p → cut (p ++ 32 ∷ bs) ≡ p ∷ cut bs
cut_joined [] bs h = refl
cut_joined (b ∷ p) bs h =
    let q : eqb b 32 ≡ false = ne_eqb b 32 (h 0 (omega arith)) in
    rw (q, cut_joined p bs (tail_free b p h))

-- the first field, and the fields of what follows its space
abbrev pub Heads : List ℕ → Option (Bor (List ℕ) × Bor (List ℕ)) → Type 0
Heads bs None = cut bs ≡ bs ∷ []
Heads bs (Some x) = cut bs ≡ x.0.now ∷ cut x.1.now

pub heads : (bs : List ℕ) (r : Option (Bor (List ℕ) × Bor (List ℕ))) → SplitAt 32 bs r → Heads bs r
heads bs None h = cut_none bs h
heads bs (Some x) h = ap cut h.0 ∙ cut_joined x.0.now x.1.now h.1

pub fault_of : {X : Type 0} (o : Option X) (f g : Fault) → Err f ≡ ok_or o g → f ≡ g
fault_of (Some x) f g e = absurd (cc)
fault_of None f g e = cc

more : (t : Bool) (b : ℕ) (ps : List (List ℕ)) → 0 < length (cond t ([] ∷ ps) (onto b ps))
more true b ps = omega arith
more false b [] = omega arith
more false b (p ∷ ps) = omega arith

pub cut_some : (bs : List ℕ) → 0 < length (cut bs)
cut_some [] = omega arith
cut_some (b ∷ bs) = more (eqb b 32) b (cut bs)

-- what is joined comes apart again
cut_spaced_after : (p : List ℕ) (ps : List (List ℕ)) → Lacks 32 p → Plain ps → cut (spaced_after p ps) ≡ p ∷ ps
cut_spaced_after p [] h hs = cut_none p h
cut_spaced_after p (q ∷ qs) h hs = cut_joined p (spaced_after q qs) h ∙ ap (λ (x : List (List ℕ)). p ∷ x) (cut_spaced_after q qs hs.0 hs.1)

pub cut_spaced : (ps : List (List ℕ)) → 0 < length ps → Plain ps → cut (spaced ps) ≡ ps
cut_spaced [] l h = absurd (omega arith)
cut_spaced (p ∷ ps) l h = cut_spaced_after p ps h.0 h.1

apart : (b : ℕ) (p : List ℕ) → (b ≡ 32 → ⊥) → Lacks 32 p → Lacks 32 (b ∷ p)
apart b p n h zero l e = n e
apart b p n h (suc k) l e = h k (omega arith) e

-- and what is cut is joined again
joins : (t : Bool) (b : ℕ) (ps : List (List ℕ)) (bs : List ℕ) → eqb b 32 ≡ t → 0 < length ps → Plain ps → spaced ps ≡ bs
    → Plain (cond t ([] ∷ ps) (onto b ps)) × (spaced (cond t ([] ∷ ps) (onto b ps)) ≡ b ∷ bs)
joins t b [] bs q l h e = absurd (omega arith)
joins true b (p ∷ ps) bs q l h e = (((λ k m z. omega arith), h), (let z : b ≡ 32 = eqb-true b 32 q in cc))
joins false b (p ∷ []) bs q l h e = (((λ k. apart b p (eqb-false b 32 q) h.0 k), h.1), ap (λ (x : List ℕ). b ∷ x) e)
joins false b (p ∷ r ∷ ps) bs q l h e = (((λ k. apart b p (eqb-false b 32 q) h.0 k), h.1), ap (λ (x : List ℕ). b ∷ x) e)

pub spaced_cut : (bs : List ℕ) → Plain (cut bs) × (spaced (cut bs) ≡ bs)
spaced_cut [] = (((λ k m z. omega arith), tt), refl)
spaced_cut (b ∷ bs) = joins (eqb b 32) b (cut bs) bs refl (cut_some bs) (spaced_cut bs).0 (spaced_cut bs).1

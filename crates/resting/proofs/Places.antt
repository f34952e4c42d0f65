-- The order at a place of a side.
use Rattle.std.proofs.Common.{◌≡◌, ℕ, zero, suc, ◌+◌, ◌-◌, ◌<◌, ◌≤◌, min, List, [], ◌∷◌, ◌++◌, length, get_or, take, drop, set, sym, refl, ap, ◌∙◌, add-one, arith}
use Rattle.std.proofs.lemmas.List.{take-append-drop, drop_more}
use Rattle.std.specs.List.{remove}
use Rattle.market.specs.declared.types.Resting.{Resting}
use Rattle.market.specs.Orders.{total, trimmed, sharing}
use Rattle.resting.specs.Sides.{total_at, trim_at}

pub total_is : (xs : List Resting) (i : ℕ) (d : Resting) → i < length xs → total_at i xs ≡ total (get_or xs i d)
total_is [] i d h = absurd (omega arith)
total_is (x ∷ xs) zero d h = refl
total_is (x ∷ xs) (suc i) d h = total_is xs i d (omega arith)

set_trimmed : (xs : List Resting) (i k : ℕ) (d : Resting) → i < length xs → set xs i (trimmed k (get_or xs i d)) ≡ trim_at i k xs
set_trimmed [] i k d h = absurd (omega arith)
set_trimmed (x ∷ xs) zero k d h = refl
set_trimmed (x ∷ xs) (suc i) k d h = ap (λ l. x ∷ l) (set_trimmed xs i k d (omega arith))

-- held shares first, then displayed ones
pub trimmed_by : (xs : List Resting) (i k m : ℕ) (x : Resting) → i < length xs → x ≡ get_or xs i x → m ≡ min k x.held → set xs i (sharing (x.shown - (k - m)) (x.held - m) x) ≡ trim_at i k xs
trimmed_by xs i k m x h e f =
    let a : x.shown - (k - m) ≡ x.shown - (k - x.held) = omega arith in
    let b : x.held - m ≡ x.held - k = omega arith in
    ap (λ z. set xs i (sharing z (x.held - m) x)) a ∙ ap (λ z. set xs i (sharing (x.shown - (k - x.held)) z x)) b ∙ ap (λ z. set xs i (trimmed k z)) e ∙ set_trimmed xs i k x h

-- a side at a place
pub split_at : {X : Type 0} (xs : List X) (i : ℕ) (d : X) → i < length xs → xs ≡ take i xs ++ get_or xs i d ∷ drop (i + 1) xs
split_at xs i d h = sym (take-append-drop i xs) ∙ ap (λ l. take i xs ++ l) (drop_more xs i d h)

pub removed_is : {X : Type 0} (xs : List X) (i : ℕ) → remove xs i ≡ take i xs ++ drop (i + 1) xs
removed_is xs i = rw add-one

pub trim_is : (xs : List Resting) (i k : ℕ) (d : Resting) → i < length xs → trim_at i k xs ≡ take i xs ++ trimmed k (get_or xs i d) ∷ drop (i + 1) xs
trim_is [] i k d h = absurd (omega arith)
trim_is (x ∷ xs) zero k d h = refl
trim_is (x ∷ xs) (suc i) k d h = ap (λ l. x ∷ l) (trim_is xs i k d (omega arith)) ∙ over
  where
    over : x ∷ (take i xs ++ trimmed k (get_or xs i d) ∷ drop (i + 1) xs) ≡ take (suc i) (x ∷ xs) ++ trimmed k (get_or (x ∷ xs) (suc i) d) ∷ drop (suc i + 1) (x ∷ xs)
    over = rw (add-one, add-one)

-- a cut below the shares left takes no more displayed shares than there are
pub trim_room : (xs : List Resting) (i k m : ℕ) (x : Resting) → i < length xs → x ≡ get_or xs i x → m ≡ min k x.held → k < total_at i xs → k - m ≤ x.shown
trim_room xs i k m x h e f l =
    let t : total_at i xs ≡ total x = total_is xs i x h ∙ ap total (sym e) in
    omega arith

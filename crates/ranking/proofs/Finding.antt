-- What a search of a list line by line has seen, and what that says in the words of a ranked list.
use Rattle.std.proofs.Common.{◌≡◌, ℕ, zero, suc, ◌+◌, ◌<◌, ◌≤◌, Bool, true, false, not, ◌&&◌, List, [], ◌∷◌, length, get_or, Some, None, Option, ltb, sym, refl, ap, ◌∙◌, subst, arith, add-one}
use Rattle.std.specs.Borrow.{Bor}
use Rattle.std.specs.Fn.{Shared}
use Rattle.std.specs.List.{position_or_len, AllWithin, HoldsAt}
use Rattle.std.proofs.lemmas.Bool.{and_from, ltb-true, ltb-false}
use Rattle.std.proofs.lemmas.List.{get_or_default}
use Rattle.std.proofs.lemmas.List.Sums.{position_or_len_is}
use Rattle.ranking.specs.Place.{every, past, locate, spot_at, Found}
use Rattle.ranking.specs.Tests.{Tests, FirstAnswered, NoneAnswered}

one_on : {X : Type 0} (x : X) (xs : List X) (i : ℕ) (d : X) → past x (Some (spot_at xs i d)) ≡ Some (spot_at (x ∷ xs) (suc i) d)
one_on x xs i d = rw (add-one, add-one)

-- what holds of the lines so far
module _ {X : Type 0} (P : X → Type 0) (xs : List X) where
  pub none_yet : AllWithin P xs 0 0
  none_yet k d a b = absurd (omega arith)

  module _ (i : ℕ) (y : X) (h : i < length xs) (read : y ≡ get_or xs i y) (holds : P y) where
    pub holds_here : HoldsAt P xs i
    holds_here d = subst P (read ∙ get_or_default xs i y d h) holds

    pub one_more : AllWithin P xs 0 i → AllWithin P xs 0 (i + 1)
    one_more inv k d a b =
        (elim (ltb k i) as (λ t. ltb k i ≡ t → P (get_or xs k d)) [
          | true ↦ λ e. inv k d a (ltb-true k i e)
          | false ↦ λ e. let past_all = ltb-false k i e in let same : i ≡ k = omega arith in subst (λ n. P (get_or xs n d)) same (holds_here d)
        ]) refl

  pub all_of : (i : ℕ) → length xs ≤ i → AllWithin P xs 0 i → AllWithin P xs 0 (length xs)
  all_of i h inv k d a b = inv k d a (omega arith)

module _ {X : Type 0} (t : X → Bool) where
  -- a list whose first line passes the test, and one whose first line fails it
  here : (x : X) (xs : List X) → t x ≡ true → (position_or_len t (x ∷ xs) ≡ 0) × (locate t (x ∷ xs) ≡ Some (record { front = []; line = x; rest = xs }))
  here x xs e = (rw e refl, rw e refl)

  on : (x : X) (xs : List X) → t x ≡ false → (position_or_len t (x ∷ xs) ≡ suc (position_or_len t xs)) × (locate t (x ∷ xs) ≡ past x (locate t xs))
  on x xs e = (rw e (omega arith), rw e refl)

  -- the first line that passes stands at the position, if one does
  pub located : (xs : List X) (d : X) → position_or_len t xs < length xs → locate t xs ≡ Some (spot_at xs (position_or_len t xs) d)
  located [] d h = absurd (omega arith)
  located (x ∷ xs) d h =
      let G : Bool → Type 0 = λ b. t x ≡ b → locate t (x ∷ xs) ≡ Some (spot_at (x ∷ xs) (position_or_len t (x ∷ xs)) d) in
      (elim (t x) as G [
        | true ↦ λ e. (here x xs e).1 ∙ rw e refl
        | false ↦ λ e. (on x xs e).1 ∙ ap (past x) (located xs d (omega (arith, (on x xs e).0))) ∙ one_on x xs (position_or_len t xs) d ∙ ap (λ i. Some (spot_at (x ∷ xs) i d)) (sym (on x xs e).0)
      ]) refl

  pub unlocated : (xs : List X) → length xs ≤ position_or_len t xs → locate t xs ≡ None
  unlocated [] h = refl
  unlocated (x ∷ xs) h =
      let G : Bool → Type 0 = λ b. t x ≡ b → locate t (x ∷ xs) ≡ None in
      (elim (t x) as G [
        | true ↦ λ e. absurd (omega (arith, (here x xs e).0))
        | false ↦ λ e. (on x xs e).1 ∙ ap (past x) (unlocated xs (omega (arith, (on x xs e).0)))
      ]) refl

  -- no line passes
  pub found_none : (xs : List X) → AllWithin (λ x. t x ≡ false) xs 0 (length xs) → locate t xs ≡ None
  found_none [] h = refl
  found_none (x ∷ xs) h =
      let n = length (x ∷ xs) in
      let e : position_or_len t (x ∷ xs) ≡ n = position_or_len_is t (x ∷ xs) n x (omega arith) (λ k l. h k x (omega arith) l) (λ l. absurd (omega arith)) in
      unlocated (x ∷ xs) (omega (arith, e))

  -- the line at i passes, and none before it
  pub found_at : (xs : List X) (i : ℕ) → i < length xs → HoldsAt (λ x. t x ≡ true) xs i → AllWithin (λ x. t x ≡ false) xs 0 i → (d : X) → locate t xs ≡ Some (spot_at xs i d)
  found_at xs i h passes fail d =
      let e : position_or_len t xs ≡ i = position_or_len_is t xs i d (omega arith) (λ k l. fail k d (omega arith) l) (λ l. passes d) in
      subst (λ n. locate t xs ≡ Some (spot_at xs n d)) e (located xs d (omega (arith, e)))

  pub every_other : (xs : List X) → AllWithin (λ x. t x ≡ false) xs 0 (length xs) → every (λ x. not (t x)) xs ≡ true
  every_other [] h = refl
  every_other (x ∷ xs) h = and_from (not (t x)) (every (λ y. not (t y)) xs) (ap not (h 0 x (omega arith) (omega arith))) (every_other xs (λ k d a b. h (suc k) d (omega arith) (omega arith)))

  ends_false : (b : Bool) → (b && false) ≡ false
  ends_false true = refl
  ends_false false = refl

  pub not_every : (xs : List X) (k : ℕ) → k < length xs → HoldsAt (λ x. t x ≡ true) xs k → every (λ x. not (t x)) xs ≡ false
  not_every [] k h passes = absurd (omega arith)
  not_every (x ∷ xs) zero h passes = ap (λ b. not b && every (λ y. not (t y)) xs) (passes x)
  not_every (x ∷ xs) (suc k) h passes = ap (λ b. not (t x) && b) (not_every xs k (omega arith) (λ d. passes d)) ∙ ends_false (not (t x))

-- what a closure that answers by a test answered, in the words of the test
module _ {F X : Type 0} (g : Shared F (Bor X × Unit {0}) Bool) (f : F) (t : X → Bool) (tests : Tests g f t) (xs : List X) where
  pub found : (o : Option ℕ) → FirstAnswered g f xs o → Found t xs o
  found None h = found_none t xs (λ k d a b. sym (tests _ false (h k d a b)))
  found (Some i) h = (h.0, found_at t xs i h.0 (λ d. sym (tests _ true (h.1 d))) (λ k d a b. sym (tests _ false (h.2 k d a b))))

  pub lacking : (b : Bool) → NoneAnswered g f xs b → b ≡ every (λ x. not (t x)) xs
  lacking true h = sym (every_other t xs (λ k d a b. sym (tests _ false (h k d a b))))
  lacking false h = sym (not_every t xs h.0 h.1 (λ d. sym (tests _ true (h.2 d))))

-- What keeps a list in rank.
use Rattle.std.proofs.Common.{◌≡◌, ℕ, zero, suc, Bool, true, false, cond, not, List, [], ◌∷◌, ◌++◌, sym, refl, ap, ◌∙◌}
use Rattle.std.specs.List.{remove}
use Rattle.std.proofs.lemmas.Bool.{and_parts, and_from, not-true, not_from_false, both_ways, cond_both, cond-true, cond-false, not_from_true}
use Rattle.ranking.specs.Place.{place, none_before, in_rank, those, behind}

module _ {X : Type 0} (b : X → X → Bool) where
  -- none stands before x' either, if x' has the rank of x
  pub none_as : (x x' : X) (ys : List X) → ((y : X) → b y x' ≡ b y x) → none_before b x ys ≡ true → none_before b x' ys ≡ true
  none_as x x' [] e h = refl
  none_as x x' (y ∷ ys) e h =
      let p = and_parts (not (b y x)) (none_before b x ys) h in
      and_from (not (b y x')) (none_before b x' ys) (ap not (e y) ∙ p.0) (none_as x x' ys e p.1)

  -- the first line changed where it rests, with its rank kept
  pub first_as : (x x' : X) (ys : List X) → ((y : X) → b y x' ≡ b y x) → in_rank b (x ∷ ys) ≡ true → in_rank b (x' ∷ ys) ≡ true
  first_as x x' ys e h =
      let p = and_parts (none_before b x ys) (in_rank b ys) h in
      and_from (none_before b x' ys) (in_rank b ys) (none_as x x' ys e p.0) p.1

  pub none_removed : (x : X) (ys : List X) (i : ℕ) → none_before b x ys ≡ true → none_before b x (remove ys i) ≡ true
  none_removed x [] zero h = refl
  none_removed x [] (suc i) h = refl
  none_removed x (y ∷ ys) zero h = (and_parts (not (b y x)) (none_before b x ys) h).1
  none_removed x (y ∷ ys) (suc i) h =
      let p = and_parts (not (b y x)) (none_before b x ys) h in
      and_from (not (b y x)) (none_before b x (remove ys i)) p.0 (none_removed x ys i p.1)

  pub removed_in_rank : (ys : List X) (i : ℕ) → in_rank b ys ≡ true → in_rank b (remove ys i) ≡ true
  removed_in_rank [] zero h = refl
  removed_in_rank [] (suc i) h = refl
  removed_in_rank (y ∷ ys) zero h = (and_parts (none_before b y ys) (in_rank b ys) h).1
  removed_in_rank (y ∷ ys) (suc i) h =
      let p = and_parts (none_before b y ys) (in_rank b ys) h in
      and_from (none_before b y (remove ys i)) (in_rank b (remove ys i)) (none_removed y ys i p.0) (removed_in_rank ys i p.1)

module _ {X : Type 0} (b : X → X → Bool) (irr : (x : X) → b x x ≡ false) (trans : (x y z : X) → b x y ≡ true → b y z ≡ true → b x z ≡ true) where
  asym : (x y : X) → b x y ≡ true → b y x ≡ false
  asym x y h =
      let go : (t : Bool) → b y x ≡ t → b y x ≡ false = λ t e. elim t as (λ u. b y x ≡ u → b y x ≡ false) [ true ↦ λ k. absurd (both_ways (b x x) (irr x) (trans x y x h k)) | false ↦ λ k. k ] e in
      go (b y x) refl

  -- what stands behind y stands behind x, which stands before y
  none_ahead : (x y : X) (zs : List X) → b x y ≡ true → none_before b y zs ≡ true → none_before b x zs ≡ true
  none_ahead x y [] h n = refl
  none_ahead x y (z ∷ zs) h n =
      let p = and_parts (not (b z y)) (none_before b y zs) n in
      let not-y = not-true (b z y) p.0 in
      let go : (t : Bool) → b z x ≡ t → not (b z x) ≡ true = λ t e. elim t as (λ u. b z x ≡ u → not (b z x) ≡ true) [ true ↦ λ k. absurd (both_ways (b z y) not-y (trans z x y k h)) | false ↦ λ k. not_from_false (b z x) k ] e in
      and_from (not (b z x)) (none_before b x zs) (go (b z x) refl) (none_ahead x y zs h p.1)

  none_place : (x y : X) (zs : List X) → b x y ≡ false → none_before b y zs ≡ true → none_before b y (place b x zs) ≡ true
  none_place x y [] h n = and_from (not (b x y)) true (not_from_false (b x y) h) refl
  none_place x y (z ∷ zs) h n =
      let p = and_parts (not (b z y)) (none_before b y zs) n in
      cond_both (b x z) (x ∷ z ∷ zs) (z ∷ place b x zs) (λ l. none_before b y l ≡ true)
      (λ e. and_from (not (b x y)) (none_before b y (z ∷ zs)) (not_from_false (b x y) h) n)
      (λ e. and_from (not (b z y)) (none_before b y (place b x zs)) p.0 (none_place x y zs h p.1))

  pub place_in_rank : (x : X) (ys : List X) → in_rank b ys ≡ true → in_rank b (place b x ys) ≡ true
  place_in_rank x [] h = refl
  place_in_rank x (y ∷ ys) h =
      let p = and_parts (none_before b y ys) (in_rank b ys) h in
      cond_both (b x y) (x ∷ y ∷ ys) (y ∷ place b x ys) (λ l. in_rank b l ≡ true)
      (λ e. and_from (none_before b x (y ∷ ys)) (in_rank b (y ∷ ys)) (and_from (not (b y x)) (none_before b x ys) (not_from_false (b y x) (asym x y e)) (none_ahead x y ys e p.0)) h)
      (λ e. and_from (none_before b y (place b x ys)) (in_rank b (place b x ys)) (none_place x y ys e p.0) (place_in_rank x ys p.1))

  module _ (level : (x y z : X) → b x y ≡ false → b y x ≡ false → b y z ≡ false → b z y ≡ false → b x z ≡ false) where
    -- what x stands before, it stands before from there on: x before y, and z not before y
    on : (x y z : X) → b x y ≡ true → b z y ≡ false → b x z ≡ true
    on x y z h k =
        let yx = asym x y h in
        let go : (t u : Bool) → b x z ≡ t → b z x ≡ u → b x z ≡ true = λ t u p q.
        elim t as (λ v. b x z ≡ v → b x z ≡ true) [
          | true ↦ λ p'. p'
          | false ↦ λ p'.
              elim u as (λ v. b z x ≡ v → b x z ≡ true) [
                | true ↦ λ q'. absurd (both_ways (b z y) k (trans z x y q' h))
                | false ↦ λ q'.
                    (elim (b y z) as (λ v. b y z ≡ v → b x z ≡ true) [ true ↦ λ r. trans x y z h r | false ↦ λ r. absurd (both_ways (b x y) (level x z y p' q' k r) h) ]) refl
              ] q
        ] p in
        go (b x z) (b z x) refl refl

    all_behind : (x y : X) (zs : List X) → b x y ≡ true → none_before b y zs ≡ true → (those (λ z. not (b x z)) zs ≡ []) × (those (b x) zs ≡ zs)
    all_behind x y [] h n = (refl, refl)
    all_behind x y (z ∷ zs) h n =
        let p = and_parts (not (b z y)) (none_before b y zs) n in
        let xz = on x y z h (not-true (b z y) p.0) in
        let r = all_behind x y zs h p.1 in (
          cond-false (not (b x z)) (z ∷ those (λ w. not (b x w)) zs) (those (λ w. not (b x w)) zs) (not_from_true (b x z) xz) ∙ r.0,
          cond-true (b x z) (z ∷ those (b x) zs) (those (b x) zs) xz ∙ ap (λ l. z ∷ l) r.1,
        )

    pub place_behind : (x : X) (ys : List X) → in_rank b ys ≡ true → place b x ys ≡ behind b x ys
    place_behind x [] h = refl
    place_behind x (y ∷ ys) h =
        let p = and_parts (none_before b y ys) (in_rank b ys) h in
        let G : Bool → Type 0 = λ t. cond t (x ∷ y ∷ ys) (y ∷ place b x ys) ≡ cond (not t) (y ∷ those (λ z. not (b x z)) ys) (those (λ z. not (b x z)) ys) ++ x ∷ cond t (y ∷ those (b x) ys) (those (b x) ys) in
        let go : (t : Bool) → b x y ≡ t → G t = λ t e. elim t as (λ u. b x y ≡ u → G u) [
          | true ↦ λ k. let r = all_behind x y ys k p.0 in sym (ap (λ l. l ++ x ∷ y ∷ those (b x) ys) r.0 ∙ ap (λ l. x ∷ y ∷ l) r.1)
          | false ↦ λ k. ap (λ l. y ∷ l) (place_behind x ys p.1)
        ] e in
        go (b x y) refl

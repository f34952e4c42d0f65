-- What a search for a venue's line says of the lists that a take and a quote leave.
use Rattle.std.proofs.Common.{◌≡◌, ℕ, ◌+◌, ◌-◌, ◌<◌, true, false, cond, eqb, List, [], ◌∷◌, ◌++◌, length, get_or, take, drop, set, Some, None, Ok, Err, Option, sym, refl, ap, ◌∙◌, arith, add-one}
use Rattle.std.specs.List.{remove}
use Rattle.std.specs.Option.{ok_or}
use Rattle.std.proofs.lemmas.List.{set_split, set-get_or}
use Rattle.std.proofs.lemmas.Bool.{cond-true, cond-false, eq-eqb, ne_eqb}
use Rattle.ranking.specs.Place.{Spot, past, locate, spot_at}
use Rattle.market.specs.declared.types.Quotation.{Quotation}
use Rattle.market.specs.States.{venue_is}
use Rattle.market.specs.Quotes.{size_at, resized, lessened, without}

-- what a search answered, by what ok_or makes of it
pub none_of : {X E : Type 0} (r : Option X) (why w : E) → Err w ≡ ok_or r why → (r ≡ None) × (w ≡ why)
none_of None why w h = let same : w ≡ why = cc in (refl, same)
none_of (Some x) why w h = grind arith

pub some_of : {X E : Type 0} (r : Option X) (why : E) (x : X) → Ok x ≡ ok_or r why → r ≡ Some x
some_of None why x h = grind arith
some_of (Some y) why x h = let same : x ≡ y = cc in ap Some (sym same)

-- the size of the line that was found, and the lists without it and with it lessened
abbrev size_in : Option (Spot Quotation) → ℕ
size_in None = 0
size_in (Some s) = s.line.size

abbrev out_of : Option (Spot Quotation) → List Quotation → List Quotation
out_of None xs = xs
out_of (Some s) xs = s.front ++ s.rest

abbrev less_in : ℕ → Option (Spot Quotation) → List Quotation → List Quotation
less_in n None xs = xs
less_in n (Some s) xs = cond (eqb s.line.size n) (s.front ++ s.rest) (s.front ++ resized (s.line.size - n) s.line ∷ s.rest)

size_past : (q : Quotation) (o : Option (Spot Quotation)) → size_in o ≡ size_in (past q o)
size_past q None = refl
size_past q (Some s) = refl

out_past : (q : Quotation) (xs : List Quotation) (o : Option (Spot Quotation)) → q ∷ out_of o xs ≡ out_of (past q o) (q ∷ xs)
out_past q xs None = refl
out_past q xs (Some s) = refl

less_past : (n : ℕ) (q : Quotation) (xs : List Quotation) (o : Option (Spot Quotation)) → q ∷ less_in n o xs ≡ less_in n (past q o) (q ∷ xs)
less_past n q xs None = refl
less_past n q xs (Some s) =
    let a = s.front ++ s.rest in
    let b = s.front ++ resized (s.line.size - n) s.line ∷ s.rest in
    elim (eqb s.line.size n) as (λ t. q ∷ cond t a b ≡ cond t (q ∷ a) (q ∷ b)) [ true ↦ refl | false ↦ refl ]

module _ (v : ℕ) where
  size_located : (xs : List Quotation) → size_at v xs ≡ size_in (locate (venue_is v) xs)
  size_located [] = refl
  size_located (q ∷ qs) =
      elim (venue_is v q) as (λ t. cond t q.size (size_at v qs) ≡ size_in (cond t (Some (record { front = []; line = q; rest = qs })) (past q (locate (venue_is v) qs)))) [ true ↦ refl | false ↦ size_located qs ∙ size_past q (locate (venue_is v) qs) ]

  out_located : (xs : List Quotation) → without v xs ≡ out_of (locate (venue_is v) xs) xs
  out_located [] = refl
  out_located (q ∷ qs) =
      elim (venue_is v q) as (λ t. cond t qs (q ∷ without v qs) ≡ out_of (cond t (Some (record { front = []; line = q; rest = qs })) (past q (locate (venue_is v) qs))) (q ∷ qs)) [ true ↦ refl | false ↦ ap (λ l. q ∷ l) (out_located qs) ∙ out_past q qs (locate (venue_is v) qs) ]

  less_located : (n : ℕ) (xs : List Quotation) → lessened v n xs ≡ less_in n (locate (venue_is v) xs) xs
  less_located n [] = refl
  less_located n (q ∷ qs) =
      elim (venue_is v q) as (λ t. cond t (cond (eqb q.size n) qs (resized (q.size - n) q ∷ qs)) (q ∷ lessened v n qs) ≡ less_in n (cond t (Some (record { front = []; line = q; rest = qs })) (past q (locate (venue_is v) qs))) (q ∷ qs)) [ true ↦ refl | false ↦ ap (λ l. q ∷ l) (less_located n qs) ∙ less_past n q qs (locate (venue_is v) qs) ]

  -- the venue has no line
  module _ (xs : List Quotation) (none : locate (venue_is v) xs ≡ None) where
    pub no_size : size_at v xs ≡ 0
    no_size = size_located xs ∙ ap size_in none

    pub none_dropped : without v xs ≡ xs
    none_dropped = out_located xs ∙ ap (λ o. out_of o xs) none

  -- the venue's line is x, at i
  module _ (xs : List Quotation) (i : ℕ) (within : i < length xs) (found : (d : Quotation) → locate (venue_is v) xs ≡ Some (spot_at xs i d)) (x : Quotation) where
    cut : take i xs ++ drop (i + 1) xs ≡ remove xs i
    cut = rw add-one

    pub dropped : without v xs ≡ remove xs i
    dropped = out_located xs ∙ ap (λ o. out_of o xs) (found x) ∙ cut

    module _ (here : x ≡ get_or xs i x) where
      -- the line lent and not changed
      pub as_it_was : set xs i x ≡ xs
      as_it_was = ap (set xs i) here ∙ set-get_or xs i x

      spot : locate (venue_is v) xs ≡ Some (record { front = take i xs; line = x; rest = drop (i + 1) xs })
      spot = found x ∙ ap (λ y. Some (record { front = take i xs; line = y; rest = drop (i + 1) xs })) (sym here)

      pub its_size : size_at v xs ≡ x.size
      its_size = size_located xs ∙ ap size_in spot

      pub all_taken : (n : ℕ) → x.size ≡ n → lessened v n xs ≡ remove xs i
      all_taken n e =
          less_located n xs ∙ ap (λ o. less_in n o xs) spot
          ∙ cond-true (eqb x.size n) (take i xs ++ drop (i + 1) xs) (take i xs ++ resized (x.size - n) x ∷ drop (i + 1) xs) (eq-eqb x.size n e)
          ∙ cut

      pub some_taken : (n : ℕ) → (x.size ≡ n → ⊥) → lessened v n xs ≡ set xs i (resized (x.size - n) x)
      some_taken n e =
          less_located n xs ∙ ap (λ o. less_in n o xs) spot
          ∙ cond-false (eqb x.size n) (take i xs ++ drop (i + 1) xs) (take i xs ++ resized (x.size - n) x ∷ drop (i + 1) xs) (ne_eqb x.size n e)
          ∙ rw add-one (sym (set_split xs i (resized (x.size - n) x) within))

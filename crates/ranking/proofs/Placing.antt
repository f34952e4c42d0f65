-- Steps of the search for a place, and what `place` keeps.
use Rattle.std.proofs.Common.{◌≡◌, ℕ, ◌+◌, ◌<◌, ◌≤◌, Bool, true, false, cond, List, [], ◌∷◌, ◌++◌, length, get_or, take, drop, sym, ap, ◌∙◌, subst, append_assoc}
use Rattle.std.proofs.lemmas.List.{take_more, at_drop_more, at_drop_all}
use Rattle.std.specs.List.{insert}
use Rattle.ranking.specs.Place.{place}

module _ {X : Type 0} (b : X → X → Bool) where
  -- one line more that x does not stand before
  pub place_more : (x : X) (xs : List X) (i : ℕ) (y : X) → i < length xs → y ≡ get_or xs i y → b x y ≡ false → place b x xs ≡ take i xs ++ place b x (drop i xs) → place b x xs ≡ take (i + 1) xs ++ place b x (drop (i + 1) xs)
  place_more x xs i y h read not_yet inv =
      let rest : drop i xs ≡ y ∷ drop (i + 1) xs = at_drop_more (λ zs. zs) xs i y h ∙ ap (λ z. z ∷ drop (i + 1) xs) (sym read) in
      let step : place b x (drop i xs) ≡ y ∷ place b x (drop (i + 1) xs) = ap (place b x) rest ∙ ap (λ t. cond t (x ∷ y ∷ drop (i + 1) xs) (y ∷ place b x (drop (i + 1) xs))) not_yet in
      let front : take (i + 1) xs ≡ take i xs ++ (y ∷ []) = take_more xs i y h ∙ ap (λ z. take i xs ++ (z ∷ [])) (sym read) in
      inv ∙ ap (λ zs. take i xs ++ zs) step ∙ sym (append_assoc (take i xs) (y ∷ []) (place b x (drop (i + 1) xs))) ∙ ap (λ zs. zs ++ place b x (drop (i + 1) xs)) (sym front)

  -- the first line that x stands before
  pub place_here : (x : X) (xs : List X) (i : ℕ) (y : X) → i < length xs → y ≡ get_or xs i y → b x y ≡ true → place b x xs ≡ take i xs ++ place b x (drop i xs) → insert xs i x ≡ place b x xs
  place_here x xs i y h read before inv =
      let rest : drop i xs ≡ y ∷ drop (i + 1) xs = at_drop_more (λ zs. zs) xs i y h ∙ ap (λ z. z ∷ drop (i + 1) xs) (sym read) in
      let step : place b x (drop i xs) ≡ x ∷ y ∷ drop (i + 1) xs = ap (place b x) rest ∙ ap (λ t. cond t (x ∷ y ∷ drop (i + 1) xs) (y ∷ place b x (drop (i + 1) xs))) before in
      sym (inv ∙ ap (λ zs. take i xs ++ zs) (step ∙ ap (λ zs. x ∷ zs) (sym rest)))

  -- no line that x stands before
  pub place_last : (x : X) (xs : List X) (i n : ℕ) → i ≡ n → length xs ≤ i → place b x xs ≡ take i xs ++ place b x (drop i xs) → insert xs n x ≡ place b x xs
  place_last x xs i n e h inv =
      let rest : drop i xs ≡ [] = at_drop_all (λ zs. zs) xs i h in
      let P : ℕ → Type 0 = λ k. insert xs k x ≡ place b x xs in
      subst P e (sym (inv ∙ ap (λ zs. take i xs ++ zs) (ap (place b x) rest ∙ ap (λ zs. x ∷ zs) (sym rest))))

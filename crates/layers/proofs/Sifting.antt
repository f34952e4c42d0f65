-- A take below, seen through a layer that shows only some lines.
use Rattle.std.proofs.Common.{◌≡◌, ℕ, ◌-◌, Bool, true, false, cond, not, List, [], ◌∷◌, Some, None, Ok, Err, Option, Result, sym, refl, ap, ◌∙◌, arith}
use Rattle.std.proofs.lemmas.Bool.Decides.{nat_tests}
use Rattle.ranking.specs.Place.{those}
use Rattle.market.specs.declared.types.Side.{Side}
use Rattle.market.specs.declared.types.Side.TheVariants.{Buy, Sell}
use Rattle.market.specs.declared.types.Quotation.{Quotation}
use Rattle.market.specs.declared.types.Refusal.{Refusal}
use Rattle.market.specs.declared.types.Refusal.TheVariants.{NoSuchLine}
use Rattle.market.specs.States.{Quotes, quotes_of, quoted, put_quotes, venue_is}
use Rattle.market.specs.Quotes.{one_a_venue, size_at, resized, lessened, Taken}
use Rattle.board.specs.Lines.{of_venue}
use Rattle.board.proofs.Dropping.{lacking}
use Rattle.board.proofs.Those.{every_those, pick_those}
use Rattle.layers.specs.Shows.{is_shown, TakenBelow}

-- the line, if it is shown
abbrev through : (Quotation → Bool) → Option Quotation → Option Quotation
through p None = None
through p (Some q) = cond (p q) (Some q) None

abbrev size_of : Option Quotation → ℕ
size_of None = 0
size_of (Some q) = q.size

size_is : (v : ℕ) (xs : List Quotation) → size_at v xs ≡ size_of (of_venue v xs)
size_is v [] = refl
size_is v (x ∷ xs) =
    let rest = size_is v xs in grind (arith, nat_tests)

none_of : (v : ℕ) (xs : List Quotation) → lacking v xs ≡ true → of_venue v xs ≡ None
none_of v [] h = refl
none_of v (x ∷ xs) h =
    let rest = none_of v xs in grind (arith, nat_tests)

module _ (p : Quotation → Bool) where
  -- the quotations that are shown of a board's
  abbrev pub sifted : Quotes → Quotes
  sifted q = quotes_of (those p q.bids) (those p q.offers)

  quoted_sifted : (d : Side) (q : Quotes) → quoted d (sifted q) ≡ those p (quoted d q)
  quoted_sifted d q = pick_those p d q.bids q.offers

  sifted_put : (d : Side) (xs : List Quotation) (q : Quotes) → sifted (put_quotes d xs q) ≡ put_quotes d (those p xs) (sifted q)
  sifted_put Buy xs q = refl
  sifted_put Sell xs q = refl

  -- a line that is shown is there, and passes
  pub shown_line : (o : Option Quotation) → is_shown p o ≡ true → (q : Quotation) × (o ≡ Some q) × (p q ≡ true)
  shown_line None h = absurd (cc)
  shown_line (Some q) h = (q, refl, h)

  -- a venue with no line has none among those that are shown
  none_those : (v : ℕ) (xs : List Quotation) → lacking v xs ≡ true → of_venue v (those p xs) ≡ None
  none_those v xs h = none_of v (those p xs) (every_those p (λ y. not (venue_is v y)) xs h)

  -- the line of a venue among those that are shown
  of_venue_those : (v : ℕ) (xs : List Quotation) → one_a_venue xs ≡ true → of_venue v (those p xs) ≡ through p (of_venue v xs)
  of_venue_those v [] h = refl
  of_venue_those v (x ∷ xs) h =
      let rest = of_venue_those v xs in
      let none : x.venue ≡ v → lacking x.venue xs ≡ true → of_venue v (those p xs) ≡ None = λ e. rw e (none_those v xs) in
      grind (arith, nat_tests)

  size_through : (o : Option Quotation) → size_of (through p o) ≡ cond (is_shown p o) (size_of o) 0
  size_through None = refl
  size_through (Some q) = grind arith

  -- the size of a venue's line among those that are shown
  size_lacking : (v : ℕ) (xs : List Quotation) → lacking v xs ≡ true → size_at v (those p xs) ≡ 0
  size_lacking v xs h = size_is v (those p xs) ∙ ap size_of (none_those v xs h)

  size_those : (v : ℕ) (xs : List Quotation) → one_a_venue xs ≡ true → size_at v (those p xs) ≡ cond (is_shown p (of_venue v xs)) (size_at v xs) 0
  size_those v xs h = rw (size_is v (those p xs), size_is v xs, of_venue_those v xs h) (size_through (of_venue v xs))

  module _ (sizeless : (q : Quotation) (n : ℕ) → p (resized n q) ≡ p q) where
    -- shares taken from a line that is shown are taken among those that are shown
    lessened_those : (v n : ℕ) (xs : List Quotation) → is_shown p (of_venue v xs) ≡ true → those p (lessened v n xs) ≡ lessened v n (those p xs)
    lessened_those v n [] t = refl
    lessened_those v n (x ∷ xs) t =
        let rest = lessened_those v n xs in
        let s = sizeless x (x.size - n) in
        grind (arith, nat_tests)

    module _ (d : Side) (v n : ℕ) (b : Quotes) (venues : one_a_venue (quoted d b) ≡ true) where
      size_sifted : size_at v (quoted d (sifted b)) ≡ cond (is_shown p (of_venue v (quoted d b))) (size_at v (quoted d b)) 0
      size_sifted = ap (size_at v) (quoted_sifted d b) ∙ size_those v (quoted d b) venues

      -- the venue's line is shown
      module _ (q : Quotation) (found : of_venue v (quoted d b) ≡ Some q) (shown : p q ≡ true) where
        same_size : size_at v (quoted d (sifted b)) ≡ size_at v (quoted d b)
        same_size = rw (found, shown) at size_sifted

        pub below_shown : {U : Type 0} (b' : Quotes) (r : Result U Refusal) → Taken d v n b b' r → TakenBelow p d v n b b' r
        below_shown b' r h = rw (found, shown) h

      pub taken_shown : {U : Type 0} (b' : Quotes) (r : Result U Refusal) → is_shown p (of_venue v (quoted d b)) ≡ true → Taken d v n b b' r → Taken d v n (sifted b) (sifted b') r
      taken_shown b' (Ok u) t h =
          let line = shown_line (of_venue v (quoted d b)) t in
          (h.0, rw (same_size line.0 line.1 line.2) h.1, ap sifted h.2 ∙ sifted_put d (lessened v n (quoted d b)) b ∙ ap (λ xs. put_quotes d xs (sifted b)) (lessened_those v n (quoted d b) t ∙ ap (lessened v n) (sym (quoted_sifted d b))))
      taken_shown b' (Err e) t h =
          let line = shown_line (of_venue v (quoted d b)) t in
          (rw (same_size line.0 line.1 line.2) h.0, h.1, ap sifted h.2)

      -- the venue has no line, or one that is hidden
      module _ (hidden : is_shown p (of_venue v (quoted d b)) ≡ false) where
        not_through : (o : Option Quotation) → is_shown p o ≡ false → through p o ≡ None
        not_through None h = refl
        not_through (Some q) h = rw h

        pub none_shown : size_at v (quoted d (sifted b)) ≡ 0
        none_shown = ap (size_at v) (quoted_sifted d b) ∙ size_is v (those p (quoted d b)) ∙ ap size_of (of_venue_those v (quoted d b) venues ∙ not_through (of_venue v (quoted d b)) hidden)

        pub below_hidden : (U : Type 0) → TakenBelow {U = U} p d v n b b (Err NoSuchLine)
        below_hidden U = rw hidden (refl, refl)

      pub taken_hidden : (U : Type 0) → is_shown p (of_venue v (quoted d b)) ≡ false → Taken {U = U} d v n (sifted b) (sifted b) (Err NoSuchLine)
      taken_hidden U f = (λ some enough. omega (arith, none_shown f), refl, refl)

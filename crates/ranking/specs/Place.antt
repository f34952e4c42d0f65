-- A ranked list, by a test that says which of two lines stands before the other.
use Rattle.std.specs.Prelude.{◌≡◌, ℕ, ◌+◌, ◌<◌, Bool, true, cond, not, ◌&&◌, List, [], ◌∷◌, ◌++◌, length, take, drop, Some, None, Option, slice_index_or}

abbrev pub head_of : {X : Type 0} → List X → Option X
head_of [] = None
head_of (x ∷ xs) = Some x

abbrev pub past_first : {X : Type 0} → List X → List X
past_first [] = []
past_first (x ∷ xs) = xs

-- each line passes the test
abbrev pub every : {X : Type 0} → (X → Bool) → List X → Bool
every t [] = true
every t (x ∷ xs) = t x && every t xs

-- x put before the first line that it stands before, so behind its equals
abbrev pub place : {X : Type 0} → (X → X → Bool) → X → List X → List X
place b x [] = x ∷ []
place b x (y ∷ ys) = cond (b x y) (x ∷ y ∷ ys) (y ∷ place b x ys)

-- no line of the list stands before x
abbrev pub none_before : {X : Type 0} → (X → X → Bool) → X → List X → Bool
none_before b x [] = true
none_before b x (y ∷ ys) = not (b y x) && none_before b x ys

-- no line stands before one that is ahead of it
abbrev pub in_rank : {X : Type 0} → (X → X → Bool) → List X → Bool
in_rank b [] = true
in_rank b (x ∷ xs) = none_before b x xs && in_rank b xs

-- the lines that pass a test
abbrev pub those : {X : Type 0} → (X → Bool) → List X → List X
those t [] = []
those t (x ∷ xs) = cond (t x) (x ∷ those t xs) (those t xs)

-- x behind every line that it does not stand before, and ahead of every line that it does
abbrev pub behind : {X : Type 0} → (X → X → Bool) → X → List X → List X
behind b x ys = those (λ y. not (b x y)) ys ++ x ∷ those (b x) ys

-- a line with what stands ahead of it and behind it
pub record Spot (X : Type 0) : Type 0 where
  pub front : List X
  pub line : X
  pub rest : List X

abbrev pub past : {X : Type 0} → X → Option (Spot X) → Option (Spot X)
past x None = None
past x (Some s) = Some (record { front = x ∷ s.front; line = s.line; rest = s.rest })

-- the first line that passes the test
abbrev pub locate : {X : Type 0} → (X → Bool) → List X → Option (Spot X)
locate t [] = None
locate t (x ∷ xs) = cond (t x) (Some (record { front = []; line = x; rest = xs })) (past x (locate t xs))

-- the line at a place; d only fills in past the end
abbrev pub spot_at : {X : Type 0} → List X → ℕ → X → Spot X
spot_at xs i d = record { front = take i xs; line = slice_index_or xs i d; rest = drop (i + 1) xs }

-- what a search answers: the place of the first line that passes, or none where none passes
abbrev pub Found : {X : Type 0} → (X → Bool) → List X → Option ℕ → Type 0
Found t xs None = locate t xs ≡ None
Found {X = X} t xs (Some i) = (i < length xs) × ((d : X) → locate t xs ≡ Some (spot_at xs i d))

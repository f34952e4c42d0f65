-- Equal books, and the law that they are equal exactly when no further string of calls tells them apart.
use Rattle.std.specs.Prelude.{◌≡◌, ℕ, ◌+◌, ◌≤◌, Bool, true, false, ◌≢◌, ◌⊎◌, List, [], ◌∷◌, length, Decides}
use Rattle.market.specs.States.{State}
use Rattle.market.specs.Calls.{Pass, ready, Says, Outcome}
use Rattle.market.specs.Sheets.{seen, Equal}
use Rattle.market.specs.Sound.{Sound}
use Rattle.laws.specs.Strings.{Turn, Playable, does}

-- an answer: the reports or the refusal, and the pass
pub record Answer : Type 0 where
  pub says : Says
  pub pass : Pass

abbrev pub answered : Outcome → Answer
answered o = record { says = o.says; pass = seen o.pass }

abbrev pub answers : List Turn → State → Pass → List Answer
answers [] s p = []
answers (t ∷ ts) s p = answered (does t s p) ∷ answers ts (does t s p).state (does t s p).pass

-- two or more order numbers are unused
abbrev pub TwoUnused : State → Type 0
TwoUnused s = (1 ≤ s.next) × (s.next ≤ 4294967294)

-- a string of at most k calls on which the answers of two Ready books differ
abbrev pub Differ : ℕ → State → State → Type 0
Differ k s s' = (ts : List Turn) × Playable ts × (length ts ≤ k) × (answers ts s ready ≢ answers ts s' ready)

-- equal books draw the same answers from every string
abbrev pub EqualAnswerAlike : Type 0
EqualAnswerAlike = (s s' : State) → Equal s s' → (ts : List Turn) → answers ts s ready ≡ answers ts s' ready

-- two books are equal, or some short string tells them apart
abbrev pub EqualOrToldApart : Type 0
EqualOrToldApart =
    (s s' : State) → Sound s → Sound s' → TwoUnused s → TwoUnused s' → Equal s s' ⊎ Differ (length s.buys + length s.sells + 4) s s'

-- no string of calls, whichever boards show its quotations, tells the two books apart
abbrev pub NeverToldApart : State → State → Type 0
NeverToldApart s s' = (ts : List Turn) → Playable ts → answers ts s ready ≡ answers ts s' ready

-- THE LAW: equal exactly when no further string of calls tells the two books apart
abbrev pub EqualExactly : Type 0
EqualExactly =
    (s s' : State) → Sound s → Sound s' → TwoUnused s → TwoUnused s' → (Equal s s' → NeverToldApart s s') × (NeverToldApart s s' → Equal s s')

-- what the verdict of a comparison says of later trading: of equal books, that no string ever draws different answers from them; of others,
-- where each has two or more unused numbers, that a string does which has at most four calls more than the first book has resting orders
abbrev pub Foretells : Bool → State → State → Type 0
Foretells true s s' = (ts : List Turn) → answers ts s ready ≡ answers ts s' ready
Foretells false s s' = TwoUnused s → TwoUnused s' → Differ (length s.buys + length s.sells + 4) s s'

-- where each book has two or more unused numbers, the verdict is true exactly when no string of calls, whichever boards show its
-- quotations, tells the two books apart
abbrev pub ToldExactly : Bool → State → State → Type 0
ToldExactly r s s' = TwoUnused s → TwoUnused s' → Decides r (NeverToldApart s s')

-- Time priority: once an order rests with nothing held back, no later trade takes another that came to rest or was refreshed after it
-- at its side and price, until it is gone.
use Rattle.std.specs.Prelude.{◌≡◌, ℕ, ◌+◌, ◌-◌, ◌<◌, Bool, true, false, cond, ◌&&◌, ◌||◌, ◌⊎◌, List, [], ◌∷◌, ◌==◌, nat_lt}
use Rattle.market.specs.declared.types.Side.{Side}
use Rattle.market.specs.declared.types.Side.TheVariants.{Buy, Sell}
use Rattle.market.specs.declared.types.Resting.{Resting}
use Rattle.market.specs.declared.types.Report.{Report}
use Rattle.market.specs.declared.types.What.{What}
use Rattle.market.specs.declared.types.What.TheVariants.{In, Trade, Sent, Rest, Off, Back}
use Rattle.market.specs.declared.types.Reason.{Reason}
use Rattle.market.specs.declared.types.Reason.TheVariants.{Cancelled, Cut, Replaced, Expired, Unfilled, WouldLock, NoRoute, SideFull}
use Rattle.market.specs.Sides.{across_of}
use Rattle.market.specs.States.{State, new_state, on}
use Rattle.market.specs.Calls.{Pass, ready, Says, reports, refused}
use Rattle.laws.specs.Strings.{Turn, does, state_after, pass_after, Reported}

abbrev pub same_side : Side → Side → Bool
same_side Buy Buy = true
same_side Buy Sell = false
same_side Sell Buy = false
same_side Sell Sell = true

-- the reason of a cut
abbrev pub is_cut : Reason → Bool
is_cut Cut = true
is_cut Cancelled = false
is_cut Replaced = false
is_cut Expired = false
is_cut Unfilled = false
is_cut WouldLock = false
is_cut NoRoute = false
is_cut SideFull = false

-- the shares that the resting order n of the side d lost by a report: its trades and its cuts
abbrev pub lost_by : Side → ℕ → What → Report → ℕ
lost_by d n (Trade m) r = cond (same_side d (across_of r.side) && m == n) r.shares 0
lost_by d n (Off why) r = cond (same_side d r.side && (r.number == n && is_cut why)) r.shares 0
lost_by d n In r = 0
lost_by d n (Sent v) r = 0
lost_by d n (Rest held) r = 0
lost_by d n (Back unfilled v) r = 0

abbrev pub losses : Side → ℕ → List Report → ℕ
losses d n [] = 0
losses d n (r ∷ rs) = lost_by d n r.what r + losses d n rs

abbrev pub lost : Side → ℕ → Says → ℕ
lost d n (reports rs) = losses d n rs
lost d n (refused m) = 0

-- the reasons for which a resting order is taken off whole: cancelled, replaced or expired
abbrev pub ousting : Reason → Bool
ousting Cancelled = true
ousting Replaced = true
ousting Expired = true
ousting Cut = false
ousting Unfilled = false
ousting WouldLock = false
ousting NoRoute = false
ousting SideFull = false

-- a report takes it off
abbrev pub ousted_by : Side → ℕ → What → Report → Bool
ousted_by d n (Off why) r = same_side d r.side && (r.number == n && ousting why)
ousted_by d n (Trade m) r = false
ousted_by d n In r = false
ousted_by d n (Sent v) r = false
ousted_by d n (Rest held) r = false
ousted_by d n (Back unfilled v) r = false

abbrev pub ousts : Side → ℕ → List Report → Bool
ousts d n [] = false
ousts d n (r ∷ rs) = ousted_by d n r.what r || ousts d n rs

abbrev pub ousted : Side → ℕ → Says → Bool
ousted d n (reports rs) = ousts d n rs
ousted d n (refused m) = false

-- the order n, which has r shares left, is not gone by these calls: none takes it off, and its trades and cuts do not reach r
abbrev pub Stays : Side → ℕ → ℕ → List Turn → State → Pass → Type 0
Stays d n r [] s p = Unit {0}
Stays d n r (t ∷ ts) s p =
    (ousted d n (does t s p).says ≡ false) × (lost d n (does t s p).says < r) × Stays d n (r - lost d n (does t s p).says) ts (does t s p).state (does t s p).pass

-- the shares that the sheet has the order n holding back
abbrev pub held_of : ℕ → List Resting → ℕ
held_of n [] = 0
held_of n (p ∷ ps) = cond (p.number == n) p.held (held_of n ps)

-- by this report an order of the side d comes to rest, or is refreshed: a trade after which the sheet has it holding less
abbrev pub comes_by : Side → List Resting → List Resting → What → Report → List ℕ → List ℕ
comes_by d xs ys (Rest held) r late = cond (same_side d r.side) (r.number ∷ late) late
comes_by d xs ys (Trade m) r late = cond (same_side d (across_of r.side) && nat_lt (held_of m ys) (held_of m xs)) (m ∷ late) late
comes_by d xs ys In r late = late
comes_by d xs ys (Sent v) r late = late
comes_by d xs ys (Off why) r late = late
comes_by d xs ys (Back unfilled v) r late = late

abbrev pub comers : Side → List Resting → List Resting → List Report → List ℕ → List ℕ
comers d xs ys [] late = late
comers d xs ys (r ∷ rs) late = comers d xs ys rs (comes_by d xs ys r.what r late)

abbrev pub later : Side → List Resting → List Resting → Says → List ℕ → List ℕ
later d xs ys (reports rs) late = comers d xs ys rs late
later d xs ys (refused m) late = late

-- the numbers of the side d that came to rest or were refreshed during these calls
abbrev pub latecomers : Side → List ℕ → List Turn → State → Pass → List ℕ
latecomers d late [] s p = late
latecomers d late (t ∷ ts) s p =
    latecomers d (later d (on d s) (on d (does t s p).state) (does t s p).says late) ts (does t s p).state (does t s p).pass

abbrev pub InList : ℕ → List ℕ → Type 0
InList m [] = ⊥
InList m (k ∷ ks) = (k ≡ m) ⊎ InList m ks

-- THE LAW. From a new book, after any calls ts₀: a call reports that an order comes to rest (r) with nothing held back; then come any calls ts
-- by which it is not gone; then a call reports a trade (x) with the resting order m, at r's side and price. The order m is none that came to
-- rest or was refreshed during ts. (The order r itself is none of these: nothing held is never refreshed, and what stands does not come to rest.)
abbrev pub TimePriority : Type 0
TimePriority =
    (n : ℕ) (ts₀ : List Turn) (t : Turn) (ts : List Turn) (u : Turn) (r x : Report) (m : ℕ) →
    let s₀ : State = state_after ts₀ (new_state n) ready in
    let p₀ : Pass = pass_after ts₀ (new_state n) ready in
    let s₁ : State = (does t s₀ p₀).state in
    let p₁ : Pass = (does t s₀ p₀).pass in
    let s₂ : State = state_after ts s₁ p₁ in
    let p₂ : Pass = pass_after ts s₁ p₁ in
    Reported r (does t s₀ p₀).says → r.what ≡ Rest 0 →
    Stays r.side r.number r.shares ts s₁ p₁ →
    Reported x (does u s₂ p₂).says → x.what ≡ Trade m → across_of x.side ≡ r.side → x.price ≡ r.price →
    InList m (latecomers r.side [] ts s₁ p₁) → ⊥

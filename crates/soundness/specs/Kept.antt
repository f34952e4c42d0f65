-- Every call keeps a sound book sound, whatever a board may show.
use Rattle.std.specs.Prelude.{◌≡◌, true}
use Rattle.market.specs.declared.types.Call.{Call}
use Rattle.market.specs.States.{State, Quotes, fits}
use Rattle.market.specs.Quotes.{Shown}
use Rattle.market.specs.Calls.{Pass, ready, ended, in_hand, call}
use Rattle.market.specs.Sound.{Sound, able}

-- a pass that may be borne on this book: what is in hand is legal, and its number is given and stands nowhere in the book
abbrev pub Bearable : Pass → State → Type 0
Bearable ready s = Unit {0}
Bearable ended s = Unit {0}
Bearable (in_hand o) s = (able o ≡ true) × (fits o.number s ≡ true)

-- THE LAW: whatever call is made, the book afterwards is sound and the pass that comes back may be borne on it. A part of sound is that
-- no buy meets a sell (Parted): so no call leaves the book locked or crossed.
abbrev pub SoundKept : Type 0
SoundKept =
    (q : Quotes) (c : Call) (s : State) (p : Pass) → Shown q → Sound s → Bearable p s →
    Sound (call q c s p).state × Bearable (call q c s p).pass (call q c s p).state

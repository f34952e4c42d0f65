-- Every book that is reached from a new one, whatever calls are made and whatever the boards may show, is sound.
use Rattle.std.specs.Prelude.{ℕ, List}
use Rattle.market.specs.States.{State, new_state}
use Rattle.market.specs.Calls.{Pass, ready}
use Rattle.market.specs.Sound.{Sound}
use Rattle.soundness.specs.Kept.{Bearable}
use Rattle.laws.specs.Strings.{Turn, Playable, state_after, pass_after}

-- THE LAW: the book is sound, and so never locked or crossed (Parted), and its pass may be borne on it
abbrev pub ReachedSound : Type 0
ReachedSound =
    (n : ℕ) (ts : List Turn) → Playable ts →
    let s : State = state_after ts (new_state n) ready in
    let p : Pass = pass_after ts (new_state n) ready in
    Sound s × Bearable p s

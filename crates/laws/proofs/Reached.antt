-- Every book that is reached from a new one is sound.
use Rattle.std.proofs.Common.{List, [], ◌∷◌}
use Rattle.market.specs.States.{State, new_state}
use Rattle.market.specs.Calls.{Pass, ready, Outcome}
use Rattle.market.specs.Sound.{Sound}
use Rattle.soundness.specs.Kept.{Bearable}
use Rattle.soundness.proofs.Keeps.{sound_new}
use Rattle.soundness.proofs.Kept.{sound_kept_lem}
use Rattle.laws.specs.Strings.{Turn, Playable, does, state_after, pass_after}
use Rattle.laws.specs.Reached.{ReachedSound}

pub sound_after : (ts : List Turn) (s : State) (p : Pass) → Playable ts → Sound s → Bearable p s → Sound (state_after ts s p) × Bearable (pass_after ts s p) (state_after ts s p)
sound_after [] s p w h b = (h, b)
sound_after (t ∷ ts) s p w h b =
    let o : Outcome = does t s p in
    let k = sound_kept_lem t.quotes t.call s p w.0 h b in
    sound_after ts o.state o.pass w.1 k.0 k.1

pub reached_sound_lem : ReachedSound
reached_sound_lem n ts w = sound_after ts (new_state n) ready w (sound_new n) tt

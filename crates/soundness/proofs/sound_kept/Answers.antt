use Rattle.soundness.proofs.Kept.{sound_kept_lem}
use Rattle.soundness.proofs.sound_kept.Goals as goal

pub returns : goal.returns
returns c = sound_kept_lem

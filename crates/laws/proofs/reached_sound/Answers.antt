use Rattle.laws.proofs.Reached.{reached_sound_lem}
use Rattle.laws.proofs.reached_sound.Goals as goal

pub returns : goal.returns
returns c = reached_sound_lem

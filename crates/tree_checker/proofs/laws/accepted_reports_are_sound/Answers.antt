use Rattle.tree_checker.proofs.SoundLaws.{sound_law}
use Rattle.tree_checker.proofs.laws.accepted_reports_are_sound.Goals as goal

pub returns : goal.returns
returns c = sound_law

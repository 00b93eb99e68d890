use Rattle.std.proofs.Common.{refl}
use Rattle.maid_examples.proofs.Rooms.{of_uniform}
use Rattle.maid_examples.proofs.trials.sight_uniform_has.Goals as goal

pub has-requires : goal.has-requires
has-requires c = of_uniform c.in_ok-diagram.ensures c.in_ok-profile.ensures.rules c.follower_and_leader.ensures.sound.of_uniform refl refl

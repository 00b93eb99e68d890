use Rattle.std.proofs.Common.{refl}
use Rattle.maid_examples.proofs.Rooms.{of_uniform}
use Rattle.maid_examples.proofs.trials.joined_uniform_has.Goals as goal

pub has-requires : goal.has-requires
has-requires c = of_uniform c.in_ok-diagram.ensures c.in_ok-profile.ensures.rules c.one_state_between.ensures.sound.uniform_joined refl refl

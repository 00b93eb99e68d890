use Rattle.std.proofs.Common.{refl}
use Rattle.maid_examples.proofs.Rooms.{of_rules}
use Rattle.maid_examples.proofs.trials.joined_much_has.Goals as goal

pub has-requires : goal.has-requires
has-requires c = of_rules c.in_ok-diagram.ensures c.in_ok-profile.ensures c.one_state_between.ensures.sound.much_joined refl refl

use Rattle.std.proofs.Common.{refl}
use Rattle.maid_examples.proofs.Rooms.{of_uniform}
use Rattle.maid_examples.proofs.trials.trip_uniform_has.Goals as goal

pub has-requires : goal.has-requires
has-requires c = of_uniform c.in_ok-diagram.ensures c.in_ok-profile.ensures.rules c.a_trip.ensures.sound.of_uniform refl refl

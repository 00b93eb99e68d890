use Rattle.std.proofs.Common.{refl}
use Rattle.maid_examples.proofs.Rooms.{of_rules}
use Rattle.maid_examples.proofs.trials.team_plan_has.Goals as goal

pub has-requires : goal.has-requires
has-requires c = of_rules c.in_ok-diagram.ensures c.in_ok-profile.ensures c.shared_result.ensures.sound.of_plan refl refl

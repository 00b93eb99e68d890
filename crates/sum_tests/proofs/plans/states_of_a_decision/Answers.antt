use Rattle.sum_tests.proofs.Samples.{states_asked}
use Rattle.sum_tests.proofs.plans.states_of_a_decision.Goals as goal

pub gives-requires-clause-asked : goal.gives-requires-clause-asked
gives-requires-clause-asked g c = states_asked

pub gives-requires-2-clause-asked : goal.gives-requires-2-clause-asked
gives-requires-2-clause-asked g c = states_asked

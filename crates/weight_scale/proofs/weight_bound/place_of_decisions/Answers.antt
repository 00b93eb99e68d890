use Rattle.weight_scale.proofs.BoundPlaces.{one_more_decision}
use Rattle.weight_scale.proofs.weight_bound.place_of_decisions.Goals as goal

pub loop-v-preserved : goal.loop-v-preserved
loop-v-preserved c = one_more_decision c.args.diagram.now c.loop-v.v c.loop-v.invariant (λ is. c.in-Within.ensures.decision is)

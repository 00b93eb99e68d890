use Rattle.weight_scale.proofs.BoundPlaces.{place_of_decision, one_bound_place}
use Rattle.weight_scale.proofs.weight_bound.bound.Goals as goal

pub returns-in-Within-clause-only : goal.returns-in-Within-clause-only
returns-in-Within-clause-only c place is = one_bound_place c.args.diagram.now place c.place_of_agents.result is c.place_of_agents.ensures

pub returns-in_default : goal.returns-in_default
returns-in_default c =
    let d = c.args.diagram.now in
    let here = place_of_decision d c.place_of_decisions.result c.in_default.not-Within c.place_of_decisions.ensures.place in
    record { place = here; only = λ place is. one_bound_place d place c.place_of_decisions.result is here; diagram = c.place_of_decisions.ensures.diagram }

use Rattle.maid_model.specs.Scopes.{scope_of, goals_of}
use Rattle.weight_scale.specs.declared.scopes.Counted.TheVariants.{ChanceAndDecisions}
use Rattle.weight_scale.proofs.BoundPlaces.{place_is}
use Rattle.weight_scale.proofs.weight_bound.place_at.Goals as goal

pub returns-in-Some-clause-decision : goal.returns-in-Some-clause-decision
returns-in-Some-clause-decision c is =
    let nodes = c.args.diagram.now.nodes in
    place_is c.args.diagram.now c.in-Some.scope ChanceAndDecisions (scope_of nodes c.args.v) (goals_of nodes c.args.v) c.place.result c.in-Some.ensures.1 c.place.ensures

use Rattle.weight_scale.proofs.GivenMembers.{given_ancestors}
use Rattle.weight_scale.proofs.scopes.scope_given.Goals as goal

pub returns : goal.returns
returns c =
    given_ancestors c.args.diagram.now.nodes c.args.node c.args.agent c.utilities_of-ends.ensures.diagram.graph c.requires c.utilities_of-ends.result c.utilities_of-ends.ensures.utilities c.utilities_of-ends.ensures.tested
    c.parts_are_diagrams.ensures.ancestors c.insert.new.self c.ancestors.result c.insert.ensures.all c.ancestors.ensures

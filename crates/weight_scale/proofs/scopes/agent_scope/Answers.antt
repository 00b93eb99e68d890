use Rattle.weight_scale.proofs.ScopeMembers.{agents_ancestors}
use Rattle.weight_scale.proofs.scopes.agent_scope.Goals as goal

pub returns : goal.returns
returns c = agents_ancestors c.args.diagram.now.nodes c.args.agent c.utilities_of.result c.utilities_of.ensures.utilities c.utilities_of.ensures.tested c.utilities_of.ensures.diagram.graph c.ancestors.result c.ancestors.ensures

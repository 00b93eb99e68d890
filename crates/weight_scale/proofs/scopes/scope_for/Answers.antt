use Rattle.std.proofs.Common.{refl}
use Rattle.maid_model.specs.Parts.{leads_to}
use Rattle.maid_model.specs.Scopes.{utilities_for}
use Rattle.weight_scale.proofs.ScopeMembers.{agents_ancestors, members_are, utilities_are}
use Rattle.weight_scale.proofs.scopes.scope_for.Goals as goal

pub returns : goal.returns
returns c =
    let nodes = c.args.diagram.now.nodes in
    record {
      counts = refl;
      members_are = members_are nodes (leads_to nodes (utilities_for nodes c.args.agent)) c.ancestors.result (agents_ancestors nodes c.args.agent c.utilities_of-utilities.result c.utilities_of-utilities.ensures.utilities c.utilities_of-utilities.ensures.tested c.utilities_of-utilities.ensures.diagram.graph c.ancestors.result c.ancestors.ensures);
      utilities_are = utilities_are nodes c.args.agent c.utilities_of-utilities.result c.utilities_of-utilities.ensures.utilities c.utilities_of-utilities.ensures.tested;
    }

use Rattle.std.proofs.Common.{refl, sym, ◌∙◌, ◌∷◌}
use Rattle.maid_model.specs.Nodes.{IsDecision}
use Rattle.maid_model.specs.Parts.{leads_to}
use Rattle.maid_model.specs.Scopes.{goals_of}
use Rattle.weight_scale.proofs.ScopeMembers.{members_are, goals_are}
use Rattle.weight_scale.proofs.scopes.scope_of.Goals as goal

pub returns-in-Decision : goal.returns-in-Decision
returns-in-Decision c =
    let nodes = c.args.diagram.now.nodes in
    let is : IsDecision nodes c.args.v = record { within = c.requires; kind = sym c.kind.ensures.kind ∙ c.in-Decision.is } in (
      is,
      record {
        counts = refl;
        members_are = members_are nodes (leads_to nodes (c.args.v ∷ goals_of nodes c.args.v)) c.scope_of_goals.result c.scope_of_goals.ensures;
        utilities_are = goals_are nodes c.kind.ensures.diagram.graph c.args.v is c.goals_of-goals.result c.goals_of-goals.ensures;
      },
    )

use Rattle.std.proofs.Common.{◌≡◌, List, ℕ, subst}
use Rattle.std.specs.Prelude.{IfOk}
use Rattle.node_sets.specs.Sets.{holds}
use Rattle.maid_model.specs.Nodes.{numbers_of}
use Rattle.maid_model.specs.Parts.{leads_to}
use Rattle.diagram_graph.proofs.Kept.{picked_told}
use Rattle.diagram_graph.proofs.parts.kept_nodes.Goals as goal

pub returns : goal.returns
returns c =
    let nodes = c.args.diagram.now.nodes in
    subst (λ (l : List ℕ). IfOk c.listed.result (λ kept. kept.items ≡ l))
    (picked_told (holds c.kept_set-set.result) (leads_to nodes c.args.of.now) (numbers_of nodes) c.kept_set-set.ensures) c.listed.ensures

use Rattle.requisite_trim.proofs.Requisites.{requisites_told}
use Rattle.requisite_trim.proofs.Unseen.{unseen_alike}
use Rattle.requisite_trim.proofs.requisite_nodes.RequisiteNodes.of.Goals as goal

-- the search tells of each node as if it were a parent, and with the arc it is one
pub returns : goal.returns
returns c =
    let nodes = c.args.diagram.now.nodes in
    let d = c.args.decision in
    let graph = c.count-count.ensures.diagram.graph in
    let tells = requisites_told nodes d _ c.reach_from_goals.ensures in
    record {
      seen = λ x arc. tells x (graph.parents_known x d arc);
      unseen = λ x within back.
          let alike = unseen_alike nodes x d c.requires graph back in
          ((λ m. alike.0 ((tells x within).0 m)), (λ r. (tells x within).1 (alike.1 r)));
    }

use Rattle.std.proofs.Common.{arith}
use Rattle.requisite_trim.proofs.Requisites.{requisites_told}
use Rattle.requisite_trim.proofs.searches.requisite.Goals as goal

pub reached-requires : goal.reached-requires
reached-requires c = let l = c.count-count.ensures.diagram.graph.parents_known c.args.parent c.args.decision c.requires.arc in let m = c.count-count.ensures.diagram.limits.nodes in omega arith

pub returns : goal.returns
returns c =
    let tells = requisites_told c.args.diagram.now.nodes c.args.decision _ c.reach_from_goals.ensures c.args.parent (c.count-count.ensures.diagram.graph.parents_known c.args.parent c.args.decision c.requires.arc) in
    ((λ t. tells.0 (c.reached.ensures.0 t)), (λ r. c.reached.ensures.1 (tells.1 r)))

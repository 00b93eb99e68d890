use Rattle.std.proofs.Common.{◌∙◌, ap, set}
use Rattle.std.proofs.lemmas.List.{map-set}
use Rattle.diagram_graph.specs.Cycles.{lists_in}
use Rattle.tree_checker.proofs.agent_sums.set_factors.Goals as goal

pub returns : goal.returns
returns c = map-set (λ row. row.items) c.args.factors.now c.args.v c.copy_from_slice.new.self ∙ ap (set (lists_in c.args.factors.now) c.args.v) c.copy_from_slice.ensures.items

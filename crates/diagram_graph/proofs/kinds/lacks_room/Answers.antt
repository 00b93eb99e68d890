use Rattle.std.proofs.Common.{rules}
use Rattle.diagram_graph.proofs.Deciding.{chance_within, rules_grow}
use Rattle.diagram_graph.proofs.kinds.lacks_room.Goals as goal

pub cells_at-requires : goal.cells_at-requires
cells_at-requires c = chance_within c.args.diagram.now.nodes c.args.node c.requires

pub returns : goal.returns
returns c agent =
    let grown = rules_grow c.args.diagram.now.nodes agent c.args.node c.requires in
    let all = c.rule_cells.ensures in
    let here = c.cells_at.ensures.cells in
    search (rules, grown, all, here)

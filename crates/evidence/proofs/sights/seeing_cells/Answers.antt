use Rattle.std.proofs.Common.{◌≡◌, ◌*◌, ◌∙◌, sym}
use Rattle.diagram_graph.specs.Room.{cells_at}
use Rattle.evidence.proofs.Seen.{own_same}
use Rattle.evidence.proofs.sights.seeing_cells.Goals as goal

pub returns : goal.returns
returns c =
    let cells : c.rows.result * c.states.result ≡ cells_at c.args.diagram.now.nodes c.args.v = (λ i. c.rows.ensures i * c.states.ensures.states i) in
    own_same c.args.diagram.now c.args.node c.states.ensures.diagram c.args.v (c.is_decision.ensures.decision.0 c.if-not-is_decision.false) (sym c.adds.ensures ∙ c.if-adds.false) _ cells

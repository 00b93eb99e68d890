use Rattle.std.proofs.Common.{◌≡◌, ◌/◌}
use Rattle.std.proofs.lemmas.Result.{IfOk-weaker}
use Rattle.diagram_graph.specs.Edited.{with_nodes}
use Rattle.maid_model.specs.Views.{DiagramView}
use Rattle.threshold.specs.declared.weights.Scales.{Scales}
use Rattle.threshold.specs.Ends.{IsEnd}
use Rattle.threshold.specs.Weights.{rewritten}
use Rattle.threshold.proofs.Ending.{moves_to_nought, end_of}
use Rattle.threshold.proofs.ends.at_nought.Goals as goal

pub rewrite-requires-clause-fits : goal.rewrite-requires-clause-fits
rewrite-requires-clause-fits c = (moves_to_nought c.args.diagram.now c.args.place c.count-count.ensures.diagram c.requires.cell c.args.totals c.requires.totals).fits

pub rewrite-requires-clause-kept : goal.rewrite-requires-clause-kept
rewrite-requires-clause-kept c = (moves_to_nought c.args.diagram.now c.args.place c.count-count.ensures.diagram c.requires.cell c.args.totals c.requires.totals).kept

pub returns : goal.returns
returns c =
    let scales : Scales = record { times = c.args.totals.common / c.args.totals.table; given = 0; each = c.args.totals.common / c.args.totals.others } in
    IfOk-weaker c.rewrite.result (λ (made : DiagramView). made ≡ with_nodes c.args.diagram.now (rewritten c.args.diagram.now.nodes c.args.place scales)) (IsEnd c.args.diagram.now c.args.place 0 c.args.totals.common)
    (λ made e. end_of c.args.diagram.now c.args.place scales 0 c.args.totals.common made e (moves_to_nought c.args.diagram.now c.args.place c.count-count.ensures.diagram c.requires.cell c.args.totals c.requires.totals)) c.rewrite.ensures

-- A new table, and copies of all nodes in which it is put.
use Rattle.std.proofs.Common.{◌≡◌, ◌∙◌, ◌<◌, ℕ, List, length, IfOk, slice_set, ℤ, ap, subst, sym}
use Rattle.std.proofs.lemmas.Result.{IfOk-from_err}
use Rattle.arc_laws.proofs.ControlLaws.{chance_within}
use Rattle.maid_model.specs.Diagrams.{IsDiagram}
use Rattle.maid_model.specs.Nodes.{node_at}
use Rattle.maid_model.specs.Views.{NodeView, DiagramView, diagram_of}
use Rattle.threshold.specs.declared.weights.Place.{Place}
use Rattle.threshold.specs.declared.weights.Scales.{Scales}
use Rattle.threshold.specs.Faults.{node_with}
use Rattle.threshold.specs.Weights.{new_table, rewritten_diagram}
use Rattle.threshold.proofs.ends.rewrite.Goals as goal

pub new_table-requires-clause-cell : goal.new_table-requires-clause-cell
new_table-requires-clause-cell c = c.requires.cell

pub new_table-requires-clause-fits : goal.new_table-requires-clause-fits
new_table-requires-clause-fits c = c.requires.fits

pub returns-in_err-cells : goal.returns-in_err-cells
returns-in_err-cells c = IfOk-from_err _ _ c.from_residual.ensures.0

pub returns-in_err-nodes : goal.returns-in_err-nodes
returns-in_err-nodes c = IfOk-from_err _ _ c.from_residual-in_err-nodes.ensures.0

pub returns-in_err-made : goal.returns-in_err-made
returns-in_err-made c = IfOk-from_err _ _ c.from_residual-in_err-made.ensures.0

-- the diagram as it is rewritten, of what is made
made_is : (d : DiagramView) (place : Place) (scales : Scales) (nodes : List NodeView) (made node : NodeView) (cells : List ℤ) (agents decimals : ℕ) → nodes ≡ d.nodes → made ≡ node_with node cells → node ≡ node_at d.nodes place.node → cells ≡ new_table d.nodes place scales → agents ≡ d.agents → decimals ≡ d.decimals → diagram_of (slice_set nodes place.node made) agents decimals ≡ rewritten_diagram d place scales
made_is d place scales nodes made node cells agents decimals e f g h j k = λ i. diagram_of (slice_set (e i) place.node ((f ∙ (λ l. node_with (g l) (h l))) i)) (j i) (k i)

pub node-requires : goal.node-requires
node-requires c = chance_within c.args.diagram.now.nodes c.args.place.node c.requires.cell.kind

pub index_mut-requires : goal.index_mut-requires
index_mut-requires c = subst (λ n. c.args.place.node < n) (sym (c.in_ok-nodes.nodes.ok.0 ∙ ap length c.in_ok-nodes.ensures)) (chance_within c.args.diagram.now.nodes c.args.place.node c.requires.cell.kind)

pub from_nodes-requires : goal.from_nodes-requires
from_nodes-requires c = subst IsDiagram (sym (made_is c.args.diagram.now c.args.place c.args.scales _ _ _ _ _ _ c.in_ok-nodes.ensures c.in_ok-made.ensures c.node.ensures.node c.in_ok-cells.ensures c.agents.ensures.agents c.decimals.ensures.decimals)) c.requires.kept

pub returns : goal.returns
returns c = subst (λ d. IfOk c.from_nodes.result (λ made. made ≡ d)) (made_is c.args.diagram.now c.args.place c.args.scales _ _ _ _ _ _ c.in_ok-nodes.ensures c.in_ok-made.ensures c.node.ensures.node c.in_ok-cells.ensures c.agents.ensures.agents c.decimals.ensures.decimals) c.from_nodes.ensures

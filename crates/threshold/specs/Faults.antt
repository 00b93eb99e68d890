-- What refuses the question how far a probability may move: no other state of the row has weight,
-- or the numbers of the changed diagrams don't surely fit.
use Rattle.std.specs.Prelude.{◌≡◌, ◌≢◌, ℕ, ◌<◌, ◌/◌, ℤ, List, map, slice_set, Option, Some, None, pos, ◌*ℤ◌, nat_abs}
use Rattle.diagram_graph.specs.Edited.{with_nodes}
use Rattle.first_fault.specs.Passes.{Pass, ◌▸◌, over, rule}
use Rattle.maid_model.specs.Diagrams.{greatest_number}
use Rattle.maid_model.specs.Nodes.{node_at, states_of}
use Rattle.maid_model.specs.Tables.{chance_total}
use Rattle.maid_model.specs.Views.{NodeView, DiagramView}
use Rattle.reach_laws.specs.Threshold.{state_weight, others_weight}
use Rattle.rule_solver.specs.Faults.{bound_pass}
use Rattle.rule_solver.specs.Faults as solver
use Rattle.whole_num.specs.Divisors.{IsLcm}
use Rattle.threshold.specs.declared.faults.SpanFault.{SpanFault}
use Rattle.threshold.specs.declared.faults.SpanFault.TheVariants as faults

-- a fault that tells of the diagram
pub data FaultView : Type 0 where
  NoOthers : FaultView
  WeightBound : Option ℕ → FaultView

-- the fault in an error, or None where memory ran out, which says nothing of the diagram
abbrev pub span_fault : SpanFault → Option FaultView
span_fault faults.NoOthers = Some NoOthers
span_fault (faults.WeightBound node) = Some (WeightBound node)
span_fault faults.NoMemory = None

-- all other states of the row weigh nought
abbrev pub OthersWeighNought : List NodeView → ℕ → ℕ → ℕ → Type 0
OthersWeighNought nodes x state row =
    (s : ℕ) → s < states_of nodes x → s ≢ state → state_weight nodes x s row ≡ pos 0

-- the least common multiple of the table's total and of what the other states of the row weigh
abbrev pub IsCommonMultiple : List NodeView → ℕ → ℕ → ℕ → ℕ → Type 0
IsCommonMultiple nodes x state row total =
    IsLcm (chance_total nodes x) (nat_abs (others_weight nodes x state row)) total

-- the node with other cells
abbrev pub node_with : NodeView → List ℤ → NodeView
node_with node cells = record {
  kind = node.kind;
  owner = node.owner;
  more = node.more;
  states = node.states;
  parents = node.parents;
  cells = cells;
}

-- other cells in x's table
abbrev pub with_cells : List NodeView → ℕ → List ℤ → List NodeView
with_cells nodes x cells = slice_set nodes x (node_with (node_at nodes x) cells)

-- the same diagram, the weights of x's table written over this multiple of its total
abbrev pub with_total : DiagramView → ℕ → ℕ → DiagramView
with_total d x total = with_nodes d (with_cells d.nodes x (map
    (λ w. w *ℤ pos (total / chance_total d.nodes x)) (node_at d.nodes x).cells))

-- the weight bound is kept in each scope, or the place of the first that fails is found
abbrev pub scoped_pass : DiagramView → Pass FaultView
scoped_pass d None = bound_pass d None
scoped_pass d (Some (WeightBound node)) = bound_pass d (Some (solver.WeightBound node))
scoped_pass d (Some NoOthers) = ⊥

-- the multiple is within the range of totals, and with it in the place of x's total the weight
-- bound is kept
abbrev pub total_pass : DiagramView → ℕ → ℕ → Pass FaultView
total_pass d x total =
    rule (greatest_number < total) (WeightBound (Some x)) ▸ scoped_pass (with_total d x total)

-- the refusals, one behind another
abbrev pub span_pass : DiagramView → ℕ → ℕ → ℕ → Pass FaultView
span_pass d x state row = rule (OthersWeighNought d.nodes x state row) NoOthers
    ▸ over (IsCommonMultiple d.nodes x state row) (total_pass d x)

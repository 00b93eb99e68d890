-- The cells of rules, and whether they keep the limits.
use Rattle.std.specs.Prelude.{ℕ, ◌*◌, ◌<◌, ◌≤◌, List, length, if◌then◌else◌}
use Rattle.maid_model.specs.declared.limits.TheConstants.{MOST_PARENTS, MOST_CELLS, MOST_RULE_CELLS}
use Rattle.maid_model.specs.Views.{NodeView, DiagramView}
use Rattle.maid_model.specs.Nodes.{node_at, is_decision, states_of, parents_of, rows_of, decisions_of}
use Rattle.maid_model.specs.Graph.{Arc, IsPath}
use Rattle.maid_model.specs.Edits.{as_decision, with_arc}
use Rattle.finite_sums.specs.Sums.{nat_sum_over}

-- the cells of v's table or rule: one for each row and state
abbrev pub cells_at : List NodeView → ℕ → ℕ
cells_at nodes v = rows_of nodes v * states_of nodes v

-- the cells of all rules together
abbrev pub rule_cells : List NodeView → ℕ
rule_cells nodes = nat_sum_over (cells_at nodes) (decisions_of nodes)

-- what v adds to them
abbrev pub rule_cells_at : List NodeView → ℕ → ℕ
rule_cells_at nodes v = if is_decision (node_at nodes v).kind then cells_at nodes v else 0

-- the decision's parents, the cells of its rule, and those of all rules together are not too many
pub record RulesFit (nodes : List NodeView) (d : ℕ) : Type 0 where
  pub parents : length (parents_of nodes d) ≤ MOST_PARENTS
  pub cells : cells_at nodes d ≤ MOST_CELLS
  pub all : rule_cells nodes ≤ MOST_RULE_CELLS

-- the arc from x to d is not there and closes no cycle, but makes too much of the rules
pub record IsArcTooLarge (nodes : List NodeView) (x d : ℕ) : Type 0 where
  pub absent : Arc nodes x d → ⊥
  pub no_cycle : IsPath (Arc nodes) d x → ⊥
  pub too_much : RulesFit (with_arc nodes x d) d → ⊥

-- as a decision of the agent the node makes too much of the rules
abbrev pub IsTooLargeAsDecision : List NodeView → ℕ → ℕ → Type 0
IsTooLargeAsDecision nodes agent v = MOST_RULE_CELLS < rule_cells (as_decision nodes agent v)

-- the same of a node of the diagram
abbrev pub LacksRoomFor : DiagramView → ℕ → ℕ → Type 0
LacksRoomFor d agent v = IsTooLargeAsDecision d.nodes agent v

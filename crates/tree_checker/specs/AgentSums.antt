-- An agent's sum under rules that are exchanged one by one.
use Rattle.std.specs.Prelude.{◌≡◌, ℕ, ◌<◌, List, length}
use Rattle.diagram_graph.specs.Cycles.{IsNodeOrder, lists_in}
use Rattle.maid_model.specs.Private.{MarksUtilities}
use Rattle.maid_model.specs.Profiles.{IsProfile}
use Rattle.maid_model.specs.Views.{NodeView}
use Rattle.maid_model.specs.Worlds.{IsWorld, first_world}
use Rattle.maid_model.specs.Nodes.{counts_of, is_utility_of}
use Rattle.node_sets.specs.Sets.{holds}
use Rattle.tree_checker.specs.declared.agent_sums.AgentSum.{AgentSum}
use Rattle.tree_checker.specs.Walks.{HoldsFactors}

-- what walks look at is right for the nodes and the rules
pub record IsAgentSum (nodes : List NodeView) (sum : AgentSum) : Type 0 where
  pub profile : IsProfile nodes sum.rules
  pub marked : MarksUtilities nodes sum.marks
  pub tested : (v : ℕ) → v < length nodes → holds sum.marks v ≡ is_utility_of nodes sum.agent v
  pub order : IsNodeOrder nodes sum.order.items
  pub factors : HoldsFactors nodes sum.rules (length nodes) (lists_in sum.factors.items)
  pub first : sum.world ≡ first_world (length nodes)
  pub world : IsWorld (counts_of nodes) sum.world

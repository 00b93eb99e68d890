-- What one search tells of all nodes that a decision sees or might see.
use Rattle.std.specs.Prelude.{◌↔◌, ℕ, ◌<◌, List, length}
use Rattle.maid_model.specs.Edits.{with_arc}
use Rattle.maid_model.specs.Graph.{Arc, IsPath}
use Rattle.maid_model.specs.Relevance.{IsRequisite}
use Rattle.maid_model.specs.Views.{NodeView}
use Rattle.node_sets.specs.Sets.{IsIn}
use Rattle.requisite_trim.specs.declared.requisite_nodes.RequisiteNodes.{RequisiteNodes}

-- the node is among the requisite ones
abbrev pub HasNode : RequisiteNodes → ℕ → Type 0
HasNode found x = IsIn found.marks.reached x

-- Of d's parents those that are requisite are found. Another node, which does not descend from d,
-- is found exactly where it is a requisite parent of d in the diagram with the arc.
pub record TellsNeeds (nodes : List NodeView) (d : ℕ) (found : RequisiteNodes) : Type 0 where
  pub seen : (x : ℕ) → Arc nodes x d → HasNode found x ↔ IsRequisite nodes d x
  pub unseen : (x : ℕ) → x < length nodes → (IsPath (Arc nodes) d x → ⊥)
      → HasNode found x ↔ IsRequisite (with_arc nodes x d) d x

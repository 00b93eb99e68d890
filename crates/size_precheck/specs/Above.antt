-- From where paths of arcs lead to nodes. Only private functions cite this file.
use Rattle.std.specs.Prelude.{◌↔◌, ℕ, ◌<◌, List, [], length, slice_index_or}
use Rattle.maid_model.specs.Graph.{Arc, IsPath}
use Rattle.maid_model.specs.Views.{NodeView}
use Rattle.node_sets.specs.declared.sets.NodeSet.{NodeSet}
use Rattle.node_sets.specs.Sets.{IsIn}

-- the set of the node, and of no number that the list lacks
abbrev pub set_at : List NodeSet → ℕ → NodeSet
set_at sets v = slice_index_or sets v (record { words = [] })

-- v, and all from which a path of arcs leads to it
abbrev pub IsAbove : List NodeView → ℕ → NodeSet → Type 0
IsAbove nodes v set = (u : ℕ) → IsIn set u ↔ IsPath (Arc nodes) u v

-- so it is of the nodes that are known
abbrev pub AreAboveKnown : List NodeView → NodeSet → List NodeSet → Type 0
AreAboveKnown nodes known sets = (v : ℕ) → IsIn known v → IsAbove nodes v (set_at sets v)

-- so it is of each node
abbrev pub AreAllAbove : List NodeView → List NodeSet → Type 0
AreAllAbove nodes sets = (v : ℕ) → v < length sets → IsAbove nodes v (set_at sets v)

-- the parents of v are known
abbrev pub KnowsParents : List NodeView → NodeSet → ℕ → Type 0
KnowsParents nodes known v = (u : ℕ) → Arc nodes u v → IsIn known u

-- a node is known that was not
abbrev pub FindsMore : NodeSet → NodeSet → Type 0
FindsMore before after = (v : ℕ) × IsIn after v × (IsIn before v → ⊥)

-- Arcs as sets of nodes.
use Rattle.std.specs.Prelude.{ℕ, slice_index_or}
use Rattle.node_sets.specs.declared.arcs.ArcSets.{ArcSets}
use Rattle.node_sets.specs.Sets.{IsIn, no_nodes}

-- u is one of the parents of v in these sets
abbrev pub HasParent : ArcSets → ℕ → ℕ → Type 0
HasParent arcs u v = IsIn (slice_index_or arcs.parents v no_nodes) u

-- v is one of the children of u in these sets
abbrev pub HasChild : ArcSets → ℕ → ℕ → Type 0
HasChild arcs u v = IsIn (slice_index_or arcs.children u no_nodes) v

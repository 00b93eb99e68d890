-- Notions that only contracts of private functions cite.
use Rattle.std.specs.Prelude.{◌≡◌, ◌≢◌, ℕ, ◌+◌, ◌<◌, ◌≤◌, ◌⊎◌, ◌↔◌, ◌==◌, List, Contains, length, take, slice_index, slice_index_or, slice_set, ℤ, pos, ◌*ℤ◌, if◌then◌else◌}
use Rattle.node_sets.specs.declared.sets.NodeSet.{NodeSet}
use Rattle.node_sets.specs.Arcs.{HasParent, HasChild}
use Rattle.node_sets.specs.Sets.{holds, IsIn}
use Rattle.maid_model.specs.declared.diagrams.Kind.TheVariants.{Utility}
use Rattle.maid_model.specs.declared.indexing.NodeIndex.{NodeIndex}
use Rattle.maid_model.specs.Views.{NodeView, DiagramView, RuleView}
use Rattle.maid_model.specs.Diagrams.{IsDiagram}
use Rattle.maid_model.specs.Graph.{Arc}
use Rattle.maid_model.specs.Relevance.{IsLive}
use Rattle.maid_model.specs.Nodes.{IsDecision, IsUtility, counts_of, node_at, numbers_of}
use Rattle.maid_model.specs.Gains.{table_without, weight_without}
use Rattle.maid_model.specs.Profiles.{no_rule}
use Rattle.finite_sums.specs.Sums.{World, sum_each}
use Rattle.maid_model.specs.Tables.{row_of}
use Rattle.maid_model.specs.Worlds.{world_of}

-- a utility, or two states or more
abbrev pub HasLiveStates : NodeView → Type 0
HasLiveStates node = (node.kind ≡ Utility) ⊎ (1 < node.states)

-- what is kept of these nodes: each node's parents and children, the live nodes, the utilities, the
-- counts of states
pub record IsIndexOf (nodes : List NodeView) (index : NodeIndex) : Type 0 where
  pub parents : (u v : ℕ) → HasParent index.arcs u v ↔ Arc nodes u v
  pub children : (u v : ℕ) → HasChild index.arcs u v ↔ Arc nodes u v
  pub live : (v : ℕ) → IsIn index.live v ↔ IsLive nodes v
  pub utilities : (v : ℕ) → IsIn index.utilities v ↔ IsUtility nodes v
  pub counts : take (length nodes) index.counts ≡ counts_of nodes

-- the arcs into v lead from the nodes of the list, and those into other nodes are as before
abbrev pub HasRenewed : (ℕ → ℕ → Type 0) → ℕ → List ℕ → ℕ → ℕ → Type 0
HasRenewed Before v list u w =
    (Before u w × (w ≡ v → ⊥)) ⊎ (Contains list u × (w ≡ v))

-- an influence diagram, and what is kept of its nodes
pub record IsIndexed (d : DiagramView) (index : NodeIndex) : Type 0 where
  pub diagram : IsDiagram d
  pub nodes : IsIndexOf d.nodes index

-- place i is the first with a rule of the decision
pub record IsFirstAt (p : List RuleView) (v i : ℕ) : Type 0 where
  pub within : i < length p
  pub found : (slice_index_or p i no_rule).decision ≡ v
  pub first : (k : ℕ) → k < i → (slice_index_or p k no_rule).decision ≢ v

-- for each decision the place of its rule
pub record HasPlaces (nodes : List NodeView) (p : List RuleView) (places : List ℕ) : Type 0 where
  pub len : length nodes ≤ length places
  pub at : (v : ℕ) → IsDecision nodes v → IsFirstAt p v (slice_index places v)

-- the cell that the world picks in v, if v is marked
abbrev pub marked_value : List NodeView → NodeSet → ℕ → World → ℤ
marked_value nodes marks v w = if holds marks v
    then slice_index_or (node_at nodes v).cells (row_of nodes v w) (pos 0)
    else pos 0

-- the sum of the marked cells
abbrev pub marked_utility : List NodeView → NodeSet → World → ℤ
marked_utility nodes marks w = sum_each (λ v. marked_value nodes marks v w) (numbers_of nodes)

-- only utilities are marked
abbrev pub MarksUtilities : List NodeView → NodeSet → Type 0
MarksUtilities nodes marks =
    (v : ℕ) → v < length nodes → IsIn marks v → (node_at nodes v).kind ≡ Utility

-- what a world of that weight, given by its states, adds to a sum of gains
abbrev pub marked_gain : List NodeView → NodeSet → ℕ → List ℕ → ℤ
marked_gain nodes marks weight world = pos weight *ℤ marked_utility nodes marks (world_of world)

-- x is v's factor in the weight of the world of these states, but for the decision left out
abbrev pub IsFactor : List NodeView → List RuleView → ℕ → ℕ → List ℕ → ℕ → Type 0
IsFactor nodes p left_out v world x = pos x ≡ table_without nodes p left_out v (world_of world)

-- x is the weight of the world of these states, without the rule of the decision left out
abbrev pub IsWeight : List NodeView → List RuleView → ℕ → List ℕ → ℕ → Type 0
IsWeight nodes p left_out world x = pos x ≡ weight_without nodes p left_out (world_of world)

-- a row's mass after a world of that weight, which counts where the decision has its first state
abbrev pub mass_after : ℕ → ℕ → ℕ → ℕ
mass_after state weight mass = if state == 0 then mass + weight else mass

-- the row's mass counts the world too, and the other rows keep theirs
abbrev pub AddsMass : ℕ → ℕ → ℕ → List ℕ → List ℕ → Type 0
AddsMass state row weight before after =
    after ≡ slice_set before row (mass_after state weight (slice_index before row))

-- What all plans of a diagram share. Public calls cite of this file only that a planner knows the
-- nodes.
use Rattle.std.specs.Prelude.{◌≡◌, ◌≢◌, ◌⊎◌, ◌↔◌, ℕ, ◌<◌, ◌+◌, Bool, List, [], ◌++◌, map, length, slice_index, slice_index_or, Contains, Option, option_to_list}
use Rattle.maid_model.specs.declared.diagrams.Kind.TheVariants.{Utility}
use Rattle.maid_model.specs.Nodes.{node_at, parents_of}
use Rattle.maid_model.specs.Views.{NodeView, DiagramView}
use Rattle.node_sets.specs.declared.sets.TheConstants.{MOST_NODES}
use Rattle.node_sets.specs.Sets.{holds, IsIn}
use Rattle.node_sets.specs.declared.sets.NodeSet.{NodeSet}
use Rattle.size_precheck.specs.declared.joints.Counted.{Counted}
use Rattle.size_precheck.specs.declared.joints.Joint.{Joint}
use Rattle.size_precheck.specs.declared.joints.Known.{Known}
use Rattle.size_precheck.specs.declared.planners.Family.{Family}
use Rattle.size_precheck.specs.declared.planners.Planner.{Planner}
use Rattle.size_precheck.specs.declared.simulation.Start.{Start}
use Rattle.size_precheck.specs.Above.{IsAbove}
use Rattle.size_precheck.specs.Joints.{counted_in, counted_over, family_test, joint_at, parents_test, AreStateCounts, IsCounted, IsCountedAt, IsListOf, IsGreedyStart}

-- what is known of a number that no node has
abbrev pub no_family : Family
no_family = record {
  table = record { tag = 0; scope = record { words = [] } };
  cells = 0;
  above = record { words = [] };
}

-- what is known of the node
abbrev pub family_at : List Family → ℕ → Family
family_at families v = slice_index_or families v no_family

-- u is v or one of its parents
abbrev pub IsOfFamily : List NodeView → ℕ → ℕ → Type 0
IsOfFamily nodes v u = (u ≡ v) ⊎ Contains (parents_of nodes v) u

-- the table over the node and its parents with its cells, and from where paths lead to the node
pub record IsFamily
    (nodes : List NodeView) (states : List ℕ) (v : ℕ) (family : Family) : Type 0 where
  pub tag : family.table.tag ≡ v
  pub scope : (u : ℕ) → IsIn family.table.scope u ↔ IsOfFamily nodes v u
  pub cells : family.cells ≡ counted_over states (holds family.table.scope)
  pub above : IsAbove nodes v family.above

-- so it is of the first nodes
abbrev pub AreFamilies : List NodeView → List ℕ → List Family → Type 0
AreFamilies nodes states families =
    (v : ℕ) → v < length families → IsFamily nodes states v (family_at families v)

-- of these alone from where paths lead to them
abbrev pub AreAbove : List NodeView → List Family → Type 0
AreAbove nodes families = (v : ℕ) → v < length families → IsAbove nodes v (family_at families v).above

-- the joint of y among the tables of these nodes, each over the node and its parents
pub record IsJointAmong (nodes : List NodeView) (Of : ℕ → Type 0) (y : ℕ) (joint : Joint) : Type 0 where
  pub tables : (x : ℕ) → IsIn joint.tables x ↔ (Of x × IsOfFamily nodes x y)
  pub set : (u : ℕ) → IsIn joint.set u
      ↔ ((x : ℕ) × Of x × IsOfFamily nodes x y × IsOfFamily nodes x u)

-- one of the first n nodes whose first table has weights: a chance or decision node
abbrev pub IsRuledBelow : List NodeView → ℕ → ℕ → Type 0
IsRuledBelow nodes n x = (x < n) × ((node_at nodes x).kind ≢ Utility)

-- y's joint among the tables of the first n nodes
abbrev pub IsJoinedBelow : List NodeView → ℕ → List Joint → ℕ → Type 0
IsJoinedBelow nodes n joints y = IsJointAmong nodes (IsRuledBelow nodes n) y (joint_at joints y)

-- the joints among the tables of the nodes before v become those among v's too
abbrev pub TakesFamily : List NodeView → ℕ → List Joint → List Joint → Type 0
TakesFamily nodes v before after =
    (y : ℕ) → IsJoinedBelow nodes v before y → IsJoinedBelow nodes (v + 1) after y

-- one whose first table has weights: a chance or decision node
abbrev pub IsRuled : List NodeView → ℕ → Type 0
IsRuled nodes x = IsRuledBelow nodes (length nodes) x

-- each node's joint among the tables of all chance and decision nodes
abbrev pub AreJointsOfAll : List NodeView → List Joint → Type 0
AreJointsOfAll nodes joints = (y : ℕ) → y < length nodes → IsJoinedBelow nodes (length nodes) joints y

-- of a node's tables those of these nodes are left, and the cells of its joined set are counted
pub record IsNarrowed
    (states : List ℕ) (families : List Family) (ruled : NodeSet) (joint : Joint) (cells : ℕ)
    (left : Counted) : Type 0 where
  pub joined : (nodes : List NodeView) (y : ℕ) → AreFamilies nodes states families
      → ((x : ℕ) → IsIn ruled x → IsRuled nodes x) → IsJointAmong nodes (IsRuled nodes) y joint
      → IsJointAmong nodes (IsIn ruled) y left.joint
  pub counted : IsCounted states joint cells → IsCounted states left.joint left.cells

-- it knows the nodes
pub record IsPlanner (nodes : List NodeView) (planner : Planner) : Type 0 where
  pub long : length planner.states.items ≡ MOST_NODES
  pub states : AreStateCounts nodes planner.states.items
  pub all : length planner.families.items ≡ length nodes
  pub families : AreFamilies nodes planner.states.items planner.families.items
  pub joints_len : length planner.joints.items ≡ length nodes
  pub joints : AreJointsOfAll nodes planner.joints.items
  pub counts_len : length planner.counts.items ≡ length nodes
  pub counts : (y : ℕ) → y < length nodes
      → IsCountedAt planner.states.items planner.joints.items planner.counts.items y

-- what the planner has of y, with the tables of these nodes alone
abbrev pub IsNarrowedAt : Planner → NodeSet → ℕ → Counted → Type 0
IsNarrowedAt planner ruled y left = IsNarrowed planner.states.items planner.families.items ruled
    (joint_at planner.joints.items y) (slice_index planner.counts.items y) left

-- so it is known of each node that waits
abbrev pub IsNarrowedFrom : Planner → NodeSet → NodeSet → Known → Type 0
IsNarrowedFrom planner ruled waiting known =
    (y : ℕ) → IsIn waiting y → IsNarrowedAt planner ruled y (counted_in known y)

-- v is above one of these nodes
abbrev pub IsAboveOne : List Family → NodeSet → ℕ → Type 0
IsAboveOne families ends v = (to : ℕ) × IsIn ends to × IsIn (family_at families to).above v

-- u is in the table of one of these nodes
abbrev pub IsInTableOf : List Family → NodeSet → ℕ → Type 0
IsInTableOf families tables u = (t : ℕ) × IsIn tables t × IsIn (family_at families t).table.scope u

-- the scopes of the first tables: those of these nodes, and that of the utility
abbrev pub scopes_of_tables : List NodeView → List ℕ → Option ℕ → List (ℕ → Bool)
scopes_of_tables nodes list utility =
    map (family_test nodes) list ++ map (parents_test nodes) (option_to_list utility)

-- the tables of these nodes and that of the utility are begun
abbrev pub IsBegun :
    DiagramView → Planner → NodeSet → Option ℕ → NodeSet → Start → Type 0
IsBegun d planner ruled utility waiting start =
    (list : List ℕ) → IsListOf ruled list
    → IsGreedyStart d.nodes planner.states.items (IsIn waiting) (scopes_of_tables d.nodes list utility)
    start

-- What the steps of the search for the bound's place promise one another.
use Rattle.std.specs.Prelude.{◌≡◌, ℕ, ◌<◌, ◌≤◌, ◌*◌, ◌^◌, max, List, filter, Option, MatchOption}
use Rattle.node_sets.specs.declared.sets.NodeSet.{NodeSet}
use Rattle.node_sets.specs.Sets.{holds}
use Rattle.finite_sums.specs.Sums.{nat_product_over}
use Rattle.maid_model.specs.Views.{NodeView, DiagramView}
use Rattle.maid_model.specs.Nodes.{IsDecision, numbers_of}
use Rattle.maid_model.specs.Bounds.{bound_factor}
use Rattle.maid_model.specs.Diagrams.{greatest_number}
use Rattle.maid_model.specs.Scopes.{goals_of, utilities_for, scope_of, scope_for, scope_bound, scope_product, chance_factor, greatest_of, PassesInScope, FailsFirst}
use Rattle.weight_scale.specs.declared.scopes.Counted.{Counted}
use Rattle.weight_scale.specs.declared.scopes.Counted.TheVariants.{ChanceAndDecisions, ChanceAlone}
use Rattle.weight_scale.specs.declared.scopes.Scope.{Scope}
use Rattle.weight_scale.specs.declared.weight_bound.BoundPlace.{BoundPlace}
use Rattle.weight_scale.specs.declared.weight_bound.BoundPlace.TheVariants.{Within, Node, Utilities}

-- the nodes that the set holds, in text order
abbrev pub members_of : List NodeView → NodeSet → List ℕ
members_of nodes set = filter (holds set) (numbers_of nodes)

-- with what a node counts in a product
abbrev pub factor_by : Counted → List NodeView → ℕ → ℕ
factor_by ChanceAndDecisions nodes v = bound_factor nodes v
factor_by ChanceAlone nodes v = chance_factor nodes v

-- S: the greatest absolute value of each of the scope's utilities, added up
abbrev pub greatest_sum : List NodeView → Scope → ℕ
greatest_sum nodes scope = greatest_of nodes (members_of nodes scope.utilities)

-- the product has room, times the greatest of the utilities' scale and that sum
abbrev pub HasRoomInScope : DiagramView → Scope → ℕ → Type 0
HasRoomInScope d scope product =
    product * max (10 ^ d.decimals) (greatest_sum d.nodes scope) ≤ greatest_number

-- the scope has these nodes and these utilities, and counts so
pub record IsScope
    (nodes : List NodeView) (counted : Counted) (members utilities : List ℕ) (scope : Scope) : Type
    0 where
  pub counts : scope.counted ≡ counted
  pub members_are : members_of nodes scope.nodes ≡ members
  pub utilities_are : members_of nodes scope.utilities ≡ utilities

-- it is the scope of the decision
abbrev pub IsScopeOf : List NodeView → ℕ → Scope → Type 0
IsScopeOf nodes d scope = IsDecision nodes d
    × IsScope nodes ChanceAndDecisions (scope_of nodes d) (goals_of nodes d) scope

-- the scope of v, if v is a decision
abbrev pub IsScopeIfDecision : List NodeView → ℕ → Option Scope → Type 0
IsScopeIfDecision nodes v found = MatchOption found (IsDecision nodes v → ⊥) (IsScopeOf nodes v)

-- it is the scope of the agent
abbrev pub IsScopeFor : List NodeView → ℕ → Scope → Type 0
IsScopeFor nodes agent scope =
    IsScope nodes ChanceAlone (scope_for nodes agent) (utilities_for nodes agent) scope

-- a scope's product by these factors, times the greatest of the utilities' scale and the sum of the
-- greatest values of these utilities
abbrev pub bound_in : DiagramView → (ℕ → ℕ) → List ℕ → List ℕ → ℕ
bound_in d factor members utilities =
    nat_product_over factor members * max (10 ^ d.decimals) (greatest_of d.nodes utilities)

-- of one scope. Within: its bound holds. Node: it fails, and its product passes there. Utilities:
-- it fails, and its product is within the range.
abbrev pub IsPlaceInScope : DiagramView → (ℕ → ℕ) → List ℕ → List ℕ → BoundPlace → Type 0
IsPlaceInScope d factor members utilities Within =
    bound_in d factor members utilities ≤ greatest_number
IsPlaceInScope d factor members utilities (Node v) =
    (greatest_number < bound_in d factor members utilities) × PassesInScope factor members v
IsPlaceInScope d factor members utilities Utilities = (greatest_number
    < bound_in d factor members utilities)
    × (nat_product_over factor members ≤ greatest_number)

-- of this scope
abbrev pub IsPlaceIn : DiagramView → Scope → BoundPlace → Type 0
IsPlaceIn d scope place = IsPlaceInScope d (factor_by scope.counted d.nodes)
    (members_of d.nodes scope.nodes) (members_of d.nodes scope.utilities) place

-- of the scope of a decision
abbrev pub IsPlaceOf : DiagramView → ℕ → BoundPlace → Type 0
IsPlaceOf d v place =
    IsPlaceInScope d (bound_factor d.nodes) (scope_of d.nodes v) (goals_of d.nodes v) place

-- the bound of each decision holds
abbrev pub KeepsDecisionBounds : DiagramView → Type 0
KeepsDecisionBounds d = (v : ℕ) → IsDecision d.nodes v → scope_bound d v ≤ greatest_number

-- of the decisions. Within: their bounds hold. Node: the first that fails passes there. Utilities:
-- it passes by its utilities alone.
abbrev pub IsPlaceOfDecisions : DiagramView → BoundPlace → Type 0
IsPlaceOfDecisions d Within = KeepsDecisionBounds d
IsPlaceOfDecisions d (Node v) =
    (e : ℕ) × FailsFirst d e × PassesInScope (bound_factor d.nodes) (scope_of d.nodes e) v
IsPlaceOfDecisions d Utilities =
    (e : ℕ) × FailsFirst d e × (scope_product d.nodes e ≤ greatest_number)

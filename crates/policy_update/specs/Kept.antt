-- What is kept from round to round. Only private functions cite it.
use Rattle.std.specs.Prelude.{◌≡◌, ◌↔◌, ◌⊎◌, ℕ, ◌<◌, List, All, Contains, length, slice_index, slice_index_or}
use Rattle.std.specs.List.{AllZip}
use Rattle.maid_laws.specs.Optimum.{IsPure}
use Rattle.maid_model.specs.Nodes.{decisions_of}
use Rattle.maid_model.specs.Scopes.{scope_of}
use Rattle.maid_model.specs.Views.{NodeView, RuleView}
use Rattle.node_sets.specs.declared.sets.NodeSet.{NodeSet}
use Rattle.node_sets.specs.declared.sets.TheConstants.{MOST_NODES}
use Rattle.node_sets.specs.Sets.{IsIn, no_nodes}
use Rattle.rule_solver.specs.declared.spaces.Workspaces.{Workspaces}
use Rattle.rule_solver.specs.Rooms.{AreReady, HasRoomForRun}
use Rattle.rule_solver.specs.Totals.{HasTotals}
use Rattle.size_precheck.specs.Decisions.{ArePlans}
use Rattle.policy_update.specs.declared.keeping.Kept.{Kept}

-- the set has the nodes of the decision's scope
abbrev pub IsScopeOf : List NodeView → ℕ → NodeSet → Type 0
IsScopeOf nodes d scope = (v : ℕ) → IsIn scope v ↔ Contains (scope_of nodes d) v

-- the decisions in text order, their plans and scopes, and the totals of all nodes in each profile
-- of pure rules
pub record IsKept (nodes : List NodeView) (kept : Kept) : Type 0 where
  pub decided : kept.decisions.now ≡ decisions_of nodes
  pub planned : ArePlans nodes (decisions_of nodes) kept.plans.now
  pub scoped : AllZip (IsScopeOf nodes) (decisions_of nodes) kept.scopes.items
  pub has_totals : (p : List RuleView) → IsPure nodes p → HasTotals nodes p kept.totals.items

-- so it is, and the workspaces have room for the run
pub record AreKept (nodes : List NodeView) (kept : Kept) (spaces : Workspaces) : Type 0 where
  pub is_kept : IsKept nodes kept
  pub cells : ℕ
  pub ready : AreReady cells spaces
  pub room : HasRoomForRun nodes cells

-- there is a decision for each scope, and its number has a place in a set
pub record AreDecisionsAndScopes (kept : Kept) : Type 0 where
  pub count : length kept.scopes.items ≡ length kept.decisions.now
  pub small : All (λ d. d < MOST_NODES) kept.decisions.now

-- e is one of the decisions, and its scope has d
pub record IsAffected (kept : Kept) (d e : ℕ) : Type 0 where
  pub place : ℕ
  pub within : place < length kept.scopes.items
  pub is : slice_index kept.decisions.now place ≡ e
  pub looks : IsIn (slice_index_or kept.scopes.items place no_nodes) d

-- the set gains the decisions whose scope has d
abbrev pub AddsAffected : Kept → ℕ → NodeSet → NodeSet → Type 0
AddsAffected kept d before after =
    (e : ℕ) → IsIn after e ↔ (IsIn before e ⊎ IsAffected kept d e)

-- What refuses a diagram: the first that applies of a second owner of decisions, the weight bound,
-- too large a run, and rounds that all raise.
use Rattle.std.specs.Prelude.{◌≡◌, ◌≢◌, ◌^◌, ℕ, List, Option, Some, None}
use Rattle.first_fault.specs.Passes.{Pass, ◌▸◌, rule}
use Rattle.maid_model.specs.declared.answers.Ratio.{Ratio}
use Rattle.maid_model.specs.Answers.{IsExpectedUtility}
use Rattle.maid_model.specs.Nodes.{IsDecision, agent_of, decisions_of}
use Rattle.maid_model.specs.Scopes.{KeepsScopedBounds}
use Rattle.maid_model.specs.Subgames.{OwnsAll}
use Rattle.maid_model.specs.Views.{NodeView, DiagramView, RuleView}
use Rattle.reach_laws.specs.Updates.{IsReachedAfter}
use Rattle.rule_solver.specs.Faults.{KeepsPlanLimits}
use Rattle.size_precheck.specs.declared.sizes.Size.{Size}
use Rattle.size_precheck.specs.Sizes.{IsSizeOfRun}
use Rattle.weight_scale.specs.Bound.{IsPassedAt, IsPassedByUtilities}
use Rattle.policy_update.specs.declared.faults.UpdateFault.{UpdateFault}
use Rattle.policy_update.specs.declared.faults.UpdateFault.TheVariants as faults

-- a fault that tells of the diagram
pub data FaultView : Type 0 where
  NotOneAgent : FaultView
  WeightBound : Option ℕ → FaultView
  TooLarge : ℕ → ℕ → FaultView
  RoundsSpent : ℕ → Ratio → FaultView

-- the fault in an error, or None where memory ran out, which says nothing of the diagram
abbrev pub update_fault : UpdateFault → Option FaultView
update_fault faults.NotOneAgent = Some NotOneAgent
update_fault (faults.WeightBound node) = Some (WeightBound node)
update_fault (faults.TooLarge cells work) = Some (TooLarge cells work)
update_fault (faults.RoundsSpent rounds gain) = Some (RoundsSpent rounds gain)
update_fault faults.NoMemory = None

-- two decisions have different owners
pub record HasTwoOwners (nodes : List NodeView) : Type 0 where
  pub one : ℕ
  pub other : ℕ
  pub one_decides : IsDecision nodes one
  pub other_decides : IsDecision nodes other
  pub differ : agent_of nodes one ≢ agent_of nodes other

-- no two decisions have different owners
abbrev pub owners_pass : DiagramView → Pass FaultView
owners_pass d = rule (HasTwoOwners d.nodes) NotOneAgent

-- the weight bound is kept in each scope, or the place of the first that fails is found: a node, or
-- else the utilities
abbrev pub update_bound_pass : DiagramView → Pass FaultView
update_bound_pass d None = KeepsScopedBounds d
update_bound_pass d (Some (WeightBound (Some v))) = IsPassedAt d v
update_bound_pass d (Some (WeightBound None)) = IsPassedByUtilities d
update_bound_pass d (Some fault) = ⊥

-- this is the size of a run over the decisions in text order
abbrev pub IsTextSize : DiagramView → Size → Type 0
IsTextSize d size = IsSizeOfRun d.nodes (decisions_of d.nodes) size

-- that run keeps the limits of cells and work
abbrev pub IsSmallEnoughForUpdate : DiagramView → Type 0
IsSmallEnoughForUpdate d = (size : Size) → IsTextSize d size → KeepsPlanLimits size

-- the run has these cells and this work, which pass a limit
abbrev pub IsTooLargeForUpdate : DiagramView → ℕ → ℕ → Type 0
IsTooLargeForUpdate d cells work = IsTextSize d (record { cells = cells; work = work })
    × (KeepsPlanLimits (record { cells = cells; work = work }) → ⊥)

-- the run is small enough, or its size is found
abbrev pub update_size_pass : DiagramView → Pass FaultView
update_size_pass d None = IsSmallEnoughForUpdate d
update_size_pass d (Some (TooLarge cells work)) = IsTooLargeForUpdate d cells work
update_size_pass d (Some fault) = ⊥

-- each of the first rounds raises, and after them the owner of all decisions has this expected
-- utility
pub record AllRaise (d : DiagramView) (rounds : ℕ) (gain : Ratio) : Type 0 where
  pub profile : List RuleView
  pub reached : IsReachedAfter d.nodes rounds profile
  pub owner : ℕ
  pub owns : OwnsAll d.nodes owner
  pub expected : IsExpectedUtility d.nodes (10 ^ d.decimals) profile owner gain

-- one of the first rounds does not raise, or their number is told and what they lead to is worth
abbrev pub rounds_pass : DiagramView → ℕ → Pass FaultView
rounds_pass d rounds None = (p : List RuleView) → IsReachedAfter d.nodes rounds p → ⊥
rounds_pass d rounds (Some (RoundsSpent n gain)) = (n ≡ rounds) × AllRaise d rounds gain
rounds_pass d rounds (Some fault) = ⊥

-- the stages of updating, one behind another
abbrev pub update_pass : DiagramView → ℕ → Pass FaultView
update_pass d rounds = owners_pass d ▸ update_bound_pass d ▸ update_size_pass d ▸ rounds_pass d rounds

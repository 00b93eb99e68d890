-- Plans that are kept for later runs, of other diagrams too.
use Rattle.std.specs.Prelude.{◌≡◌, ◌≢◌, ℕ, List, All, Option, Some, length, map}
use Rattle.maid_model.specs.Nodes.{IsDecision, decisions_of, agent_of, node_at, states_of, parents_of, is_utility, is_utility_of}
use Rattle.maid_model.specs.Views.{NodeView}
use Rattle.plan_sums.specs.Plans.{worth_plan}
use Rattle.size_precheck.specs.declared.decisions.DecisionPlans.{DecisionPlans}
use Rattle.size_precheck.specs.declared.keeping.KeptPlans.{KeptPlans}
use Rattle.size_precheck.specs.declared.keeping.KeptRun.{KeptRun}
use Rattle.size_precheck.specs.Decisions.{AreDecisionPlans}
use Rattle.size_precheck.specs.Families.{IsPlanner}
use Rattle.size_precheck.specs.Sizes.{ArePlansOfWorths, IsPlanned, SizedPlan}

-- what is kept is of a decision among these nodes, with its plans
pub record IsKept (nodes : List NodeView) (kept : KeptPlans) : Type 0 where
  pub decision : IsDecision nodes kept.decision
  pub plans : AreDecisionPlans nodes kept.decision kept.plans

-- these are kept of each decision of the nodes, in text order
abbrev pub FollowDecisions : List NodeView → List KeptPlans → Type 0
FollowDecisions nodes kept = map (λ k. k.decision) kept ≡ decisions_of nodes

-- what is found are plans of the decision among all nodes of which the list is kept
abbrev pub IsFoundInKept : List KeptPlans → ℕ → Option DecisionPlans → Type 0
IsFoundInKept kept d found =
    (nodes : List NodeView) (plans : DecisionPlans) → All (IsKept nodes) kept → found ≡ Some plans
    → AreDecisionPlans nodes d plans

-- what is kept of these nodes: what all their plans share, plans of decisions, and those of all
-- utilities' worths
pub record IsKeptRun (nodes : List NodeView) (kept : KeptRun) : Type 0 where
  pub planner : IsPlanner nodes kept.planner
  pub decisions : All (IsKept nodes) kept.decisions.items
  pub worths : ArePlansOfWorths nodes kept.worths.items

-- the others keep all that plans of the nodes' decisions look at: the states and the parents of
-- each node, the utilities of each agent, and the decisions with their agents; what else is a
-- chance node or a decision does not matter
pub record KeepsPlans (nodes others : List NodeView) : Type 0 where
  pub count : length others ≡ length nodes
  pub states : (v : ℕ) → states_of others v ≡ states_of nodes v
  pub parents : (v : ℕ) → parents_of others v ≡ parents_of nodes v
  pub utility :
      (v : ℕ) → is_utility (node_at others v).kind ≡ is_utility (node_at nodes v).kind
  pub owned : (agent v : ℕ) → is_utility_of others agent v ≡ is_utility_of nodes agent v
  pub decision : (d : ℕ) → IsDecision nodes d → IsDecision others d
  pub agent : (d : ℕ) → IsDecision nodes d → agent_of others d ≡ agent_of nodes d

-- then the plans that are kept of a decision are also those of the others' decision
abbrev pub KeptPlansStand : Type 0
KeptPlansStand = (nodes others : List NodeView) (kept : KeptPlans) → KeepsPlans nodes others
    → IsKept nodes kept → IsKept others kept

-- and all that is kept of the nodes is also kept of the others
abbrev pub KeptRunsStand : Type 0
KeptRunsStand = (nodes others : List NodeView) (kept : KeptRun) → KeepsPlans nodes others
    → IsKeptRun nodes kept → IsKeptRun others kept

-- the others have the nodes' kinds and states, and their parents but for those of one
pub record DifferAt (nodes others : List NodeView) (changed : ℕ) : Type 0 where
  pub count : length others ≡ length nodes
  pub kind : (v : ℕ) → (node_at others v).kind ≡ (node_at nodes v).kind
  pub states : (v : ℕ) → states_of others v ≡ states_of nodes v
  pub parents : (v : ℕ) → v ≢ changed → parents_of others v ≡ parents_of nodes v

-- these are the plans of all utilities' worths of nodes from which the others differ so
abbrev pub AreWorthsBeside : List NodeView → ℕ → List SizedPlan → Type 0
AreWorthsBeside others changed plans =
    (nodes : List NodeView) × DifferAt nodes others changed × ArePlansOfWorths nodes plans

-- the plan is that of a utility's worth, of nodes from which the others differ so
abbrev pub IsWorthBeside : List NodeView → ℕ → SizedPlan → Type 0
IsWorthBeside others changed plan =
    (nodes : List NodeView) × (u : ℕ) × DifferAt nodes others changed × IsPlanned nodes (worth_plan u) plan

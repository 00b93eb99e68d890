-- A setting as the program has it: what its plans are, and what the decision's gains and masses are
-- there.
use Rattle.std.specs.Global.{Vec}
use Rattle.std.specs.Prelude.{ℕ, List, ℤ, take}
use Rattle.eliminate.specs.Results.{plan_total}
use Rattle.factor_core.specs.Slots.{WorkspaceView}
use Rattle.maid_model.specs.Relevance.{IsGoal}
use Rattle.maid_model.specs.Scopes.{goals_of, scope_of}
use Rattle.plan_sums.specs.Plans.{PlanView, gain_plan, row_plan}
use Rattle.scope_sums.specs.Missing.{missing_in, missing_in_without}
use Rattle.size_precheck.specs.declared.decisions.DecisionPlans.{DecisionPlans}
use Rattle.size_precheck.specs.Decisions.{AreDecisionPlans}
use Rattle.size_precheck.specs.Sizes.{ArePlansOfGoals, IsPlanned, SizedPlan}
use Rattle.rule_solver.specs.declared.decision_sums.RowSums.{RowSums}
use Rattle.rule_solver.specs.declared.decision_sums.Setting.{Setting}
use Rattle.rule_solver.specs.declared.joint_goals.JointSums.{JointSums}
use Rattle.rule_solver.specs.declared.spaces.Workspaces.{Workspaces}
use Rattle.rule_solver.specs.Rooms.{AreReadyFor, AreReadyForDecision, AreReadyForGoals, IsReadyFor}
use Rattle.rule_solver.specs.Sums.{AddsGoals, AreRowGains, AreRowSums, HasGoals, HasMasses, HasRoomForGoals, IsSetting, KeepsRowRoom}
use Rattle.rule_solver.specs.Together.{IsJoint}

-- what the setting has is right
abbrev pub HoldsSetting : Setting → Type 0
HoldsSetting s = IsSetting s.diagram.now s.base.now s.decision s.totals.now s.scope

-- the goals of its decision
abbrev pub goals_in : Setting → List ℕ
goals_in s = goals_of s.diagram.now.nodes s.decision

-- this is one of them
abbrev pub IsGoalIn : Setting → ℕ → Type 0
IsGoalIn s goal = IsGoal s.diagram.now.nodes s.decision goal

-- ---- its plans
-- what the plan of the decision's rows asks for
abbrev pub plan_of_rows : Setting → PlanView
plan_of_rows s = row_plan s.diagram.now.nodes s.decision

-- what the plan of a goal asks for
abbrev pub plan_of_goal : Setting → ℕ → PlanView
plan_of_goal s goal = gain_plan s.diagram.now.nodes s.decision goal

-- the plan is that of the decision's rows
abbrev pub IsPlannedForRows : Setting → SizedPlan → Type 0
IsPlannedForRows s plan = IsPlanned s.diagram.now.nodes (plan_of_rows s) plan

-- the plan is that of the goal
abbrev pub IsPlannedForGoal : Setting → ℕ → SizedPlan → Type 0
IsPlannedForGoal s goal plan = IsPlanned s.diagram.now.nodes (plan_of_goal s goal) plan

-- the totals of the scope's nodes, but for the decision, that the plan of the rows lacks
abbrev pub lacking_in_rows : Setting → ℕ
lacking_in_rows s = missing_in_without s.diagram.now.nodes s.base.now s.decision
    (scope_of s.diagram.now.nodes s.decision) (plan_of_rows s)

-- the totals of the scope's nodes that the plan of the goal lacks
abbrev pub lacking_in_goal : Setting → ℕ → ℕ
lacking_in_goal s goal = missing_in s.diagram.now.nodes s.base.now
    (scope_of s.diagram.now.nodes s.decision) (plan_of_goal s goal)

-- no number in a run of the plan passes this total
abbrev pub total_in : Setting → SizedPlan → ℕ
total_in s plan = plan_total s.diagram.now.nodes s.base.now plan.plan

-- these are the plans of the decision
abbrev pub ArePlansIn : Setting → DecisionPlans → Type 0
ArePlansIn s plans = AreDecisionPlans s.diagram.now.nodes s.decision plans

-- these are the plans of the decision's goals
abbrev pub AreGoalPlansIn : Setting → List SizedPlan → Type 0
AreGoalPlansIn s plans = ArePlansOfGoals s.diagram.now.nodes s.decision plans

-- a workspace is ready, and has room for the plan of the rows
abbrev pub IsReadyForRows : {C : Type 0} → Setting → WorkspaceView C → Type 0
IsReadyForRows s work = IsReadyFor s.diagram.now.nodes (plan_of_rows s) work

-- so are and have two workspaces
abbrev pub AreReadyForRows :
    {C D : Type 0} → Setting → WorkspaceView C → WorkspaceView D → Type 0
AreReadyForRows s small wide = AreReadyFor s.diagram.now.nodes (plan_of_rows s) small wide

-- a workspace is ready, and has room for the plan of the goal
abbrev pub IsReadyForGoal : {C : Type 0} → Setting → ℕ → WorkspaceView C → Type 0
IsReadyForGoal s goal work = IsReadyFor s.diagram.now.nodes (plan_of_goal s goal) work

-- so are and have two workspaces
abbrev pub AreReadyForGoal :
    {C D : Type 0} → Setting → ℕ → WorkspaceView C → WorkspaceView D → Type 0
AreReadyForGoal s goal small wide =
    AreReadyFor s.diagram.now.nodes (plan_of_goal s goal) small wide

-- all workspaces are ready, and have room for the plans of the decision's goals
abbrev pub AreReadyForGoalsIn : Setting → Workspaces → Type 0
AreReadyForGoalsIn s spaces = AreReadyForGoals s.diagram.now.nodes s.decision spaces

-- all workspaces are ready, and have room for all plans of the decision
abbrev pub AreReadyForDecisionIn : Setting → Workspaces → Type 0
AreReadyForDecisionIn s spaces = AreReadyForDecision s.diagram.now.nodes s.decision spaces

-- this is what the joint sums of the decision's goals share
abbrev pub IsJointIn : Setting → JointSums → Type 0
IsJointIn s joint = IsJoint s.diagram.now.nodes s.base.now s.decision joint

-- ---- its gains and masses
-- the masses are those of the rows in the part of the decision's scope
abbrev pub HasMassesIn : Setting → List ℕ → Type 0
HasMassesIn s masses = HasMasses s.diagram.now s.base.now s.decision masses

-- each gain is what these goals give
abbrev pub HasGoalsIn : Setting → List ℕ → List ℤ → Type 0
HasGoalsIn s goals gains = HasGoals s.diagram.now.nodes s.base.now s.decision goals gains

-- there is room in each gain for what these goals give
abbrev pub HasRoomForGoalsIn : Setting → List ℕ → List ℤ → Type 0
HasRoomForGoalsIn s goals gains = HasRoomForGoals s.diagram.now s.decision goals gains

-- each gain is greater by what these goals give
abbrev pub AddsGoalsIn : Setting → List ℕ → List ℤ → List ℤ → Type 0
AddsGoalsIn s goals before after =
    AddsGoals s.diagram.now.nodes s.base.now s.decision goals before after

-- each gain is greater by what the first so many of these goals give
abbrev pub AddsFirstGoalsIn : Setting → List ℕ → List ℤ → List ℤ → ℕ → Type 0
AddsFirstGoalsIn s goals before after n = AddsGoalsIn s (take n goals) before after

-- these are the decision's gains and masses
abbrev pub AreRowSumsIn : Setting → RowSums → Type 0
AreRowSumsIn s sums = AreRowSums s.diagram.now.nodes s.base.now s.decision sums

-- these are the decision's gains
abbrev pub AreRowGainsIn : Setting → Vec ℤ → Type 0
AreRowGainsIn s gains = AreRowGains s.diagram.now.nodes s.base.now s.decision gains

-- they keep the weight bound, and the P of the scope
abbrev pub KeepsRoomIn : Setting → RowSums → Type 0
KeepsRoomIn s sums = KeepsRowRoom s.diagram.now.nodes s.decision sums

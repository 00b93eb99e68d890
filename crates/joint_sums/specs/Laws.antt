-- Laws of the joint sum: what it comes to, how it is got by elimination, and how large its cells
-- get.
use Rattle.std.specs.Prelude.{◌≡◌, ◌↔◌, ℕ, List, ◌∷◌, Contains, pos, ◌*ℤ◌}
use Rattle.finite_sums.specs.Sums.{World, InRange, sum_each}
use Rattle.maid_model.specs.Graph.{IsGraph}
use Rattle.maid_model.specs.Nodes.{IsDecision, states_of, parents_of}
use Rattle.maid_model.specs.Profiles.{IsProfile}
use Rattle.maid_model.specs.Relevance.{IsGoal}
use Rattle.maid_model.specs.Scopes.{scope_of}
use Rattle.maid_model.specs.Tables.{HasChanceTables}
use Rattle.maid_model.specs.Views.{NodeView, RuleView}
use Rattle.ring_sums.specs.Groups.{StepsFit, StepsHold}
use Rattle.ring_sums.specs.Tables.{product_of, joined, eliminate}
use Rattle.plan_sums.specs.Plans.{Cells, both_cells, gain_cells, has, eliminated_nodes, plan_sum, gain_plan}
use Rattle.scope_sums.specs.Missing.{missing_in}
use Rattle.joint_sums.specs.Joint.{joint_summed, joint_tables, joint_sum, joint_bound, IsJointOrder, AreGoals}

-- The gain of the joint sum in pairs is the sum of the goals' own plans, each times the totals of
-- the scope's nodes that the plan lacks.
abbrev pub JointGains : Type 0
JointGains = (nodes : List NodeView) (p : List RuleView) (d : ℕ) (us : List ℕ) (q : World)
    → IsGraph nodes → HasChanceTables nodes → IsProfile nodes p → IsDecision nodes d
    → AreGoals nodes d us → InRange (states_of nodes) q
    → (joint_sum both_cells nodes p d us q).g
    ≡ sum_each
    (λ u.
    plan_sum gain_cells nodes p (gain_plan nodes d u) q
    *ℤ pos (missing_in nodes p (scope_of nodes d) (gain_plan nodes d u))) us

-- Elimination in any order gives the joint sum.
abbrev pub RunsJoint : {C : Type 0} → Cells C → Type 0
RunsJoint c = (nodes : List NodeView) (p : List RuleView) (d : ℕ) (us steps : List ℕ) (q : World)
    → IsJointOrder nodes d steps → InRange (states_of nodes) q
    → product_of c.ring (eliminate c.ring (states_of nodes) steps (joint_tables c nodes p d us)) q
    ≡ joint_sum c nodes p d us q

-- Sizes: in each step all partial products and sums, and the products at the end, are at most the
-- product of the totals of the tables and of what bounds the cells of the utilities.
abbrev pub JointFits : {C : Type 0} → Cells C → (C → ℕ) → Type 0
JointFits c size = (nodes : List NodeView) (p : List RuleView) (d : ℕ) (us steps : List ℕ)
    → IsGraph nodes → HasChanceTables nodes → IsProfile nodes p → AreGoals nodes d us
    → IsJointOrder nodes d steps
    → StepsFit c.ring size (states_of nodes) (joint_bound nodes p d us) steps
    (joint_tables c nodes p d us)

-- At each step some live table holds the node.
abbrev pub JointHolds : {C : Type 0} → Cells C → Type 0
JointHolds c = (nodes : List NodeView) (p : List RuleView) (d : ℕ) (us steps : List ℕ)
    → AreGoals nodes d us → IsJointOrder nodes d steps
    → StepsHold c.ring (states_of nodes) steps (joint_tables c nodes p d us)

-- The last table looks at the decision and its parents, and at no other node.
abbrev pub JointKeeps : {C : Type 0} → Cells C → Type 0
JointKeeps c = (nodes : List NodeView) (p : List RuleView) (d : ℕ) (us steps : List ℕ)
    → IsGraph nodes → IsDecision nodes d → AreGoals nodes d us → IsJointOrder nodes d steps
    → (v : ℕ)
    → joined (eliminate c.ring (states_of nodes) steps (joint_tables c nodes p d us)) v
    ≡ has (d ∷ parents_of nodes d) v

-- A map of cells takes the joint sum to the joint sum.
abbrev pub MapsJoint : {C D : Type 0} → Cells C → Cells D → (C → D) → Type 0
MapsJoint c e f = (nodes : List NodeView) (p : List RuleView) (d : ℕ) (us : List ℕ) (q : World)
    → f (joint_sum c nodes p d us q) ≡ joint_sum e nodes p d us q

-- The nodes that are summed out are those that the plans of the decision's goals eliminate, if it
-- has a goal.
abbrev pub SummedByPlans : Type 0
SummedByPlans = (nodes : List NodeView) (d goal v : ℕ) → IsGraph nodes → IsDecision nodes d
    → IsGoal nodes d goal
    → Contains (joint_summed nodes d) v
    ↔ ((u : ℕ) × IsGoal nodes d u × Contains (eliminated_nodes nodes (gain_plan nodes d u)) v)

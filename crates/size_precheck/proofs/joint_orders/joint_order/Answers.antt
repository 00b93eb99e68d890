-- The nodes that wait are the steps of the goals' plans, which are nodes of the diagram.
use Rattle.std.proofs.Common.{◌∙◌, ◌↔◌, ◌<◌, ℕ, List, ap, arith, inr, length, map, subst, sym}
use Rattle.maid_model.specs.Views.{NodeView}
use Rattle.node_sets.specs.declared.sets.NodeSet.{NodeSet}
use Rattle.node_sets.specs.Sets.{IsIn}
use Rattle.plan_sums.specs.Plans.{gain_plan}
use Rattle.size_precheck.specs.declared.planners.Family.{Family}
use Rattle.size_precheck.specs.Decisions.{HaveNodesBelow, IsStepOf}
use Rattle.size_precheck.specs.Sizes.{ArePlansOfGoals, SizedPlan, goal_list}
use Rattle.size_precheck.proofs.Ordering.{lists_alike, nodes_below}
use Rattle.size_precheck.proofs.Placed.{placed_still}
use Rattle.size_precheck.proofs.joint_orders.joint_order.Goals as goal

below : (nodes : List NodeView) (d : ℕ) (goals : List SizedPlan) → ArePlansOfGoals nodes d goals → HaveNodesBelow (length nodes) goals
below nodes d goals are = nodes_below nodes (map (λ u. gain_plan nodes d u) (goal_list nodes d)) goals are

-- one that waits has a place
waits : (nodes : List NodeView) (d : ℕ) (goals : List SizedPlan) (waiting : NodeSet) (v : ℕ) → ArePlansOfGoals nodes d goals → ((x : ℕ) → IsIn waiting x ↔ IsStepOf goals x) → IsIn waiting v → v < length nodes
waits nodes d goals waiting v are steps m = let s = (steps v).0 m in below nodes d goals are v (s.0, s.1, inr s.2)

pub all_steps-waiting-requires : goal.all_steps-waiting-requires
all_steps-waiting-requires c v m =
    let here = below c.args.diagram.now.nodes c.args.decision c.args.goals.now c.requires.goals v m in
    let few = c.count-count.ensures.diagram.limits.nodes in
    omega (arith, here, few)

-- one that has a table of its own has a family
pub cells_of_tables-requires : goal.cells_of_tables-requires
cells_of_tables-requires c v m =
    subst (λ (n : ℕ). v < n) (sym (ap (λ (l : List Family). length l) c.deref.ensures.value ∙ c.requires.planner.all)) (below c.args.diagram.now.nodes c.args.decision c.args.goals.now c.requires.goals v ((c.all_members-members.ensures v).0 ((c.remove.ensures v).0 m).0))

pub list_narrowed-requires-clause-ruled : goal.list_narrowed-requires-clause-ruled
list_narrowed-requires-clause-ruled c v m =
    subst (λ (n : ℕ). v < n) (sym c.requires.planner.all) (below c.args.diagram.now.nodes c.args.decision c.args.goals.now c.requires.goals v ((c.all_members-members.ensures v).0 ((c.remove.ensures v).0 m).0))

pub list_narrowed-requires-clause-waiting : goal.list_narrowed-requires-clause-waiting
list_narrowed-requires-clause-waiting c v m =
    subst (λ (n : ℕ). v < n) (sym c.requires.planner.joints_len) (waits c.args.diagram.now.nodes c.args.decision c.args.goals.now c.all_steps-waiting.result v c.requires.goals c.all_steps-waiting.ensures m)

pub order_all-requires-clause-places : goal.order_all-requires-clause-places
order_all-requires-clause-places c = placed_still c.in_ok-known.known c.put_goals.new.known c.put_goals.ensures (IsIn c.all_steps-waiting.result) c.in_ok-known.ensures.places

pub returns : goal.returns
returns c some = lists_alike (IsIn c.all_steps-waiting.result) (IsStepOf c.args.goals.now) c.in_ok-order.order.items c.all_steps-waiting.ensures (c.in_ok-order.ensures some)

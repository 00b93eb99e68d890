use Rattle.std.proofs.Common.{◌∙◌, ℕ, Bool, List, [], length, map, ◌++◌, subst, sym, ap, arith}
use Rattle.std.specs.Prelude.{Contains, option_to_list}
use Rattle.std.proofs.lemmas.Result.{IfOk-weaker}
use Rattle.maid_model.specs.Views.{NodeView}
use Rattle.node_sets.specs.Sets.{IsIn}
use Rattle.plan_sums.specs.Plans.{PlanView, ruled_nodes, eliminated_nodes, mass_cells}
use Rattle.size_precheck.specs.declared.planners.Family.{Family}
use Rattle.size_precheck.specs.declared.simulation.Run.{Run}
use Rattle.size_precheck.specs.Families.{AreAbove}
use Rattle.size_precheck.specs.Joints.{IsGreedyStart, IsGreedyRun, IsRunOfPlan, family_test, parents_test}
use Rattle.size_precheck.specs.Greedy.{first_scopes}
use Rattle.size_precheck.proofs.Orders.{greedy_same}
use Rattle.size_precheck.proofs.Planning.{all_known, all_plain, all_ruled, in_waiting, ruled_listed, scopes_listed}
use Rattle.size_precheck.proofs.Starting.{kept_known}
use Rattle.size_precheck.proofs.plans.run_in.Goals as goal

pub set_of-kept-requires : goal.set_of-kept-requires
set_of-kept-requires c v m = let a = kept_known c.args.diagram.now.nodes _ c.requires.asked.is_plan v m in let b = c.requires.diagram.limits.nodes in omega arith

pub ruled_nodes-ruled-requires : goal.ruled_nodes-ruled-requires
ruled_nodes-ruled-requires c d e = let a = (c.requires.asked.decision d e).within in let b = c.requires.diagram.limits.nodes in omega arith

pub put_all_first-requires-clause-ruled : goal.put_all_first-requires-clause-ruled
put_all_first-requires-clause-ruled c v m =
    let plan : PlanView = record { keep = c.args.keep.now; without = c.args.without; utility = c.args.utility } in
    let inside = ((c.ruled_nodes-ruled.ensures v).0 m).0 in
    (all_known c.args.diagram.now.nodes plan c.plan_nodes-nodes.result c.plan_nodes-nodes.ensures v inside, all_ruled c.args.diagram.now.nodes plan c.plan_nodes-nodes.result c.plan_nodes-nodes.ensures c.requires.asked.is_plan v inside)

pub put_all_first-requires-clause-waiting : goal.put_all_first-requires-clause-waiting
put_all_first-requires-clause-waiting c v m =
    let plan : PlanView = record { keep = c.args.keep.now; without = c.args.without; utility = c.args.utility } in
    all_known c.args.diagram.now.nodes plan c.plan_nodes-nodes.result c.plan_nodes-nodes.ensures v ((c.difference-waiting.ensures v).0 m).0

pub put_all_first-requires-clause-unruled : goal.put_all_first-requires-clause-unruled
put_all_first-requires-clause-unruled c u some m =
    let plan : PlanView = record { keep = c.args.keep.now; without = c.args.without; utility = c.args.utility } in
    all_plain c.args.diagram.now.nodes plan c.plan_nodes-nodes.result c.plan_nodes-nodes.ensures c.requires.asked.is_plan u some ((c.ruled_nodes-ruled.ensures u).0 m).0

pub put_all_first-requires-clause-kept : goal.put_all_first-requires-clause-kept
put_all_first-requires-clause-kept c u some m =
    let plan : PlanView = record { keep = c.args.keep.now; without = c.args.without; utility = c.args.utility } in
    all_plain c.args.diagram.now.nodes plan c.plan_nodes-nodes.result c.plan_nodes-nodes.ensures c.requires.asked.is_plan u some ((c.difference-waiting.ensures u).0 m).0

pub eliminate_all-requires-clause-small : goal.eliminate_all-requires-clause-small
eliminate_all-requires-clause-small c y m =
    let plan : PlanView = record { keep = c.args.keep.now; without = c.args.without; utility = c.args.utility } in
    let a = all_known c.args.diagram.now.nodes plan c.plan_nodes-nodes.result c.plan_nodes-nodes.ensures y ((c.difference-waiting.ensures y).0 m).0 in
    let b = c.requires.diagram.limits.nodes in
    omega arith

pub eliminate_all-requires-clause-started : goal.eliminate_all-requires-clause-started
eliminate_all-requires-clause-started c =
    let nodes : List NodeView = c.args.diagram.now.nodes in
    let plan : PlanView = record { keep = c.args.keep.now; without = c.args.without; utility = c.args.utility } in (
      nodes,
      map (family_test nodes) (ruled_nodes nodes plan) ++ map (parents_test nodes) (option_to_list plan.utility),
      subst (λ (xs : List ℕ). IsGreedyStart nodes xs (IsIn c.difference-waiting.result) (map (family_test nodes) (ruled_nodes nodes plan) ++ map (parents_test nodes) (option_to_list plan.utility)) c.in_ok-start.start) (sym c.as_slice-states.ensures.value)
          (c.in_ok-start.ensures.started (ruled_nodes nodes plan) (ruled_listed nodes plan c.plan_nodes-nodes.result c.plan_nodes-nodes.ensures c.ruled_nodes-ruled.result c.ruled_nodes-ruled.ensures)),
    )

pub plan_nodes-nodes-requires-clause-diagram : goal.plan_nodes-nodes-requires-clause-diagram
plan_nodes-nodes-requires-clause-diagram c = c.requires.diagram

pub plan_nodes-nodes-requires-clause-all : goal.plan_nodes-nodes-requires-clause-all
plan_nodes-nodes-requires-clause-all c = ap (λ (fs : List Family). length fs) c.deref.ensures.value ∙ c.requires.planner.all

pub plan_nodes-nodes-requires-clause-above : goal.plan_nodes-nodes-requires-clause-above
plan_nodes-nodes-requires-clause-above c = subst (λ (fs : List Family). AreAbove c.args.diagram.now.nodes fs) (sym c.deref.ensures.value) (λ v l. (c.requires.planner.families v l).above)

pub put_all_first-requires-clause-planner : goal.put_all_first-requires-clause-planner
put_all_first-requires-clause-planner c = c.requires.planner

pub eliminate_all-requires-clause-states : goal.eliminate_all-requires-clause-states
eliminate_all-requires-clause-states c = ap (λ (xs : List ℕ). length xs) c.as_slice-states.ensures.value ∙ c.requires.planner.long

pub eliminate_all-requires-clause-places : goal.eliminate_all-requires-clause-places
eliminate_all-requires-clause-places c = c.in_ok-start.ensures.places

pub eliminate_all-requires-clause-few : goal.eliminate_all-requires-clause-few
eliminate_all-requires-clause-few c = c.in_ok-start.ensures.few

pub plan_nodes-nodes-requires-clause-plan : goal.plan_nodes-nodes-requires-clause-plan
plan_nodes-nodes-requires-clause-plan c = let plan = c.requires.asked.is_plan in record { different = plan.different; kept = plan.kept; without = λ d e. absurd (cc); utility = plan.utility }

pub plan_nodes-nodes-requires-clause-known : goal.plan_nodes-nodes-requires-clause-known
plan_nodes-nodes-requires-clause-known c = c.requires.asked.known

pub put_all_first-requires-clause-known : goal.put_all_first-requires-clause-known
put_all_first-requires-clause-known c = c.requires.asked.known

pub returns-clause-run : goal.returns-clause-run
returns-clause-run c =
    let nodes : List NodeView = c.args.diagram.now.nodes in
    let plan : PlanView = record { keep = c.args.keep.now; without = c.args.without; utility = c.args.utility } in
    let states = c.as_slice-states.result.now in
    let waits = IsIn c.difference-waiting.result in
    let listed = ruled_listed nodes plan c.plan_nodes-nodes.result c.plan_nodes-nodes.ensures c.ruled_nodes-ruled.result c.ruled_nodes-ruled.ensures in
    let started : IsGreedyStart nodes states waits (first_scopes nodes plan) c.in_ok-start.start =
    subst (λ (xs : List ℕ). IsGreedyStart nodes xs waits (first_scopes nodes plan) c.in_ok-start.start) (sym c.as_slice-states.ensures.value)
    (subst (λ (ss : List (ℕ → Bool)). IsGreedyStart nodes c.args.planner.now.states.items waits ss c.in_ok-start.start) (sym (scopes_listed mass_cells nodes [] plan)) (c.in_ok-start.ensures.started (ruled_nodes nodes plan) listed)) in
    IfOk-weaker c.eliminate_all.result _ (IsRunOfPlan nodes plan) (λ (r : Run) h.
    let made : IsGreedyRun nodes waits (first_scopes nodes plan) r = h nodes (first_scopes nodes plan) started in
    record {
      greedy = greedy_same nodes waits (Contains (eliminated_nodes nodes plan)) (first_scopes nodes plan) r.steps.items
          (in_waiting nodes plan c.plan_nodes-nodes.result c.plan_nodes-nodes.ensures c.set_of-kept.result c.difference-waiting.result c.set_of-kept.ensures c.difference-waiting.ensures) made.greedy;
      live = made.live;
      cells = made.cells;
      work = made.work;
    }) c.eliminate_all.ensures.run

pub returns-clause-few : goal.returns-clause-few
returns-clause-few c = c.eliminate_all.ensures.few

pub returns-clause-little : goal.returns-clause-little
returns-clause-little c = c.eliminate_all.ensures.little

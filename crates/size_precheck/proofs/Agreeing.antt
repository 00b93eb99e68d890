-- Plans of one list of nodes that are those of another: all that they look at is the same.
use Rattle.std.proofs.Common.{◌≡◌, ◌∙◌, ◌⊎◌, ℕ, zero, suc, ◌+◌, ◌*◌, ◌<◌, ◌≤◌, Bool, true, cond, not, ◌&&◌, ◌||◌, eqb, filter, map, List, [], ◌∷◌, ◌++◌, get_or, length, Some, None, ◌↔◌, sym, ap, subst, refl}
use Rattle.std.specs.Prelude.{Contains, sum_by, option_to_list}
use Rattle.std.specs.List.{AllZip, list_any, range_with_len}
use Rattle.std.proofs.Math.Path.{fun_ext}
use Rattle.finite_sums.specs.Sums.{nat_product_over}
use Rattle.maid_model.specs.declared.diagrams.Kind.{Kind}
use Rattle.maid_model.specs.declared.diagrams.Kind.TheVariants.{Chance, Decision, Utility}
use Rattle.maid_model.specs.Bounds.{stopped}
use Rattle.maid_model.specs.Graph.{Descends, IsPath, leads_within, descends}
use Rattle.maid_model.specs.Nodes.{IsDecision, agent_of, node_at, states_of, parents_of, numbers_of, is_utility, is_utility_of}
use Rattle.maid_model.specs.Views.{NodeView}
use Rattle.node_sets.specs.declared.sets.TheConstants.{MOST_NODES}
use Rattle.node_sets.specs.Sets.{IsIn}
use Rattle.ring_sums.specs.Tables.{joined_without, scopes_one, scopes_after}
use Rattle.plan_sums.specs.Laws.{IsOrderOfPlan}
use Rattle.plan_sums.specs.Plans.{PlanView, mass_cells, has, in_plan, plan_nodes, eliminated_nodes, ruled_nodes, row_plan, gain_plan, worth_plan}
use Rattle.size_precheck.specs.declared.decisions.DecisionPlans.{DecisionPlans}
use Rattle.size_precheck.specs.declared.joints.Joint.{Joint}
use Rattle.size_precheck.specs.declared.keeping.KeptPlans.{KeptPlans}
use Rattle.size_precheck.specs.declared.keeping.KeptRun.{KeptRun}
use Rattle.size_precheck.specs.declared.planners.Family.{Family}
use Rattle.size_precheck.specs.declared.planners.Planner.{Planner}
use Rattle.size_precheck.specs.Counts.{counted_cells}
use Rattle.size_precheck.specs.Decisions.{AreDecisionPlans}
use Rattle.size_precheck.specs.Greedy.{first_scopes, holding, joined_set, IsNext, IsGreedy, IsGreedyOrder}
use Rattle.size_precheck.specs.Families.{IsFamily, IsJointAmong, IsOfFamily, IsPlanner, IsRuledBelow, family_at}
use Rattle.size_precheck.specs.Joints.{family_test, joint_at, parents_test}
use Rattle.size_precheck.specs.Kept.{IsKept, IsKeptRun, KeepsPlans}
use Rattle.size_precheck.specs.Sizes.{SizedPlan, CanBePlanned, IsMade, IsPlanned, made_cells, steps_work, plan_cells, plan_work, goal_list, utility_list}
use Rattle.size_precheck.proofs.Planning.{scopes_listed}

pub utility_kind : (kind : Kind) → is_utility kind ≡ true → kind ≡ Utility
utility_kind Chance e = absurd (cc)
utility_kind Decision e = absurd (cc)
utility_kind Utility e = refl

-- ---- a plan that has the same nodes and first scopes among both
module _ (nodes others : List NodeView) (count : length others ≡ length nodes) (states : (v : ℕ) → states_of others v ≡ states_of nodes v) where
  states_same : states_of nodes ≡ states_of others
  states_same = fun_ext (λ v. sym (states v))

  pub numbers_same : numbers_of nodes ≡ numbers_of others
  numbers_same = ap (λ n. range_with_len 0 n) (sym count)

  cells_same : counted_cells nodes ≡ counted_cells others
  cells_same = λ i scope. stopped (nat_product_over (λ u. cond (scope u) (states_same i u) 1) (numbers_same i))

  made_same : (steps : List ℕ) (scopes : List (ℕ → Bool)) → made_cells nodes steps scopes ≡ made_cells others steps scopes
  made_same [] scopes = refl
  made_same (v ∷ vs) scopes = λ i. cells_same i (joined_without v (holding v scopes)) + made_same vs (scopes_one v scopes) i

  work_same : (steps : List ℕ) (scopes : List (ℕ → Bool)) → steps_work nodes steps scopes ≡ steps_work others steps scopes
  work_same [] scopes = refl
  work_same (v ∷ vs) scopes = λ i. cells_same i (joined_set v scopes) * length (holding v scopes) + work_same vs (scopes_one v scopes) i

  next_there : (Item : ℕ → Type 0) (scopes : List (ℕ → Bool)) (steps : List ℕ) (v : ℕ) → IsNext nodes Item scopes steps v → IsNext others Item scopes steps v
  next_there Item scopes steps v h = record {
    remains = h.remains;
    fewest = λ w r. subst (λ (cells : (ℕ → Bool) → ℕ). cells (joined_set v (scopes_after steps scopes)) ≤ cells (joined_set w (scopes_after steps scopes))) cells_same (h.fewest w r);
    first = λ w r l. subst (λ (cells : (ℕ → Bool) → ℕ). cells (joined_set v (scopes_after steps scopes)) < cells (joined_set w (scopes_after steps scopes))) cells_same (h.first w r l);
  }

  module _ (plan : PlanView) (eliminated_same : eliminated_nodes nodes plan ≡ eliminated_nodes others plan) (scopes_same : first_scopes nodes plan ≡ first_scopes others plan) where
    plan_cells_same : (steps : List ℕ) → plan_cells nodes plan steps ≡ plan_cells others plan steps
    plan_cells_same steps = λ i. stopped (sum_by (λ s. cells_same i s) (scopes_same i) + made_same steps (scopes_same i) i + cells_same i (has plan.keep))

    plan_work_same : (steps : List ℕ) → plan_work nodes plan steps ≡ plan_work others plan steps
    plan_work_same steps = λ i. stopped (work_same steps (scopes_same i) i + cells_same i (has plan.keep) * length (scopes_after steps (scopes_same i)))

    order_there : (steps : List ℕ) → IsGreedyOrder nodes plan steps → IsGreedyOrder others plan steps
    order_there steps h =
        subst (λ (list : List ℕ). IsGreedy others (Contains list) (first_scopes others plan) steps) eliminated_same
        (subst (λ scopes. IsGreedy others (Contains (eliminated_nodes nodes plan)) scopes steps) scopes_same
        (record { each = λ i l. next_there (Contains (eliminated_nodes nodes plan)) (first_scopes nodes plan) _ _ (h.each i l); complete = h.complete }))

    all_there : (steps : List ℕ) → IsOrderOfPlan nodes plan steps → IsOrderOfPlan others plan steps
    all_there steps h = record {
      once = h.once;
      all = λ v. subst (λ (list : List ℕ). Contains steps v ↔ Contains list v) eliminated_same (h.all v);
    }

    pub made_alike : (made : SizedPlan) → IsMade nodes plan made → IsMade others plan made
    made_alike made h = record {
      plan = h.plan;
      greedy = order_there made.steps h.greedy;
      order = all_there made.steps h.order;
      cells = h.cells ∙ plan_cells_same made.steps;
      work = h.work ∙ plan_work_same made.steps;
    }

-- ---- all plans, where the others keep what they look at
module _ (nodes others : List NodeView) (k : KeepsPlans nodes others) where
  parents_same : parents_of nodes ≡ parents_of others
  parents_same = fun_ext (λ v. sym (k.parents v))

  numbers_kept : numbers_of nodes ≡ numbers_of others
  numbers_kept = numbers_same nodes others k.count k.states

  -- ---- the nodes of a plan
  leads_same : (n u v : ℕ) → leads_within nodes n u v ≡ leads_within others n u v
  leads_same zero u v = refl
  leads_same (suc n) u v = λ i. list_any (λ x. eqb x u || leads_same n u x i) (parents_same i v)

  descends_same : (u v : ℕ) → descends nodes u v ≡ descends others u v
  descends_same u v = ap (λ n. leads_within nodes n u v) (sym k.count) ∙ leads_same (length others) u v

  in_same : (plan : PlanView) (v : ℕ) → in_plan nodes plan v ≡ in_plan others plan v
  in_same plan v = λ i. has plan.keep v || (not (sym (k.utility v) i) && list_any (λ t. descends_same v t i) (plan.keep ++ option_to_list plan.utility))

  nodes_same : (plan : PlanView) → plan_nodes nodes plan ≡ plan_nodes others plan
  nodes_same plan = λ i. filter (λ v. in_same plan v i) (numbers_kept i)

  eliminated_same : (plan : PlanView) → eliminated_nodes nodes plan ≡ eliminated_nodes others plan
  eliminated_same plan = λ i. filter (λ v. not (has plan.keep v)) (nodes_same plan i)

  ruled_same : (plan : PlanView) → ruled_nodes nodes plan ≡ ruled_nodes others plan
  ruled_same plan = λ i. filter (λ v. not (has (option_to_list plan.without) v)) (nodes_same plan i)

  -- ---- its scopes
  tests_same : (plan : PlanView) → map (family_test nodes) (ruled_nodes nodes plan) ++ map (parents_test nodes) (option_to_list plan.utility) ≡ map (family_test others) (ruled_nodes others plan) ++ map (parents_test others) (option_to_list plan.utility)
  tests_same plan = λ i. map (λ v u. eqb v u || has (parents_same i v) u) (ruled_same plan i) ++ map (λ u x. has (parents_same i u) x) (option_to_list plan.utility)

  scopes_same : (plan : PlanView) → first_scopes nodes plan ≡ first_scopes others plan
  scopes_same plan = scopes_listed mass_cells nodes [] plan ∙ tests_same plan ∙ sym (scopes_listed mass_cells others [] plan)

  made_there : (plan : PlanView) (made : SizedPlan) → IsMade nodes plan made → IsMade others plan made
  made_there plan = made_alike nodes others k.count k.states plan (eliminated_same plan) (scopes_same plan)

  -- ---- what may be asked for
  utility_there : (v : ℕ) → (node_at nodes v).kind ≡ Utility → (node_at others v).kind ≡ Utility
  utility_there v e = utility_kind (node_at others v).kind (k.utility v ∙ ap is_utility e)

  utility_back : (v : ℕ) → (node_at others v).kind ≡ Utility → (node_at nodes v).kind ≡ Utility
  utility_back v e = utility_kind (node_at nodes v).kind (sym (k.utility v) ∙ ap is_utility e)

  asked_there : (plan : PlanView) → CanBePlanned nodes plan → CanBePlanned others plan
  asked_there plan h = record {
    is_plan = record {
      different = h.is_plan.different;
      kept = λ v m e. h.is_plan.kept v m (utility_back v e);
      without = h.is_plan.without;
      utility = λ u e. utility_there u (h.is_plan.utility u e);
    };
    known = λ u e. subst (λ n. u < n) (sym k.count) (h.known u e);
    decision = λ d e. k.decision d (h.decision d e);
    leads = λ d e. subst (λ (parents : ℕ → List ℕ). (t : ℕ) × ((plan.utility ≡ Some t) ⊎ Contains plan.keep t) × Descends (λ u v. Contains (parents v) u) d t) parents_same (h.leads d e);
  }

  planned_there : (plan : PlanView) (made : SizedPlan) → IsPlanned nodes plan made → IsPlanned others plan made
  planned_there plan made h = record { asked = asked_there plan h.asked; made = made_there plan made h.made }

  all_planned : (plans : List PlanView) (made : List SizedPlan) → AllZip (IsPlanned nodes) plans made → AllZip (IsPlanned others) plans made
  all_planned [] [] h = h
  all_planned [] (m ∷ ms) h = h
  all_planned (p ∷ ps) [] h = h
  all_planned (p ∷ ps) (m ∷ ms) h = (planned_there p m h.0, all_planned ps ms h.1)

  -- ---- a decision's plans
  goals_same : (d : ℕ) → IsDecision nodes d → goal_list nodes d ≡ goal_list others d
  goals_same d is = λ i. filter (λ u. descends_same d u i && owned u i) (numbers_kept i)
    where
      owned : (u : ℕ) → is_utility_of nodes (agent_of nodes d) u ≡ is_utility_of others (agent_of others d) u
      owned u = sym (k.owned (agent_of nodes d) u) ∙ ap (λ a. is_utility_of others a u) (sym (k.agent d is))

  plans_there : (d : ℕ) (plans : DecisionPlans) → IsDecision nodes d → AreDecisionPlans nodes d plans → AreDecisionPlans others d plans
  plans_there d own is h = record {
    of_rows = planned_there (row_plan others d) own.rows (subst (λ (parents : List ℕ). IsPlanned nodes (record { keep = parents; without = None; utility = None }) own.rows) (sym (k.parents d)) h.of_rows);
    of_goals = all_planned (map (λ u. gain_plan others d u) (goal_list others d)) own.goals.items
        (subst (λ plans. AllZip (IsPlanned nodes) plans own.goals.items)
        (λ i. map (λ u. record { keep = d ∷ sym (k.parents d) i; without = Some d; utility = Some u }) (goals_same d is i)) h.of_goals);
    order = h.order;
  }

pub kept_there : (nodes others : List NodeView) (kept : KeptPlans) → KeepsPlans nodes others → IsKept nodes kept → IsKept others kept
kept_there nodes others kept k h = record {
  decision = k.decision kept.decision h.decision;
  plans = plans_there nodes others k kept.decision kept.plans h.decision h.plans;
}

-- ---- what all plans share
module _ (nodes others : List NodeView) (k : KeepsPlans nodes others) where
  ruled_stays : (x : ℕ) → IsRuledBelow nodes (length nodes) x → IsRuledBelow others (length others) x
  ruled_stays x h = (subst (λ n. x < n) (sym k.count) h.0, λ e. h.1 (utility_back nodes others k x e))

  ruled_was : (x : ℕ) → IsRuledBelow others (length others) x → IsRuledBelow nodes (length nodes) x
  ruled_was x h = (subst (λ n. x < n) k.count h.0, λ e. h.1 (utility_there nodes others k x e))

  of_family : (v u : ℕ) → IsOfFamily nodes v u ≡ IsOfFamily others v u
  of_family v u = λ i. (u ≡ v) ⊎ Contains (parents_same nodes others k i v) u

  family_there : (states : List ℕ) (v : ℕ) (family : Family) → IsFamily nodes states v family → IsFamily others states v family
  family_there states v family h = record {
    tag = h.tag;
    scope = λ u. subst (λ (A : Type 0). IsIn family.table.scope u ↔ A) (of_family v u) (h.scope u);
    cells = h.cells;
    above = λ u. subst (λ (parents : ℕ → List ℕ). IsIn family.above u ↔ IsPath (λ a b. Contains (parents b) a) u v) (parents_same nodes others k) (h.above u);
  }

  joined_there : (y : ℕ) (joint : Joint) → IsJointAmong nodes (IsRuledBelow nodes (length nodes)) y joint → IsJointAmong others (IsRuledBelow others (length others)) y joint
  joined_there y joint h = record {
    tables = λ x. (
      (λ m. let r = (h.tables x).0 m in (ruled_stays x r.0, subst (λ (A : Type 0). A) (of_family x y) r.1)),
      (λ r. (h.tables x).1 (ruled_was x r.0, subst (λ (A : Type 0). A) (sym (of_family x y)) r.1)),
    );
    set = λ u. (
      (λ m. let r = (h.set u).0 m in (r.0, ruled_stays r.0 r.1, subst (λ (A : Type 0). A) (of_family r.0 y) r.2, subst (λ (A : Type 0). A) (of_family r.0 u) r.3)),
      (λ r. (h.set u).1 (r.0, ruled_was r.0 r.1, subst (λ (A : Type 0). A) (sym (of_family r.0 y)) r.2, subst (λ (A : Type 0). A) (sym (of_family r.0 u)) r.3)),
    );
  }

  planner_there : (planner : Planner) → IsPlanner nodes planner → IsPlanner others planner
  planner_there planner h = record {
    long = h.long;
    states = record {
      few = subst (λ n. n ≤ MOST_NODES) (sym k.count) h.states.few;
      each = λ u. h.states.each u ∙ sym (k.states u);
    };
    all = h.all ∙ sym k.count;
    families = λ v l. family_there planner.states.items v (family_at planner.families.items v) (h.families v l);
    joints_len = h.joints_len ∙ sym k.count;
    joints = λ y l. joined_there y (joint_at planner.joints.items y) (h.joints y (subst (λ n. y < n) k.count l));
    counts_len = h.counts_len ∙ sym k.count;
    counts = λ y l. h.counts y (subst (λ n. y < n) k.count l);
  }

  -- the plans of all utilities' worths
  worths_there : (plans : List SizedPlan) → AllZip (IsPlanned nodes) (map (λ u. worth_plan u) (utility_list nodes)) plans → AllZip (IsPlanned others) (map (λ u. worth_plan u) (utility_list others)) plans
  worths_there plans h = all_planned nodes others k (map (λ u. worth_plan u) (utility_list others)) plans
      (subst (λ asked. AllZip (IsPlanned nodes) asked plans) (λ i. map (λ u. worth_plan u) (filter (λ u. sym (k.utility u) i) (numbers_kept nodes others k i))) h)

pub run_there : (nodes others : List NodeView) (kept : KeptRun) → KeepsPlans nodes others → IsKeptRun nodes kept → IsKeptRun others kept
run_there nodes others kept k h = record {
  planner = planner_there nodes others k kept.planner h.planner;
  decisions = λ i e l. kept_there nodes others (get_or kept.decisions.items i e) k (h.decisions i e l);
  worths = worths_there nodes others k kept.worths.items h.worths;
}

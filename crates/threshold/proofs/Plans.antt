-- Plans and their sizes look at the shape of a diagram alone.
use Rattle.std.proofs.Common.{◌≡◌, ◌∙◌, ℕ, ◌+◌, ◌<◌, ◌≤◌, Bool, ◌&&◌, ◌||◌, ◌==◌, cond, not, List, [], ◌∷◌, ◌++◌, map, filter, refl, sym, ap, subst, None, Some}
use Rattle.std.proofs.Math.Path.{fun_ext}
use Rattle.std.specs.Prelude.{Contains, option_to_list, sum_by}
use Rattle.std.specs.List.{list_any}
use Rattle.arc_laws.proofs.SameArcs.{descends_back}
use Rattle.finite_sums.specs.Sums.{nat_product_over}
use Rattle.maid_model.specs.Bounds.{stopped}
use Rattle.maid_model.specs.Nodes.{agent_of, is_utility, owners_of, parents_of, states_of}
use Rattle.maid_model.specs.Relevance.{IsGoal}
use Rattle.maid_model.specs.Views.{NodeView}
use Rattle.plan_sums.specs.Plans.{PlanView, eliminated_nodes, gain_plan, has, in_plan, mass_cells, node_table, plan_nodes, row_plan, ruled_nodes, utility_table}
use Rattle.reach_laws.proofs.Perfect.{IsLike, decision_back, turned}
use Rattle.ring_sums.specs.Tables.{joined_without, scopes_of, scopes_one}
use Rattle.rule_solver.specs.Rooms.{HasCellsAtMost, HasRoomForDecision}
use Rattle.size_precheck.specs.Counts.{counted_cells}
use Rattle.size_precheck.specs.Greedy.{IsGreedy, IsGreedyOrder, IsNext, first_scopes, holding, joined_cells}
use Rattle.size_precheck.specs.Kept.{KeepsPlans}
use Rattle.size_precheck.specs.Laws.{GreedyOrdersAreOrders}
use Rattle.size_precheck.specs.Sizes.{made_cells, plan_cells, plan_work}
use Rattle.threshold.proofs.Alike.{agent_same, descends_same, numbers_same, utility_same}

-- the scopes of first tables: of nodes and their parents, and of a utility's parents
scopes_split : (nodes : List NodeView) (vs us : List ℕ) → scopes_of (map (λ v. node_table mass_cells nodes [] v) vs ++ map (λ u. utility_table mass_cells nodes u) us)
    ≡ map (λ v. λ u. (v == u) || has (parents_of nodes v) u) vs ++ map (λ u. λ x. has (parents_of nodes u) x) us
scopes_split nodes [] [] = refl
scopes_split nodes [] (u ∷ us) = ap (λ r. (λ x. has (parents_of nodes u) x) ∷ r) (scopes_split nodes [] us)
scopes_split nodes (v ∷ vs) us = ap (λ r. (λ u. (v == u) || has (parents_of nodes v) u) ∷ r) (scopes_split nodes vs us)

module _ (nodes others : List NodeView) (l : IsLike nodes others) where
  parents_fun : ◌≡◌ {A = ℕ → List ℕ} (parents_of others) (parents_of nodes)
  parents_fun = fun_ext l.parents

  states_fun : ◌≡◌ {A = ℕ → ℕ} (states_of others) (states_of nodes)
  states_fun = fun_ext l.states

  in_plan_same : (plan : PlanView) (v : ℕ) → in_plan others plan v ≡ in_plan nodes plan v
  in_plan_same plan v = λ i. has plan.keep v || (not (is_utility (l.kinds v i)) && list_any (λ t. descends_same nodes others l v t i) (plan.keep ++ option_to_list plan.utility))

  plan_nodes_same : (plan : PlanView) → plan_nodes others plan ≡ plan_nodes nodes plan
  plan_nodes_same plan = λ i. filter (fun_ext (in_plan_same plan) i) (numbers_same nodes others l i)

  eliminated_same : (plan : PlanView) → eliminated_nodes others plan ≡ eliminated_nodes nodes plan
  eliminated_same plan = ap (filter (λ v. not (has plan.keep v))) (plan_nodes_same plan)

  ruled_same : (plan : PlanView) → ruled_nodes others plan ≡ ruled_nodes nodes plan
  ruled_same plan = ap (filter (λ v. not (has (option_to_list plan.without) v))) (plan_nodes_same plan)

  scopes_same : (plan : PlanView) → first_scopes others plan ≡ first_scopes nodes plan
  scopes_same plan =
      scopes_split others (ruled_nodes others plan) (option_to_list plan.utility)
      ∙ (λ i. map (λ v. λ u. (v == u) || has (parents_fun i v) u) (ruled_same plan i) ++ map (λ u. λ x. has (parents_fun i u) x) (option_to_list plan.utility))
      ∙ sym (scopes_split nodes (ruled_nodes nodes plan) (option_to_list plan.utility))

  counted_same : (s : ℕ → Bool) → counted_cells others s ≡ counted_cells nodes s
  counted_same s = λ i. stopped (nat_product_over (λ u. cond (s u) (states_fun i u) 1) (numbers_same nodes others l i))

  made_same : (steps : List ℕ) (scopes : List (ℕ → Bool)) → made_cells others steps scopes ≡ made_cells nodes steps scopes
  made_same [] scopes = refl
  made_same (v ∷ vs) scopes = λ i. counted_same (joined_without v (holding v scopes)) i + made_same vs (scopes_one v scopes) i

  cells_same : (plan : PlanView) (steps : List ℕ) → plan_cells others plan steps ≡ plan_cells nodes plan steps
  cells_same plan steps =
      ap (λ scopes. stopped (sum_by (λ s. counted_cells others s) scopes + made_cells others steps scopes + counted_cells others (has plan.keep))) (scopes_same plan)
      ∙ (λ i. stopped (sum_by (fun_ext counted_same i) (first_scopes nodes plan) + made_same steps (first_scopes nodes plan) i + counted_same (has plan.keep) i))

  -- a greedy order is one
  next_back : (Item : ℕ → Type 0) (scopes : List (ℕ → Bool)) (steps : List ℕ) (v : ℕ) → IsNext others Item scopes steps v → IsNext nodes Item scopes steps v
  next_back Item scopes steps v n = record {
    remains = n.remains;
    fewest = λ w r. subst (λ k. k ≤ joined_cells nodes scopes steps w) (joined v) (subst (λ k. joined_cells others scopes steps v ≤ k) (joined w) (n.fewest w r));
    first = λ w r m. subst (λ k. k < joined_cells nodes scopes steps w) (joined v) (subst (λ k. joined_cells others scopes steps v < k) (joined w) (n.first w r m));
  }
    where
      joined : (w : ℕ) → joined_cells others scopes steps w ≡ joined_cells nodes scopes steps w
      joined w = counted_same _

  greedy_back : (plan : PlanView) (steps : List ℕ) → IsGreedyOrder others plan steps → IsGreedyOrder nodes plan steps
  greedy_back plan steps g = subst (λ s. IsGreedy nodes (Contains (eliminated_nodes nodes plan)) s steps) (scopes_same plan) (subst (λ es. IsGreedy nodes (Contains es) (first_scopes others plan) steps) (eliminated_same plan) (record {
    each = λ k m. next_back (Contains (eliminated_nodes others plan)) (first_scopes others plan) _ _ (g.each k m);
    complete = g.complete;
  }))

  -- so plans have as few cells
  module _ (orders : GreedyOrdersAreOrders) (cells : ℕ) where
    few_same : (plan : PlanView) → HasCellsAtMost nodes plan cells → HasCellsAtMost others plan cells
    few_same plan few made is =
        let greedy = greedy_back plan made.steps is.greedy in
        few (record { plan = plan; steps = made.steps; size = record { cells = made.size.cells; work = plan_work nodes plan made.steps } })
        (record { plan = refl; greedy = greedy; order = orders nodes plan made.steps greedy; cells = is.cells ∙ cells_same plan made.steps; work = refl })

    goal_back : (d u : ℕ) → IsGoal others d u → IsGoal nodes d u
    goal_back d u h = record {
      within = subst (λ n. u < n) l.len h.within;
      kind = sym (l.kinds u) ∙ h.kind;
      owner = subst (λ vs. Contains vs (agent_of nodes d)) (l.owners u) (subst (Contains (owners_of others u)) (agent_same nodes others l d) h.owner);
      below = descends_back nodes others l.len l.states l.parents d u h.below;
    }

    pub room_same : (d : ℕ) → HasRoomForDecision nodes d cells → HasRoomForDecision others d cells
    room_same d room = record {
      rows = subst (λ ps. HasCellsAtMost others (record { keep = ps; without = None; utility = None }) cells) (sym (l.parents d)) (few_same (row_plan nodes d) room.rows);
      goals = λ u g. subst (λ ps. HasCellsAtMost others (record { keep = d ∷ ps; without = Some d; utility = Some u }) cells) (sym (l.parents d)) (few_same (gain_plan nodes d u) (room.goals u (goal_back d u g)));
    }

  -- and what is kept of a decision stands
  pub keeps_plans : KeepsPlans nodes others
  keeps_plans = record {
    count = l.len;
    states = l.states;
    parents = l.parents;
    utility = λ v. ap is_utility (l.kinds v);
    owned = utility_same nodes others l;
    decision = λ d k. decision_back others nodes (turned nodes others l) d k;
    agent = λ d k. agent_same nodes others l d;
  }

-- Between reliance and walks as steps.
use Rattle.std.proofs.Common.{◌≡◌, ◌≢◌, ◌↔◌, ℕ, ◌<◌, ◌≤◌, true, List, length, sym, ap, arith}
use Rattle.maid_model.specs.declared.diagrams.Kind.TheVariants.{Utility}
use Rattle.maid_model.specs.Graph.{Arc}
use Rattle.maid_model.specs.Nodes.{IsDecision, node_at, is_utility}
use Rattle.maid_model.specs.Relevance.{IsLive, IsInFamily, IsGoal, ReliesOn}
use Rattle.maid_model.specs.Views.{NodeView}
use Rattle.maid_model.specs.Walks.{IsReachedFromParent}
use Rattle.maid_laws.proofs.Booleans.{not_both}
use Rattle.maid_laws.proofs.Notions.{IsParent}
use Rattle.maid_laws.proofs.Basis.{Setup}
use Rattle.maid_laws.proofs.Leads.{Leads, more_arcs}
use Rattle.maid_laws.proofs.Members.{arc_of, parent_of, fixed_same}
use Rattle.maid_laws.proofs.Ranks.{one_way, no_parent_past}
use Rattle.maid_laws.proofs.Walks.{leads_walk, walk_leads}

module _ (nodes : List NodeView) (order : List ℕ) (setup : Setup nodes order) where
  -- arcs go one way
  arc_one_way : (x y : ℕ) → Arc nodes x y → ¬ (Arc nodes y x)
  arc_one_way x y a b = one_way nodes order setup x y (parent_of nodes x y a) (parent_of nodes y x b)

  -- the number after the last node has no children
  no_child_new : (y : ℕ) → Arc nodes (length nodes) y → ⊥
  no_child_new y a = let l : length nodes < length nodes = setup.parent_inside (length nodes) y (parent_of nodes (length nodes) y a) in omega arith

  -- nor parents
  no_parent_new : (x : ℕ) → Arc nodes x (length nodes) → ⊥
  no_parent_new x a = no_parent_past nodes x (length nodes) at_most (parent_of nodes x (length nodes) a)
    where
      at_most : length nodes ≤ length nodes
      at_most = omega arith

  -- and is no node
  fresh : (v : ℕ) → v < length nodes → length nodes ≢ v
  fresh v l = omega arith

  old : (v : ℕ) → v < length nodes → v ≢ length nodes
  old v l = omega arith

  -- a utility is no parent
  pub no_utility_child : (goal : ℕ) → (node_at nodes goal).kind ≡ Utility → (c : ℕ) → ¬ (IsParent nodes goal c)
  no_utility_child goal k c a = not_both (is_utility (node_at nodes goal).kind) (ap is_utility k) (setup.parent_kind goal c a)

  -- for any given nodes, steps from a node to a utility and active walks from its extra parent are
  -- one
  module _ (Given Fixed : ℕ → Type 0) (same : (x : ℕ) → Given x ↔ Fixed x) (goal v : ℕ) (goal_in : goal < length nodes) (goal_kind : (node_at nodes goal).kind ≡ Utility) (v_in : v < length nodes) where
    pub walk_of_steps : IsLive nodes v → Leads (IsParent nodes) (IsLive nodes) Given goal true v → IsReachedFromParent (Arc nodes) (IsLive nodes) Fixed (length nodes) v goal
    walk_of_steps lv h =
        leads_walk (Arc nodes) (IsLive nodes) Fixed (length nodes) v goal arc_one_way no_child_new no_parent_new (fresh v v_in)
        (more_arcs (IsParent nodes) (Arc nodes) (IsLive nodes) (IsLive nodes) Given Fixed goal (arc_of nodes) (λ x l. l) same h) lv

    pub steps_of_walk : IsReachedFromParent (Arc nodes) (IsLive nodes) Fixed (length nodes) v goal → Leads (IsParent nodes) (IsLive nodes) Given goal true v
    steps_of_walk r =
        more_arcs (Arc nodes) (IsParent nodes) (IsLive nodes) (IsLive nodes) Fixed Given goal (parent_of nodes) (λ x l. l) (λ x. ((same x).1, (same x).0))
        (walk_leads (Arc nodes) (IsLive nodes) Fixed (length nodes) v goal arc_one_way no_child_new no_parent_new (fresh v v_in)
        (old goal goal_in) (λ c a. no_utility_child goal goal_kind c (parent_of nodes goal c a)) r)

  -- from steps to reliance
  pub relies_of : (d goal v : ℕ) → IsDecision nodes d → IsLive nodes d → IsGoal nodes d goal → v ≢ d → IsDecision nodes v → IsLive nodes v
      → Leads (IsParent nodes) (IsLive nodes) (IsInFamily (IsParent nodes) d) goal true v → ReliesOn nodes d v
  relies_of d goal v kd ld g n kv lv h = record {
    apart = λ e. n (sym e);
    from_decision = kd;
    on_decision = kv;
    from_live = ld;
    on_live = lv;
    goal = goal;
    is_goal = g;
    walk = walk_of_steps (IsInFamily (IsParent nodes) d) (IsInFamily (Arc nodes) d) (fixed_same nodes d) goal v g.within g.kind lv.within lv h;
  }

  -- and back
  pub steps_of_relies : (d e : ℕ) → (r : ReliesOn nodes d e) → Leads (IsParent nodes) (IsLive nodes) (IsInFamily (IsParent nodes) d) r.goal true e
  steps_of_relies d e r = steps_of_walk (IsInFamily (IsParent nodes) d) (IsInFamily (Arc nodes) d) (fixed_same nodes d) r.goal e r.is_goal.within r.is_goal.kind r.on_live.within r.walk

-- A diagram with one probability moved is a diagram where its total is within the range.
use Rattle.std.proofs.Common.{◌≡◌, ◌≢◌, ◌∙◌, ℕ, ◌*◌, ◌<◌, ◌≤◌, List, [], ◌∷◌, drop, filter, length, sym, ap, subst, nat_abs, arith, slice_index_or, All}
use Rattle.std.specs.List.{range_with_len}
use Rattle.std.specs.Prelude.{Contains}
use Rattle.std.proofs.Math.Path.{fun_ext}
use Rattle.std.proofs.Math.Decide.{ℕ_discrete}
use Rattle.finite_sums.specs.Sums.{nat_sum_over}
use Rattle.maid_model.specs.declared.diagrams.Kind.TheVariants.{Chance, Decision, Utility}
use Rattle.maid_model.specs.declared.limits.TheConstants.{MOST_STATES, MOST_PARENTS, MOST_CELLS, MOST_RULE_CELLS}
use Rattle.maid_model.specs.Diagrams.{IsDiagram, HasOwners, HasValues, KeepsLimits, greatest_number}
use Rattle.maid_model.specs.Graph.{AllDifferent}
use Rattle.maid_model.specs.Nodes.{is_decision, node_at, states_of, rows_of, decisions_of}
use Rattle.maid_model.specs.Tables.{chance_total}
use Rattle.maid_model.specs.Views.{NodeView, DiagramView}
use Rattle.diagram_graph.specs.Edited.{with_nodes}
use Rattle.reach_laws.specs.Threshold.{IsMoved, IsPlace}
use Rattle.reach_laws.proofs.Perfect.{IsLike, like_of, rows_like, graph_there}

not_chance : Chance ≡ Utility → ⊥
not_chance e = cc

not_decision : Chance ≡ Decision → ⊥
not_decision e = cc

module _ (d : DiagramView) (x state row num den : ℕ) (moved : List NodeView) (h : IsDiagram d) (place : IsPlace d.nodes x state row) (m : IsMoved d.nodes x state row num den moved) where
  abbrev nodes : List NodeView
  nodes = d.nodes

  pub like : IsLike nodes moved
  like = like_of nodes moved x state row num den place m

  -- a node of another kind than chance is as it was
  apart_of_utility : (v : ℕ) → (node_at moved v).kind ≡ Utility → v ≢ x
  apart_of_utility v k e = not_chance (sym place.kind ∙ ap (λ u. (node_at nodes u).kind) (sym e) ∙ sym (like.kinds v) ∙ k)

  apart_of_decision : (v : ℕ) → (node_at moved v).kind ≡ Decision → v ≢ x
  apart_of_decision v k e = not_decision (sym place.kind ∙ ap (λ u. (node_at nodes u).kind) (sym e) ∙ sym (like.kinds v) ∙ k)

  cells_same : (v : ℕ) → rows_of moved v * states_of moved v ≡ rows_of nodes v * states_of nodes v
  cells_same v = λ i. rows_like nodes moved like v i * like.states v i

  owners_kept : HasOwners moved d.agents
  owners_kept = record {
    agent = λ v a l n o. h.owners.agent v a (subst (λ k. v < k) like.len l) (λ e. n (like.kinds v ∙ e)) (subst (λ os. Contains os a) (like.owners v) o);
    differ = λ v. subst AllDifferent (sym (like.owners v)) (h.owners.differ v);
    one = λ v n. ap (drop 1) (like.owners v) ∙ h.owners.one v (λ e. n (like.kinds v ∙ e));
    chance = λ v e. ap (λ os. slice_index_or os 0 0) (like.owners v) ∙ h.owners.chance v (sym (like.kinds v) ∙ e);
  }

  values_kept : HasValues moved
  values_kept = record {
    utility = λ v l k. ap (λ (n : NodeView). length n.cells) (m.else v (apart_of_utility v k)) ∙ h.values.utility v (subst (λ n. v < n) like.len l) (sym (like.kinds v) ∙ k) ∙ sym (rows_like nodes moved like v);
    decision = λ v k. ap (λ (n : NodeView). n.cells) (m.else v (apart_of_decision v k)) ∙ h.values.decision v (sym (like.kinds v) ∙ k);
  }

  decisions_same : decisions_of moved ≡ decisions_of nodes
  decisions_same = λ i. filter (λ v. is_decision (like.kinds v i)) (range_with_len 0 (like.len i))

  limits_kept : chance_total moved x ≤ greatest_number → KeepsLimits (with_nodes d moved)
  limits_kept small = record {
    nodes = let a = h.limits.nodes in let b = like.len in omega arith;
    states = λ v. subst (λ n. n ≤ MOST_STATES) (sym (like.states v)) (h.limits.states v);
    parents = λ v. subst (λ (us : List ℕ). length us ≤ MOST_PARENTS) (sym (like.parents v)) (h.limits.parents v);
    cells = λ v l. subst (λ n. n ≤ MOST_CELLS) (sym (cells_same v)) (h.limits.cells v (subst (λ k. v < k) like.len l));
    rules = subst (λ n. n ≤ MOST_RULE_CELLS) (sym (λ i. nat_sum_over (fun_ext cells_same i) (decisions_same i))) h.limits.rules;
    totals = λ v k. total v k (ℕ_discrete v x);
    values = λ v k. subst (λ (n : NodeView). All (λ z. nat_abs z ≤ greatest_number) n.cells) (sym (m.else v (apart_of_utility v k))) (h.limits.values v (sym (like.kinds v) ∙ k));
    agents = h.limits.agents;
    decimals = h.limits.decimals;
  }
    where
      total : (v : ℕ) → (node_at moved v).kind ≡ Chance → Dec (v ≡ x) → chance_total moved v ≤ greatest_number
      total v k (yes e) = subst (λ u. chance_total moved u ≤ greatest_number) (sym e) small
      total v k (no n) = subst (λ t. t ≤ greatest_number) (sym (total_else v n)) (h.limits.totals v (sym (like.kinds v) ∙ k))
        where
          total_else : (v : ℕ) → v ≢ x → chance_total moved v ≡ chance_total nodes v
          total_else v n = ap (λ ns. chance_total ns 0) (λ i. m.else v n i ∷ [])

  pub moved_kept : chance_total moved x ≤ greatest_number → IsDiagram (with_nodes d moved)
  moved_kept small = record { graph = graph_there nodes moved like h.graph; owners = owners_kept; tables = m.tables; values = values_kept; limits = limits_kept small }

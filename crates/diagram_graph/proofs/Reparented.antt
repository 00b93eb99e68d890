-- A decision with other parents: what stays, and when the diagram is still one.
use Rattle.std.proofs.Common.{◌≡◌, ◌≢◌, ◌∙◌, ℕ, ◌*◌, ◌<◌, ◌≤◌, filter, List, ◌∷◌, length, refl, sym, ap, subst, pos, nat_abs, arith, slice_index_or, slice_set, All}
use Rattle.std.specs.List.{range_with_len}
use Rattle.std.specs.Prelude.{Contains}
use Rattle.std.proofs.lemmas.List.{get_or-set_same, get_or-set_other, length-set}
use Rattle.std.proofs.Math.Path.{fun_ext}
use Rattle.std.proofs.Math.Decide.{ℕ_discrete}
use Rattle.maid_model.specs.declared.diagrams.Kind.{Kind}
use Rattle.maid_model.specs.declared.diagrams.Kind.TheVariants.{Chance, Decision, Utility}
use Rattle.maid_model.specs.declared.limits.TheConstants.{MOST_PARENTS, MOST_CELLS}
use Rattle.maid_model.specs.Diagrams.{IsDiagram, HasOwners, HasValues, KeepsLimits, greatest_number}
use Rattle.maid_model.specs.Graph.{IsGraph, AllDifferent}
use Rattle.maid_model.specs.Nodes.{IsDecision, is_decision, node_at, no_node, states_of, parents_of, rows_of, rows_under, owners_of, decisions_of}
use Rattle.maid_model.specs.Tables.{HasChanceTables, IsTable, chance_total}
use Rattle.maid_model.specs.Views.{NodeView}
use Rattle.finite_sums.specs.Sums.{sum_below}
use Rattle.diagram_graph.specs.Edited.{with_parents}
use Rattle.diagram_graph.specs.Room.{RulesFit}

module _ (nodes : List NodeView) (d : ℕ) (k : IsDecision nodes d) (parents : List ℕ) where
  abbrev pub other : List NodeView
  other = slice_set nodes d (with_parents (node_at nodes d) parents)

  -- the decision, and the other nodes
  pub at : node_at other d ≡ with_parents (node_at nodes d) parents
  at = get_or-set_same nodes d (with_parents (node_at nodes d) parents) no_node k.within

  pub else : (v : ℕ) → v ≢ d → node_at other v ≡ node_at nodes v
  else v n = get_or-set_other nodes d v (with_parents (node_at nodes d) parents) no_node n

  pub len : length other ≡ length nodes
  len = length-set nodes d (with_parents (node_at nodes d) parents)

  -- all but the parents stays
  kept : {A : Type 0} (f : NodeView → A) → f (with_parents (node_at nodes d) parents) ≡ f (node_at nodes d) → (v : ℕ) → f (node_at other v) ≡ f (node_at nodes v)
  kept f same v = go (ℕ_discrete v d)
    where
      go : Dec (v ≡ d) → f (node_at other v) ≡ f (node_at nodes v)
      go (yes e) = ap (λ u. f (node_at other u)) e ∙ ap f at ∙ same ∙ ap (λ u. f (node_at nodes u)) (sym e)
      go (no n) = ap f (else v n)

  pub kind_at : (v : ℕ) → (node_at other v).kind ≡ (node_at nodes v).kind
  kind_at = kept (λ n. n.kind) refl

  owner_at : (v : ℕ) → (node_at other v).owner ≡ (node_at nodes v).owner
  owner_at = kept (λ n. n.owner) refl

  more_at : (v : ℕ) → (node_at other v).more ≡ (node_at nodes v).more
  more_at = kept (λ n. n.more) refl

  owners_at : (v : ℕ) → owners_of other v ≡ owners_of nodes v
  owners_at = kept (λ n. n.owner ∷ n.more) refl

  pub states_at : (v : ℕ) → states_of other v ≡ states_of nodes v
  states_at = kept (λ n. n.states) refl

  cells_at : (v : ℕ) → (node_at other v).cells ≡ (node_at nodes v).cells
  cells_at = kept (λ n. n.cells) refl

  total_at : (v : ℕ) → chance_total other v ≡ chance_total nodes v
  total_at = kept (λ n. nat_abs (sum_below n.states (λ s. slice_index_or n.cells s (pos 0)))) refl

  pub parents_at : parents_of other d ≡ parents
  parents_at = ap (λ n. n.parents) at

  pub rows_at : rows_of other d ≡ rows_under (states_of nodes) parents
  rows_at = λ i. rows_under (fun_ext states_at i) (parents_at i)

  pub rows_else : (v : ℕ) → v ≢ d → rows_of other v ≡ rows_of nodes v
  rows_else v n = λ i. rows_under (fun_ext states_at i) (else v n i).parents

  -- a node of another kind is not the decision
  not_it : (v : ℕ) (kind : Kind) → (node_at other v).kind ≡ kind → kind ≢ Decision → v ≢ d
  not_it v kind e n f = n (sym e ∙ kind_at v ∙ ap (λ u. (node_at nodes u).kind) f ∙ k.kind)

  pub decisions_same : decisions_of other ≡ decisions_of nodes
  decisions_same = λ i. filter (λ v. is_decision (kind_at v i)) (range_with_len 0 (len i))

  tables_kept : HasChanceTables nodes → HasChanceTables other
  tables_kept h = record {
    positive = λ v e. subst (λ n. 0 < n) (sym (total_at v)) (h.positive v (sym (kind_at v) ∙ e));
    table = λ v e.
        let n : v ≢ d = not_it v Chance e (λ f. cc) in
        subst (λ t. t) (λ i. IsTable (sym (cells_at v) i) (sym (rows_else v n) i) (sym (states_at v) i) (sym (total_at v) i)) (h.table v (sym (kind_at v) ∙ e));
  }

  owners_kept : (agents : ℕ) → HasOwners nodes agents → HasOwners other agents
  owners_kept agents h = record {
    agent = λ v a l n o. h.agent v a (subst (λ m. v < m) len l) (λ e. n (kind_at v ∙ e)) (subst (λ (os : List ℕ). Contains os a) (owners_at v) o);
    differ = λ v. subst AllDifferent (sym (owners_at v)) (h.differ v);
    one = λ v n. more_at v ∙ h.one v (λ e. n (kind_at v ∙ e));
    chance = λ v e. owner_at v ∙ h.chance v (sym (kind_at v) ∙ e);
  }

  values_kept : HasValues nodes → HasValues other
  values_kept h = record {
    utility = λ v l e. ap length (cells_at v) ∙ h.utility v (subst (λ m. v < m) len l) (sym (kind_at v) ∙ e) ∙ sym (rows_else v (not_it v Utility e (λ f. cc)));
    decision = λ v e. cells_at v ∙ h.decision v (sym (kind_at v) ∙ e);
  }

  limits_kept : (agents decimals : ℕ) → RulesFit other d → KeepsLimits (record { nodes = nodes; agents = agents; decimals = decimals }) → KeepsLimits (record { nodes = other; agents = agents; decimals = decimals })
  limits_kept agents decimals fit h = record {
    nodes = let a = h.nodes in let b = len in omega arith;
    states = λ v. let a = h.states v in let b = states_at v in omega arith;
    parents = λ v. few v (ℕ_discrete v d);
    cells = λ v l. small v l (ℕ_discrete v d);
    rules = fit.all;
    totals = λ v e. subst (λ n. n ≤ greatest_number) (sym (total_at v)) (h.totals v (sym (kind_at v) ∙ e));
    values = λ v e. subst (λ c. All (λ z. nat_abs z ≤ greatest_number) c) (sym (cells_at v)) (h.values v (sym (kind_at v) ∙ e));
    agents = h.agents;
    decimals = h.decimals;
  }
    where
      few : (v : ℕ) → Dec (v ≡ d) → length (parents_of other v) ≤ MOST_PARENTS
      few v (yes e) = subst (λ u. length (parents_of other u) ≤ MOST_PARENTS) (sym e) fit.parents
      few v (no n) = subst (λ (m : NodeView). length m.parents ≤ MOST_PARENTS) (sym (else v n)) (h.parents v)

      small : (v : ℕ) → v < length other → Dec (v ≡ d) → rows_of other v * states_of other v ≤ MOST_CELLS
      small v l (yes e) = subst (λ u. rows_of other u * states_of other u ≤ MOST_CELLS) (sym e) fit.cells
      small v l (no n) = subst (λ x. x ≤ MOST_CELLS) (λ i. sym (rows_else v n) i * sym (states_at v) i) (h.cells v (subst (λ m. v < m) len l))

  -- with a graph and rules of few enough cells it is a diagram
  pub diagram_kept : (agents decimals : ℕ) → IsGraph other → RulesFit other d → IsDiagram (record { nodes = nodes; agents = agents; decimals = decimals }) → IsDiagram (record { nodes = other; agents = agents; decimals = decimals })
  diagram_kept agents decimals graph fit h = record {
    graph = graph;
    owners = owners_kept agents h.owners;
    tables = tables_kept h.tables;
    values = values_kept h.values;
    limits = limits_kept agents decimals fit h.limits;
  }

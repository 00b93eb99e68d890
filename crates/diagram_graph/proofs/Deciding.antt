-- The diagram in which a chance node is a decision of an agent is one where the rules have few
-- enough cells.
use Rattle.std.proofs.Common.{◌≡◌, ◌≢◌, ◌∙◌, ℕ, ◌+◌, ◌*◌, ◌<◌, ◌≤◌, cond, List, [], ◌∷◌, length, refl, sym, ap, subst, pos, nat_abs, arith, slice_index_or, All}
use Rattle.std.specs.List.{range_with_len}
use Rattle.std.specs.Prelude.{Contains}
use Rattle.std.proofs.Math.Path.{fun_ext}
use Rattle.std.proofs.Math.Decide.{ℕ_discrete}
use Rattle.arc_laws.proofs.InControl.{Controls, controls, states_at, parents_at}
use Rattle.finite_sums.proofs.Members.{one_member}
use Rattle.finite_sums.specs.Sums.{sum_below}
use Rattle.maid_laws.proofs.Rearranged.{number}
use Rattle.maid_laws.proofs.Tied.{kind_within}
use Rattle.maid_model.specs.declared.diagrams.Kind.{Kind}
use Rattle.maid_model.specs.declared.diagrams.Kind.TheVariants.{Chance, Decision, Utility}
use Rattle.maid_model.specs.declared.limits.TheConstants.{MOST_STATES, MOST_PARENTS, MOST_CELLS, MOST_RULE_CELLS}
use Rattle.maid_model.specs.Diagrams.{IsDiagram, HasOwners, HasValues, KeepsLimits, greatest_number}
use Rattle.maid_model.specs.Edits.{as_decision}
use Rattle.maid_model.specs.Graph.{IsGraph, AllDifferent}
use Rattle.maid_model.specs.Nodes.{is_decision, node_at, states_of, parents_of, owners_of, Owns, rows_of, rows_under}
use Rattle.maid_model.specs.Tables.{HasChanceTables}
use Rattle.maid_model.specs.Views.{NodeView}
use Rattle.diagram_graph.specs.Room.{cells_at, rule_cells, rule_cells_at}
use Rattle.diagram_graph.proofs.RuleCells.{rules_changed}

not_decision : Chance ≡ Decision → ⊥
not_decision e = cc

not_utility : Chance ≡ Utility → ⊥
not_utility e = cc

utility_decision : Decision ≡ Utility → ⊥
utility_decision e = cc

-- a chance node is a node
pub chance_within : (nodes : List NodeView) (x : ℕ) → (node_at nodes x).kind ≡ Chance → x < length nodes
chance_within nodes x e = kind_within nodes x (λ f. not_utility (sym e ∙ f))

module _ (nodes : List NodeView) (agent x : ℕ) (k : (node_at nodes x).kind ≡ Chance) where
  abbrev others : List NodeView
  others = as_decision nodes agent x

  r : Controls nodes others agent x
  r = controls nodes agent x (chance_within nodes x k)

  same_states : (v : ℕ) → states_of others v ≡ states_of nodes v
  same_states = states_at nodes others agent x r k

  same_parents : (v : ℕ) → parents_of others v ≡ parents_of nodes v
  same_parents = parents_at nodes others agent x r k

  rows_same : (v : ℕ) → rows_of others v ≡ rows_of nodes v
  rows_same v = λ i. rows_under (fun_ext same_states i) (same_parents v i)

  cells_same : (v : ℕ) → cells_at others v ≡ cells_at nodes v
  cells_same v = λ i. rows_same v i * same_states v i

  kind_here : (node_at others x).kind ≡ Decision
  kind_here = ap (λ n. n.kind) r.at

  -- the rules have the cells of the new decision more
  pub rules_grow : rule_cells others ≡ rule_cells nodes + cells_at nodes x
  rules_grow =
      let h = rules_changed nodes others x (ap (range_with_len 0) r.len) (number nodes x (chance_within nodes x k))
      (λ v n i. cond (is_decision (r.else v n i).kind) (cells_same v i) 0) in
      let a : rule_cells_at nodes x ≡ 0 = ap (λ kind. cond (is_decision kind) (cells_at nodes x) 0) k in
      let b : rule_cells_at others x ≡ cells_at nodes x = (λ i. cond (is_decision (kind_here i)) (cells_same x i) 0) in omega arith

  owners_kept : (agents : ℕ) → agent < agents → HasOwners nodes agents → HasOwners others agents
  owners_kept agents l h = record {
    agent = λ v a low n o. few v a (subst (λ m. v < m) r.len low) n o (ℕ_discrete v x);
    differ = λ v. differ v (ℕ_discrete v x);
    one = λ v n. one v n (ℕ_discrete v x);
    chance = λ v e. none v e (ℕ_discrete v x);
  }
    where
      few : (v a : ℕ) → v < length nodes → (node_at others v).kind ≢ Chance → Owns others a v → Dec (v ≡ x) → a < agents
      few v a low n o (yes e) =
          let m : Contains (agent ∷ []) a = subst (λ (n : NodeView). Contains (n.owner ∷ n.more) a) r.at (subst (λ u. Contains (owners_of others u) a) e o) in
          subst (λ b. b < agents) (sym (one_member a agent [] refl m)) l
      few v a low n o (no ne) = h.agent v a low (subst (λ (m : NodeView). m.kind ≢ Chance) (r.else v ne) n) (subst (λ (m : NodeView). Contains (m.owner ∷ m.more) a) (r.else v ne) o)

      differ : (v : ℕ) → Dec (v ≡ x) → AllDifferent (owners_of others v)
      differ v (yes e) = subst (λ u. AllDifferent (owners_of others u)) (sym e) (subst (λ (m : NodeView). AllDifferent (m.owner ∷ m.more)) (sym r.at) ((λ m. let low = m.1 in absurd (omega arith)), tt))
      differ v (no ne) = subst (λ (m : NodeView). AllDifferent (m.owner ∷ m.more)) (sym (r.else v ne)) (h.differ v)

      one : (v : ℕ) → (node_at others v).kind ≢ Utility → Dec (v ≡ x) → (node_at others v).more ≡ []
      one v n (yes e) = ap (λ u. (node_at others u).more) e ∙ ap (λ m. m.more) r.at
      one v n (no ne) = ap (λ m. m.more) (r.else v ne) ∙ h.one v (subst (λ (m : NodeView). m.kind ≢ Utility) (r.else v ne) n)

      none : (v : ℕ) → (node_at others v).kind ≡ Chance → Dec (v ≡ x) → (node_at others v).owner ≡ 0
      none v e (yes f) = absurd (not_decision (sym e ∙ ap (λ u. (node_at others u).kind) f ∙ kind_here))
      none v e (no ne) = ap (λ m. m.owner) (r.else v ne) ∙ h.chance v (subst (λ (m : NodeView). m.kind ≡ Chance) (r.else v ne) e)

  -- a node of a kind other than decision is not the new decision
  not_it : (v : ℕ) (kind : Kind) → (node_at others v).kind ≡ kind → (Decision ≡ kind → ⊥) → v ≢ x
  not_it v kind e n f = n (sym kind_here ∙ ap (λ u. (node_at others u).kind) (sym f) ∙ e)

  values_kept : HasValues nodes → HasValues others
  values_kept h = record {
    utility = λ v l e.
        let ne : v ≢ x = not_it v Utility e utility_decision in
        ap (λ m. length m.cells) (r.else v ne) ∙ h.utility v (subst (λ m. v < m) r.len l) (subst (λ (m : NodeView). m.kind ≡ Utility) (r.else v ne) e) ∙ sym (rows_same v);
    decision = λ v e. decision v e (ℕ_discrete v x);
  }
    where
      decision : (v : ℕ) → (node_at others v).kind ≡ Decision → Dec (v ≡ x) → (node_at others v).cells ≡ []
      decision v e (yes f) = ap (λ u. (node_at others u).cells) f ∙ ap (λ m. m.cells) r.at
      decision v e (no ne) = ap (λ m. m.cells) (r.else v ne) ∙ h.decision v (subst (λ (m : NodeView). m.kind ≡ Decision) (r.else v ne) e)

  limits_kept : (agents decimals : ℕ) → rule_cells others ≤ MOST_RULE_CELLS → KeepsLimits (record { nodes = nodes; agents = agents; decimals = decimals }) → KeepsLimits (record { nodes = others; agents = agents; decimals = decimals })
  limits_kept agents decimals fit h = record {
    nodes = let a = h.nodes in let b = r.len in omega arith;
    states = λ v. subst (λ n. n ≤ MOST_STATES) (sym (same_states v)) (h.states v);
    parents = λ v. subst (λ (us : List ℕ). length us ≤ MOST_PARENTS) (sym (same_parents v)) (h.parents v);
    cells = λ v l. subst (λ n. n ≤ MOST_CELLS) (sym (cells_same v)) (h.cells v (subst (λ m. v < m) r.len l));
    rules = fit;
    totals = λ v e.
        let ne : v ≢ x = not_it v Chance e (λ f. not_decision (sym f)) in
        subst (λ (m : NodeView). nat_abs (sum_below m.states (λ s. slice_index_or m.cells s (pos 0))) ≤ greatest_number) (sym (r.else v ne)) (h.totals v (subst (λ (m : NodeView). m.kind ≡ Chance) (r.else v ne) e));
    values = λ v e.
        let ne : v ≢ x = not_it v Utility e utility_decision in
        subst (λ (m : NodeView). All (λ z. nat_abs z ≤ greatest_number) m.cells) (sym (r.else v ne)) (h.values v (subst (λ (m : NodeView). m.kind ≡ Utility) (r.else v ne) e));
    agents = h.agents;
    decimals = h.decimals;
  }

  pub made_kept : (agents decimals : ℕ) → agent < agents → IsGraph others → HasChanceTables others → rule_cells others ≤ MOST_RULE_CELLS
      → IsDiagram (record { nodes = nodes; agents = agents; decimals = decimals }) → IsDiagram (record { nodes = others; agents = agents; decimals = decimals })
  made_kept agents decimals l graph tables fit h = record {
    graph = graph;
    owners = owners_kept agents l h.owners;
    tables = tables;
    values = values_kept h.values;
    limits = limits_kept agents decimals fit h.limits;
  }

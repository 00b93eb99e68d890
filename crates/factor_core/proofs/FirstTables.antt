-- The first tables of nodes are the tables whose cells stand in the order of the node's parents.
use Rattle.std.proofs.Common.{◌≡◌, ◌⊎◌, ◌∙◌, ℕ, ◌*◌, ◌<◌, Bool, true, false, cond, ◌||◌, ◌==◌, List, [], ◌∷◌, ◌++◌, map, length, get_or, refl, sym, ap, subst, arith, Contains, inl, inr, pos, nat_abs}
use Rattle.std.proofs.Math.Path.{fun_ext}
use Rattle.std.proofs.lemmas.List.{length-map, get_or-map}
use Rattle.finite_sums.specs.Sums.{World}
use Rattle.finite_sums.specs.Members.{Among}
use Rattle.maid_laws.proofs.Basis.{among_filter_in}
use Rattle.maid_laws.proofs.Members.{among_of, contains_of}
use Rattle.maid_laws.proofs.Rearranged.{number}
use Rattle.maid_model.specs.declared.diagrams.Kind.TheVariants.{Chance, Decision, Utility}
use Rattle.maid_model.specs.Diagrams.{IsDiagram}
use Rattle.maid_model.specs.Graph.{AllDifferent, Here}
use Rattle.maid_model.specs.Nodes.{node_at, states_of, parents_of, numbers_of, decisions_of, counts_of, rows_of, rows_under, is_decision, is_utility, IsDecision}
use Rattle.maid_model.specs.Profiles.{IsProfile, HasRule}
use Rattle.maid_model.specs.Tables.{row_from, row_of, cell_of, table_by, weights_of}
use Rattle.maid_model.specs.Views.{NodeView, DiagramView, RuleView}
use Rattle.node_sets.specs.declared.sets.NodeSet.{NodeSet}
use Rattle.node_sets.specs.Sets.{holds}
use Rattle.ring_sums.specs.Tables.{IsSame}
use Rattle.plan_sums.specs.Plans.{Cells, has, node_table, utility_table}
use Rattle.factor_core.specs.Copies.{list_table}
use Rattle.factor_core.specs.Operations.{first_count, first_table}
use Rattle.factor_core.specs.Slots.{cells_over}
use Rattle.factor_core.specs.Tables.{states_in, size_of}
use Rattle.factor_core.proofs.Copying.{row_below}
use Rattle.factor_core.proofs.Counts.{states_is, cells_are}
use Rattle.factor_core.proofs.ListTables.{has_is, row_behind, rows_behind, has_behind}
use Rattle.factor_core.proofs.Reordering.{shuffled_nodes, rows_shuffled}

-- ---- the node behind its parents
among_behind : (us : List ℕ) (v x : ℕ) → Among x (us ++ v ∷ []) → Among x us ⊎ (x ≡ v)
among_behind [] v x (inl e) = inr e
among_behind [] v x (inr m) = absurd m
among_behind (u ∷ us) v x (inl e) = inl (inl e)
among_behind (u ∷ us) v x (inr m) = elim (among_behind us v x m) [ inl k ↦ inl (inr k) | inr e ↦ inr e ]

different_behind : (us : List ℕ) (v : ℕ) → AllDifferent us → (Contains us v → ⊥) → AllDifferent (us ++ v ∷ [])
different_behind [] v h apart = ((λ m. among_of v [] m), tt)
different_behind (u ∷ us) v h apart = (
  λ m. elim (among_behind us v u (among_of u (us ++ v ∷ []) m)) [ inl k ↦ h.0 (contains_of u us k) | inr e ↦ apart (contains_of v (u ∷ us) (inl (sym e))) ],
  different_behind us v h.1 (λ m. apart (contains_of v (u ∷ us) (inr (among_of v us m)))),
)

-- the choices of states of a list of nodes are as many as the cells of a table over them
pub list_size : (nodes : List NodeView) (counts : List ℕ) → counts ≡ counts_of nodes → (list : List ℕ) (scope : NodeSet) → AllDifferent list
    → ((v : ℕ) → Contains list v → v < length nodes) → ((v : ℕ) → holds scope v ≡ has list v) → rows_under (states_in counts) list ≡ size_of counts scope
list_size nodes counts is list scope once known same =
    ap (λ f. rows_under f list) (ap states_in is ∙ states_is nodes)
    ∙ rows_shuffled (states_of nodes) (shuffled_nodes nodes (has list) list once (has_is list) (λ v t. known v ((has_is list v).1 t)))
    ∙ ap (cells_over nodes) (sym (fun_ext same))
    ∙ sym (cells_are nodes (holds scope))
    ∙ ap (λ cs. size_of cs scope) (sym is)

module _ (d : DiagramView) (is : IsDiagram d) (v : ℕ) (inside : v < length d.nodes) where
  abbrev pub family : List ℕ
  family = parents_of d.nodes v ++ v ∷ []

  pub family_once : AllDifferent family
  family_once = different_behind (parents_of d.nodes v) v (is.graph.parents_differ v) (λ m. is.graph.acyclic v (v, m, Here))

  pub family_known : (u : ℕ) → Contains family u → u < length d.nodes
  family_known u m =
      elim (among_behind (parents_of d.nodes v) v u (among_of u family m)) [
        | inl k ↦ is.graph.parents_known u v (contains_of u (parents_of d.nodes v) k)
        | inr e ↦ subst (λ k. k < length d.nodes) (sym e) inside
      ]

  pub family_rows : rows_under (states_of d.nodes) family ≡ rows_of d.nodes v * states_of d.nodes v
  family_rows = rows_behind (states_of d.nodes) (parents_of d.nodes v) v

  -- the room for a table over nodes of a list
  pub list_room : (vs : List ℕ) (h : ℕ → Bool) → AllDifferent vs → ((u : ℕ) → Contains vs u → u < length d.nodes) → ((u : ℕ) → has vs u ≡ h u) → rows_under (states_of d.nodes) vs ≡ cells_over d.nodes h
  list_room vs h different known same =
      rows_shuffled (states_of d.nodes) (shuffled_nodes d.nodes (has vs) vs different (has_is vs) (λ u t. known u ((has_is vs u).1 t)))
      ∙ ap (cells_over d.nodes) (fun_ext same)

  pub family_room : rows_under (states_of d.nodes) family ≡ cells_over d.nodes (λ u. (v == u) || has (parents_of d.nodes v) u)
  family_room = list_room family (λ u. (v == u) || has (parents_of d.nodes v) u) family_once family_known (has_behind (parents_of d.nodes v) v)

  pub parents_room : rows_under (states_of d.nodes) (parents_of d.nodes v) ≡ cells_over d.nodes (has (parents_of d.nodes v))
  parents_room = list_room (parents_of d.nodes v) (has (parents_of d.nodes v)) (is.graph.parents_differ v) (λ u m. is.graph.parents_known u v m) (λ u. refl)

  module _ {C : Type 0} (c : Cells C) where
    -- the room for the first table
    pub first_room : (p : List RuleView) → first_count d.nodes v ≡ cells_over d.nodes (first_table c d.nodes p v).holds
    first_room p = go (is_utility (node_at d.nodes v).kind)
      where
        go : (b : Bool) → cond b (rows_of d.nodes v) (rows_of d.nodes v * states_of d.nodes v) ≡ cells_over d.nodes (cond b (utility_table c d.nodes v) (node_table c d.nodes p v)).holds
        go true = parents_room
        go false = sym family_rows ∙ family_room

    -- the place over the family is that of the cell
    family_place : (w : World) → row_from (states_of d.nodes) w 0 family ≡ cell_of d.nodes v w
    family_place w = row_behind (states_of d.nodes) w 0 (parents_of d.nodes v) v

    -- a chance node
    pub chance_same : (p : List RuleView) → (node_at d.nodes v).kind ≡ Chance → IsSame (states_of d.nodes) (list_table c.ring d.nodes family (map (λ z. c.weight (nat_abs z)) (node_at d.nodes v).cells)) (node_table c d.nodes p v)
    chance_same p kind =
        let cells = (node_at d.nodes v).cells in
        record {
          holds = has_behind (parents_of d.nodes v) v;
          cell = λ w i.
              let below = row_below c.ring (states_of d.nodes) (λ u. 0) family w i in
              let within : row_from (states_of d.nodes) w 0 family < length cells = omega (arith, below, family_rows, (is.tables.table v kind).len) in
              get_or-map (λ z. c.weight (nat_abs z)) cells (row_from (states_of d.nodes) w 0 family) (pos 0) c.ring.nought within
              ∙ ap (λ k. c.weight (nat_abs (get_or cells k (pos 0)))) (family_place w)
              ∙ sym (ap (λ k. c.weight (nat_abs (table_by k cells (weights_of p v) (cell_of d.nodes v w)))) kind);
        }

    -- a decision
    pub rule_same : (p : List RuleView) → (node_at d.nodes v).kind ≡ Decision → length (weights_of p v) ≡ rows_of d.nodes v * states_of d.nodes v → IsSame (states_of d.nodes) (list_table c.ring d.nodes family (map c.weight (weights_of p v))) (node_table c d.nodes p v)
    rule_same p kind len =
        let weights = weights_of p v in
        record {
          holds = has_behind (parents_of d.nodes v) v;
          cell = λ w i.
              let below = row_below c.ring (states_of d.nodes) (λ u. 0) family w i in
              let within : row_from (states_of d.nodes) w 0 family < length weights = omega (arith, below, family_rows, len) in
              get_or-map c.weight weights (row_from (states_of d.nodes) w 0 family) 0 c.ring.nought within
              ∙ ap (λ k. c.weight (get_or weights k 0)) (family_place w)
              ∙ sym (ap (λ k. c.weight (nat_abs (table_by k (node_at d.nodes v).cells weights (cell_of d.nodes v w)))) kind);
        }

    -- a utility
    pub value_same : (node_at d.nodes v).kind ≡ Utility → IsSame (states_of d.nodes) (list_table c.ring d.nodes (parents_of d.nodes v) (map c.value (node_at d.nodes v).cells)) (utility_table c d.nodes v)
    value_same kind =
        let cells = (node_at d.nodes v).cells in
        record {
          holds = λ u. refl;
          cell = λ w i.
              let below = row_below c.ring (states_of d.nodes) (λ u. 0) (parents_of d.nodes v) w i in
              get_or-map c.value cells (row_of d.nodes v w) (pos 0) c.ring.nought (omega (arith, below, is.values.utility v inside kind));
        }

  -- ---- rules
  pub rule_length : (p : List RuleView) → IsProfile d.nodes p → IsDecision d.nodes v → length (weights_of p v) ≡ rows_of d.nodes v * states_of d.nodes v
  rule_length p prof dec = sym (length-map (weights_of p v) pos) ∙ (prof.rule v dec).table.len

  pub has_rule : (p : List RuleView) → IsProfile d.nodes p → IsDecision d.nodes v → HasRule p v
  has_rule p prof dec =
      subst (λ xs. Contains xs v) (sym prof.decisions)
      (contains_of v (decisions_of d.nodes) (among_filter_in (λ u. is_decision (node_at d.nodes u).kind) v (numbers_of d.nodes) (number d.nodes v inside) (ap is_decision dec.kind)))

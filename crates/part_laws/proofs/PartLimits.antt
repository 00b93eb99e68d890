-- A part of a diagram is one, within the same limits.
use Rattle.std.proofs.Common.{◌≡◌, ◌∙◌, ℕ, ◌*◌, ◌<◌, ◌≤◌, cond, List, length, slice_index, slice_index_or, sym, ap, subst, arith, pos, nat_abs, All, eqb, ◌*ℤ◌, Contains, ◌∷◌}
use Rattle.maid_model.specs.Tables.{table, cell_of, weights_of, rule_total}
use Rattle.maid_model.specs.declared.diagrams.Kind.TheVariants.{Decision}
use Rattle.std.proofs.lemmas.List.{length-map}
use Rattle.std.proofs.Math.Decide.{dec_lt}
use Rattle.std.specs.List.{range_with_len}
use Rattle.maid_model.specs.Diagrams.{greatest_number}
use Rattle.maid_model.specs.Graph.{Arc, Descends, AllDifferent}
use Rattle.maid_model.specs.Nodes.{node_at, states_of, parents_of, rows_of, numbers_of, decisions_of, is_decision}
use Rattle.finite_sums.specs.Sums.{sum_below, product_over, nat_sum_over}
use Rattle.maid_model.specs.Views.{NodeView}
use Rattle.maid_model.specs.Gains.{sum_worlds, is_at, utility, utility_below}
use Rattle.finite_sums.specs.Members.{Among}
use Rattle.std.proofs.Math.Path.{fun_ext}
use Rattle.maid_laws.proofs.Basis.{table_same}
use Rattle.maid_laws.proofs.Tied.{decision_of}
use Rattle.maid_model.specs.Parts.{is_in, place_in, renumbered, part_of}
use Rattle.part_laws.specs.PartLaws.{PartsAreDiagrams, NodesOfParts, RulesOfParts, SumsReadWeights}
use Rattle.maid_laws.proofs.Members.{among_of}
use Rattle.part_laws.proofs.NaturalSums.{some_sum, same_sum, some_le_all, nat_sum_over-shuffled, count_ones}
use Rattle.part_laws.proofs.PartNodes.{Closed, closed_of, length_part, inside, outside, old_in, node_is, node_new, states_is, kind_is, rows_is, graph_is, tables_are, weights_is, total_is, descends_old, descends_new}
use Rattle.part_laws.proofs.PartSums.{ins_shuffled, numbers_part, place_in_range}
use Rattle.part_laws.proofs.Places.{at_place, place_below, all_places, nat_sum_over-map}
use Rattle.maid_laws.proofs.Ranks.{past_end}
use Rattle.maid_laws.proofs.Rearranged.{length_range}

module _ (nodes : List NodeView) (kept : List ℕ) (c : Closed nodes kept) where
  -- a sum over kept nodes is part of one over all
  kept_sum_le : (h : ℕ → ℕ) → nat_sum_over h kept ≤ nat_sum_over h (numbers_of nodes)
  kept_sum_le h = subst (λ x. x ≤ nat_sum_over h (numbers_of nodes)) (nat_sum_over-shuffled h (ins_shuffled nodes kept c)) (some_le_all h (is_in kept) (numbers_of nodes))

  kept_length : length kept ≤ length nodes
  kept_length = omega (arith, kept_sum_le (λ v. 1), count_ones kept, count_ones (numbers_of nodes), length_range 0 (length nodes))

  -- each number has a node of the whole, past the end the one that is none
  some_old : (k : ℕ) → (v : ℕ) × (node_at (part_of nodes kept) k ≡ renumbered kept (node_at nodes v))
  some_old k = go (dec_lt k (length kept))
    where
      end_of_all : length nodes ≤ length nodes
      end_of_all = omega arith

      end_of_part : ¬ (k < length kept) → length (part_of nodes kept) ≤ k
      end_of_part n = let e : length (part_of nodes kept) ≡ length kept = length_part nodes kept c in omega arith

      go : Dec (k < length kept) → (v : ℕ) × (node_at (part_of nodes kept) k ≡ renumbered kept (node_at nodes v))
      go (yes l) = (slice_index kept k, node_is nodes kept c k l)
      go (no n) = (length nodes, past_end (part_of nodes kept) k (end_of_part n) ∙ sym (ap (renumbered kept) (past_end nodes (length nodes) end_of_all)))

  -- a sum over the part's decisions is part of one over all
  rules_le : nat_sum_over (λ k. rows_of (part_of nodes kept) k * states_of (part_of nodes kept) k) (decisions_of (part_of nodes kept)) ≤ nat_sum_over (λ v. rows_of nodes v * states_of nodes v) (decisions_of nodes)
  rules_le =
      let l : nat_sum_over at kept ≤ nat_sum_over at (numbers_of nodes) = kept_sum_le at in
      subst (λ x. nat_sum_over (λ k. rows_of (part_of nodes kept) k * states_of (part_of nodes kept) k) (decisions_of (part_of nodes kept)) ≤ x) (sym (some_sum (λ v. rows_of nodes v * states_of nodes v) (λ v. is_decision (node_at nodes v).kind) (numbers_of nodes)))
      (subst (λ x. x ≤ nat_sum_over at (numbers_of nodes)) (sym in_part) l)
    where
      at : ℕ → ℕ
      at v = cond (is_decision (node_at nodes v).kind) (rows_of nodes v * states_of nodes v) 0

      here : ℕ → ℕ
      here k = cond (is_decision (node_at (part_of nodes kept) k).kind) (rows_of (part_of nodes kept) k * states_of (part_of nodes kept) k) 0

      in_part : nat_sum_over (λ k. rows_of (part_of nodes kept) k * states_of (part_of nodes kept) k) (decisions_of (part_of nodes kept)) ≡ nat_sum_over (λ v. cond (is_decision (node_at nodes v).kind) (rows_of nodes v * states_of nodes v) 0) kept
      in_part =
          some_sum (λ k. rows_of (part_of nodes kept) k * states_of (part_of nodes kept) k) (λ k. is_decision (node_at (part_of nodes kept) k).kind) (numbers_of (part_of nodes kept))
          ∙ same_sum here (λ k. at (slice_index kept k)) (numbers_of (part_of nodes kept))
          (λ k m. let l : k < length kept = place_in_range nodes kept c k (subst (Among k) (numbers_part nodes kept c) m) in
          λ i. cond (is_decision (kind_is nodes kept c k l i)) (rows_is nodes kept c k l i * states_is nodes kept c k l i) 0)
          ∙ ap (nat_sum_over (λ k. at (slice_index kept k))) (numbers_part nodes kept c)
          ∙ sym (nat_sum_over-map at (slice_index kept) (range_with_len 0 (length kept)))
          ∙ ap (nat_sum_over at) (all_places kept)

-- each field from the whole's
pub diagrams_law : PartsAreDiagrams
diagrams_law d kept is closed = record {
  graph = graph_is d.nodes kept c is.graph;
  owners = record {
    agent = λ k a l n o. is.owners.agent (slice_index kept k) a (c.within (slice_index kept k) (old_in d.nodes kept c k (inside d.nodes kept c k l))) (λ e. n (ap (λ x. x.kind) (node k l) ∙ e)) (subst (λ x. Contains (x.owner ∷ x.more) a) (node k l) o);
    differ = λ k. let o = some_old d.nodes kept c k in subst (λ x. AllDifferent (x.owner ∷ x.more)) (sym o.1) (is.owners.differ o.0);
    one = λ k n. let o = some_old d.nodes kept c k in ap (λ x. x.more) o.1 ∙ is.owners.one o.0 (λ e. n (ap (λ x. x.kind) o.1 ∙ e));
    chance = λ k e. let o = some_old d.nodes kept c k in ap (λ x. x.owner) o.1 ∙ is.owners.chance o.0 (sym (ap (λ x. x.kind) o.1) ∙ e);
  };
  tables = tables_are d.nodes kept c is.tables;
  values = record {
    utility = λ k l e. ap (λ x. length x.cells) (node k l)
        ∙ is.values.utility (slice_index kept k) (c.within (slice_index kept k) (old_in d.nodes kept c k (inside d.nodes kept c k l))) (sym (ap (λ x. x.kind) (node k l)) ∙ e)
        ∙ sym (rows_is d.nodes kept c k (inside d.nodes kept c k l));
    decision = λ k e. let o = some_old d.nodes kept c k in ap (λ x. x.cells) o.1 ∙ is.values.decision o.0 (sym (ap (λ x. x.kind) o.1) ∙ e);
  };
  limits = record {
    nodes = omega (arith, length_part d.nodes kept c, kept_length d.nodes kept c, is.limits.nodes);
    states = λ k. let o = some_old d.nodes kept c k in subst (λ x. x.states ≤ 256) (sym o.1) (is.limits.states o.0);
    parents = λ k. let o = some_old d.nodes kept c k in subst (λ x. length x.parents ≤ 16) (sym o.1) (subst (λ x. x ≤ 16) (sym (length-map (parents_of d.nodes o.0) (place_in kept))) (is.limits.parents o.0));
    cells = λ k l. subst (λ x. x ≤ 65536) (λ i. sym (rows_is d.nodes kept c k (inside d.nodes kept c k l)) i * sym (states_is d.nodes kept c k (inside d.nodes kept c k l)) i)
        (is.limits.cells (slice_index kept k) (c.within (slice_index kept k) (old_in d.nodes kept c k (inside d.nodes kept c k l))));
    rules = omega (arith, rules_le d.nodes kept c, is.limits.rules);
    totals = λ k e. let o = some_old d.nodes kept c k in
        subst (λ x. nat_abs (sum_below x.states (λ s. slice_index_or x.cells s (pos 0))) ≤ greatest_number) (sym o.1) (is.limits.totals o.0 (sym (ap (λ x. x.kind) o.1) ∙ e));
    values = λ k e. let o = some_old d.nodes kept c k in subst (λ x. All (λ z. nat_abs z ≤ greatest_number) x.cells) (sym o.1) (is.limits.values o.0 (sym (ap (λ x. x.kind) o.1) ∙ e));
    agents = is.limits.agents;
    decimals = is.limits.decimals;
  };
}
  where
    c : Closed d.nodes kept
    c = closed_of d.nodes kept closed

    node : (k : ℕ) → k < length (part_of d.nodes kept) → node_at (part_of d.nodes kept) k ≡ renumbered kept (node_at d.nodes (slice_index kept k))
    node k l = node_is d.nodes kept c k (inside d.nodes kept c k l)

pub nodes_law : NodesOfParts
nodes_law nodes kept v closed k =
    let c : Closed nodes kept = closed_of nodes kept closed in
    let m : Among v kept = among_of v kept k in
    let l : place_in kept v < length kept = place_below kept v m in (
      record {
        within = outside nodes kept c (place_in kept v) l;
        old = at_place kept v m;
        node = node_new nodes kept c v m;
        rows = rows_is nodes kept c (place_in kept v) l ∙ ap (rows_of nodes) (at_place kept v m);
      },
      (λ u n. ((λ h. descends_new nodes kept c u v h m), (λ h. both nodes u (slice_index kept (place_in kept u)) v (slice_index kept (place_in kept v)) (at_place kept u (among_of u kept n)) (at_place kept v m) (descends_old nodes kept c (place_in kept u) (place_in kept v) h)))),
    )
  where
    both : (nodes : List NodeView) (u x v y : ℕ) → x ≡ u → y ≡ v → Descends (Arc nodes) x y → Descends (Arc nodes) u v
    both nodes u x v y e f h = subst (λ z. Descends (Arc nodes) u z) f (subst (λ z. Descends (Arc nodes) z y) e h)

pub rules_law : RulesOfParts
rules_law nodes p kept v closed is k =
    let c : Closed nodes kept = closed_of nodes kept closed in
    let m : Among v kept = among_of v kept k in
    let l : place_in kept v < length kept = place_below kept v m in
    let e : slice_index kept (place_in kept v) ≡ v = at_place kept v m in
    let kind : (node_at nodes (slice_index kept (place_in kept v))).kind ≡ Decision = ap (λ u. (node_at nodes u).kind) e ∙ is.kind in
    (weights_is nodes kept c p (place_in kept v) l kind ∙ ap (weights_of p) e, total_is nodes kept c p (place_in kept v) l kind ∙ ap (rule_total p) e)

-- the tables are the same, so the sums are
pub reads_law : SumsReadWeights
reads_law nodes s t h = record {
  gain = λ d state row. ap (λ f. sum_worlds nodes (λ w. cond (is_at nodes d state row w) (product_over (λ v. cond (eqb v d) (pos 1) (f v w)) (numbers_of nodes) *ℤ utility_below nodes d w) (pos 0))) same;
  mass_there = λ d row. ap (λ f. sum_worlds nodes (λ w. cond (is_at nodes d 0 row w) (product_over (λ v. cond (eqb v d) (pos 1) (f v w)) (numbers_of nodes)) (pos 0))) same;
  agents_gain = λ agent. ap (λ f. sum_worlds nodes (λ w. product_over (λ v. f v w) (numbers_of nodes) *ℤ utility nodes agent w)) same;
}
  where
    same : table nodes s ≡ table nodes t
    same = fun_ext (λ v. fun_ext (λ w. table_same (node_at nodes v).kind (node_at nodes v).cells (weights_of s v) (weights_of t v) (cell_of nodes v w) (λ e. h v (decision_of nodes v e))))

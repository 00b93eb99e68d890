-- From a graph with a list of its nodes, and a profile's rules, to what the sums use of them.
use Rattle.std.proofs.Common.{◌≡◌, ◌≢◌, ℕ, ◌+◌, ◌<◌, false, List, length, refl, ap, arith, pos, ◌*ℤ◌}
use Rattle.maid_model.specs.declared.diagrams.Kind.{Kind}
use Rattle.maid_model.specs.declared.diagrams.Kind.TheVariants.{Chance, Decision, Utility}
use Rattle.maid_model.specs.Gains.{gain_at, mass_at}
use Rattle.maid_model.specs.Graph.{Here}
use Rattle.maid_model.specs.Nodes.{node_at, states_of, is_utility, rows_under}
use Rattle.maid_model.specs.Relevance.{IsLive, ReliesOn}
use Rattle.maid_model.specs.Tables.{weights_of, rule_total, weight_total, total_by, chance_total}
use Rattle.maid_model.specs.Views.{NodeView, RuleView}
use Rattle.maid_model.proofs.Setting.{HasTables}
use Rattle.maid_laws.proofs.Notions.{OrderedGraph}
use Rattle.maid_laws.proofs.Basis.{Setup, Totals}
use Rattle.maid_laws.proofs.Proportions.{irrelevance, kind_of_utility}
use Rattle.maid_laws.proofs.Members.{arc_of, apart_of}
use Rattle.maid_laws.proofs.Rearranged.{among_shuffled, among_unshuffled, apart_shuffled, range_apart, in_range, among_range}
use Rattle.maid_laws.proofs.Signs.{table_sums}

-- a kind other than utility fails the test
no_utility : (k : Kind) → k ≢ Utility → is_utility k ≡ false
no_utility Chance n = refl
no_utility Decision n = refl
no_utility Utility n = absurd (n refl)

-- each field from the graph's, by members of lists
pub setup_of : (nodes : List NodeView) (g : OrderedGraph nodes) → Setup nodes g.order
setup_of nodes g = record {
  shuffled = g.shuffled;
  parents_first = g.parents_first;
  apart = apart_shuffled g.shuffled (range_apart 0 (length nodes));
  inside = λ v m. let h : v < 0 + length nodes = among_range 0 (length nodes) v (among_unshuffled v g.shuffled m) in omega arith;
  all = λ v l. among_shuffled v g.shuffled (in_range 0 (length nodes) v (omega arith) (omega arith));
  parent_inside = λ u v a. g.graph.parents_known u v (arc_of nodes u v a);
  parent_kind = λ u v a. no_utility (node_at nodes u).kind (g.graph.no_utility_parent u v (arc_of nodes u v a));
  utility_states = λ v e. g.graph.utility_states v (kind_of_utility (node_at nodes v).kind e);
  has_state = g.graph.has_state;
  not_own_parent = λ v a. g.graph.acyclic v (v, arc_of nodes v v a, Here);
  parents_apart = λ v. apart_of (node_at nodes v).parents (g.graph.parents_differ v);
}

-- each table adds up in each row
pub totals_of : (nodes : List NodeView) (p : List RuleView) → HasTables nodes p → Totals nodes p (λ v. pos (weight_total nodes p v))
totals_of nodes p t = record {
  at = λ v l. table_sums (node_at nodes v).kind (node_at nodes v).cells (weights_of p v) (rows_under (states_of nodes) (node_at nodes v).parents) (states_of nodes v) (weight_total nodes p v) (t.at v l)
      (λ e. ap (λ k. total_by k (chance_total nodes v) (rule_total p v)) e);
}

-- irrelevance over the list of an ordered graph
pub irrelevance_at : (nodes : List NodeView) (s t : List RuleView) (d state row : ℕ) → OrderedGraph nodes → HasTables nodes s → HasTables nodes t
    → IsLive nodes d → (node_at nodes d).kind ≡ Decision → state < states_of nodes d
    → ((e : ℕ) → ReliesOn nodes d e → weights_of s e ≡ weights_of t e)
    → gain_at nodes s d state row *ℤ mass_at nodes t d row ≡ gain_at nodes t d state row *ℤ mass_at nodes s d row
irrelevance_at nodes s t d state row g hs ht live kind l same =
    irrelevance nodes g.order (setup_of nodes g) s t (λ v. pos (weight_total nodes s v)) (λ v. pos (weight_total nodes t v)) (totals_of nodes s hs) (totals_of nodes t ht) d live kind same state row l

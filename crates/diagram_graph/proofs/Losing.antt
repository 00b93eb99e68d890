-- A diagram without an arc into a decision is a diagram.
use Rattle.std.proofs.Common.{◌≡◌, ℕ, ◌*◌, ◌≤◌, not, eqb, filter, List, length, sym, subst, arith}
use Rattle.std.proofs.Math.Decide.{ℕ_discrete}
use Rattle.std.proofs.Math.Nat.{mul-le-mul_right}
use Rattle.maid_model.specs.declared.limits.TheConstants.{MOST_RULE_CELLS}
use Rattle.maid_model.specs.Diagrams.{IsDiagram}
use Rattle.maid_model.specs.Edits.{without_arc}
use Rattle.maid_model.specs.Graph.{IsGraph}
use Rattle.maid_model.specs.Nodes.{IsDecision, states_of, parents_of, rows_of, decisions_of}
use Rattle.maid_model.specs.Views.{NodeView}
use Rattle.finite_sums.specs.Sums.{nat_sum_over}
use Rattle.diagram_graph.specs.Room.{RulesFit, cells_at}
use Rattle.diagram_graph.proofs.Filters.{filter_le, rows_le, sum_over_le}
use Rattle.diagram_graph.proofs.Reparented.{parents_at, rows_at, rows_else, states_at, decisions_same, diagram_kept}

module _ (nodes : List NodeView) (x d : ℕ) (k : IsDecision nodes d) where
  abbrev less : List NodeView
  less = without_arc nodes x d

  -- the parents that are left
  abbrev left : List ℕ
  left = filter (λ u. not (eqb u x)) (parents_of nodes d)

  -- a table has no more cells, and a rule has no more
  cells_no_more : IsGraph nodes → (v : ℕ) → cells_at less v ≤ cells_at nodes v
  cells_no_more graph v = subst (λ s. rows_of less v * s ≤ rows_of nodes v * states_of nodes v) (sym (states_at nodes d k left v)) (mul-le-mul_right (states_of nodes v) (rows_no_more (ℕ_discrete v d)))
    where
      rows_no_more : Dec (v ≡ d) → rows_of less v ≤ rows_of nodes v
      rows_no_more (yes e) = subst (λ u. rows_of less u ≤ rows_of nodes u) (sym e)
          (subst (λ n. n ≤ rows_of nodes d) (sym (rows_at nodes d k left)) (rows_le (states_of nodes) graph.has_state (λ u. not (eqb u x)) (parents_of nodes d)))
      rows_no_more (no n) = let e = rows_else nodes d k left v n in omega arith

  pub less_kept : (agents decimals : ℕ) → IsGraph less → IsDiagram (record { nodes = nodes; agents = agents; decimals = decimals }) → IsDiagram (record { nodes = less; agents = agents; decimals = decimals })
  less_kept agents decimals graph h = diagram_kept nodes d k left agents decimals graph fit h
    where
      fit : RulesFit less d
      fit = record {
        parents = let e = parents_at nodes d k left in let a = filter_le (λ u. not (eqb u x)) (parents_of nodes d) in let b = h.limits.parents d in subst (λ (us : List ℕ). length us ≤ 16) (sym e) (omega arith);
        cells = let a = cells_no_more h.graph d in let b = h.limits.cells d k.within in omega arith;
        all =
            let a = h.limits.rules in
            let b = sum_over_le (cells_at less) (cells_at nodes) (cells_no_more h.graph) (decisions_of nodes) in
            subst (λ (l : List ℕ). nat_sum_over (cells_at less) l ≤ MOST_RULE_CELLS) (sym (decisions_same nodes d k left)) (omega arith);
      }

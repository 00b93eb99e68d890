use Rattle.std.proofs.Common.{◌≡◌, ℕ, List, All, filter, map}
use Rattle.std.specs.List.{range_with_len}
use Rattle.maid_model.specs.Nodes.{is_decision, node_at}
use Rattle.maid_model.specs.Views.{NodeView}
use Rattle.relevance_graph.specs.declared.searches.KeptSearch.{KeptSearch}
use Rattle.relevance_graph.specs.Kept.{IsKeptSearch}
use Rattle.relevance_graph.proofs.searches.keep_searches.Given as goal

-- the decisions so far, with what their searches marked
pub record KeepsSoFar (nodes : List NodeView) (count : ℕ) (kept : List KeptSearch) : Type 0 where
  pub decisions : map (λ k. k.decision) kept ≡ filter (λ v. is_decision (node_at nodes v).kind) (range_with_len 0 count)
  pub all : All (IsKeptSearch nodes) kept

abbrev pub invariant-loop-decision : goal.invariant-loop-decision
invariant-loop-decision l = KeepsSoFar l.diagram.nodes l.decision l.kept.items

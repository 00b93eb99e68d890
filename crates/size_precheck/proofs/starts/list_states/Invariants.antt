use Rattle.std.proofs.Common.{◌≡◌, ◌<◌, ◌≤◌, ℕ, length}
use Rattle.std.specs.Prelude.{slice_index_or}
use Rattle.maid_model.specs.Nodes.{states_of}
use Rattle.size_precheck.proofs.starts.list_states.Given as goal

abbrev pub invariant-loop-v : goal.invariant-loop-v
invariant-loop-v l = record {
  len : length l.states.items ≡ 256;
  done : (u : ℕ) → u < l.v → slice_index_or l.states.items u 1 ≡ states_of l.diagram.nodes u;
  rest : (u : ℕ) → l.v ≤ u → slice_index_or l.states.items u 1 ≡ 1;
}

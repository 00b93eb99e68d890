use Rattle.std.proofs.Common.{◌≡◌, ℕ, ◌<◌, length, slice_index_or, pos}
use Rattle.maid_model.specs.declared.diagrams.Kind.TheVariants.{Utility}
use Rattle.maid_model.specs.Nodes.{node_at}
use Rattle.evidence.specs.Stakes.{IsWorthGivenAt}
use Rattle.evidence.proofs.sums.list_worths.Given as goal

-- the worths so far; the workspaces are empty again
abbrev pub invariant-loop-v : goal.invariant-loop-v
invariant-loop-v l =
    (length l.worths.items ≡ l.v)
    × ((u : ℕ) → u < l.v → (node_at l.diagram.nodes u).kind ≡ Utility → IsWorthGivenAt l.diagram.nodes l.profile l.node l.state u (slice_index_or l.worths.items u (pos 0)))
    × (l.spaces ≡ l.fn.spaces)

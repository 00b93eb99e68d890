use Rattle.std.proofs.Common.{◌≡◌, ℕ, ◌<◌, filter, length, slice_index_or, pos}
use Rattle.std.specs.List.{range_with_len}
use Rattle.maid_model.specs.declared.diagrams.Kind.TheVariants.{Utility}
use Rattle.maid_model.specs.Nodes.{IsOwnedBy, is_utility, node_at}
use Rattle.rule_solver.specs.Worths.{IsWorth}
use Rattle.rule_solver.proofs.optima.list_worths_for.Given as goal

-- the worths so far, and how many nodes are utilities; the workspaces are empty again
abbrev pub invariant-loop-v : goal.invariant-loop-v
invariant-loop-v l =
    (length l.worths.items ≡ l.v)
    × ((u : ℕ) → u < l.v → (node_at l.diagram.nodes u).kind ≡ Utility → IsOwnedBy l.diagram.nodes u l.agent → IsWorth l.diagram.nodes l.profile u (slice_index_or l.worths.items u (pos 0)))
    × (l.place ≡ length (filter (λ u. is_utility (node_at l.diagram.nodes u).kind) (range_with_len 0 l.v)))
    × (l.small ≡ l.fn.small)
    × (l.wide ≡ l.fn.wide)

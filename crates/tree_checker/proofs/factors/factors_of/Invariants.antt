use Rattle.std.proofs.Common.{◌≡◌, ◌<◌, ℕ, length, pos, slice_index}
use Rattle.tree_checker.specs.Walks.{factor_at}
use Rattle.tree_checker.proofs.factors.factors_of.Given as goal

-- the cells so far have their factors
abbrev pub invariant-loop-cell : goal.invariant-loop-cell
invariant-loop-cell l = record { count : length l.list.items ≡ l.cell; factor : (c : ℕ) → c < l.cell → pos (slice_index l.list.items c) ≡ factor_at l.diagram.nodes l.profile l.left_out l.v c }

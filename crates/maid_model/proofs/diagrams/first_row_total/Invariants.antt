use Rattle.std.proofs.Common.{◌≡◌, pos, slice_index_or}
use Rattle.finite_sums.specs.Sums.{sum_below}
use Rattle.maid_model.proofs.diagrams.first_row_total.Given as goal

abbrev pub invariant-loop-s : goal.invariant-loop-s
invariant-loop-s l = pos l.total ≡ sum_below l.s (λ s. slice_index_or l.cells s (pos 0))

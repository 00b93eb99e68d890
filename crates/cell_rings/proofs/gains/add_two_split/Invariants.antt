use Rattle.std.proofs.Common.{◌≡◌, length}
use Rattle.cell_rings.specs.Kinds.{gain_kind, as_gain}
use Rattle.cell_rings.specs.Words.{whole}
use Rattle.cell_rings.specs.Sums.{AddsTwo}
use Rattle.cell_rings.proofs.gains.add_two_split.Given as goal

abbrev pub invariant-loop-i : goal.invariant-loop-i
invariant-loop-i l =
    (length l.out ≡ length l.fn.out) × AddsTwo gain_kind (λ f. as_gain (whole f)) l.fn.out l.out l.at l.i l.cells l.pair

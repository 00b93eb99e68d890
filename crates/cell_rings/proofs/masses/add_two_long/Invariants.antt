use Rattle.std.proofs.Common.{◌≡◌, length}
use Rattle.cell_rings.specs.Kinds.{mass_kind}
use Rattle.cell_rings.specs.Sums.{AddsTwo}
use Rattle.cell_rings.proofs.masses.add_two_long.Given as goal

abbrev pub invariant-loop-i : goal.invariant-loop-i
invariant-loop-i l =
    (length l.out ≡ length l.fn.out) × AddsTwo mass_kind (λ f. f) l.fn.out l.out l.at l.i l.cells l.pair

use Rattle.std.proofs.Common.{◌≡◌, length}
use Rattle.cell_rings.specs.Kinds.{mass_kind, mass_of}
use Rattle.cell_rings.specs.Sums.{AddsTwo}
use Rattle.cell_rings.proofs.masses.add_two_short.Given as goal

abbrev pub invariant-loop-i : goal.invariant-loop-i
invariant-loop-i l =
    (length l.out ≡ length l.fn.out) × AddsTwo mass_kind mass_of l.fn.out l.out l.at l.i l.cells l.pair

use Rattle.std.proofs.Common.{◌≡◌, length}
use Rattle.cell_rings.specs.Kinds.{gain_kind}
use Rattle.cell_rings.specs.Words.{of_word}
use Rattle.cell_rings.specs.Sums.{AddsTwo}
use Rattle.cell_rings.proofs.gains.add_two_words.Given as goal

abbrev pub invariant-loop-i : goal.invariant-loop-i
invariant-loop-i l =
    (length l.out ≡ length l.fn.out) × AddsTwo gain_kind of_word l.fn.out l.out l.at l.i l.cells l.pair

use Rattle.std.proofs.Common.{◌≡◌, ◌+◌, ◌-◌, ◌<◌, arith, subst}
use Rattle.cell_rings.specs.Sums.{cell_at}
use Rattle.factor_core.proofs.narrow.narrow_slot.Goals as goal

pub returns-in-Some : goal.returns-in-Some
returns-in-Some g c k low below =
    let start = c.args.slot.now.start in
    let end : c.in-Some.end ≡ start + c.args.slot.now.len = c.in-Some.ensures.1 in
    let here : start + (k - start) ≡ k = omega (arith, low) in
    subst (λ p. g.C.Cell.bits (cell_at g.C.Cell.ring c.args.cells.now p) < g.C.Cell.narrow) here
    (c.are_narrow.ensures c.if-are_narrow.true (k - start) (omega (arith, low, below, end)))

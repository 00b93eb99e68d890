use Rattle.std.proofs.Common.{◌≡◌}
use Rattle.cell_rings.specs.Sums.{ring_sum, product_at}
use Rattle.factor_core.specs.Walks.{shifted}
use Rattle.factor_core.proofs.short_walks.add_sum.Given as goal

abbrev pub invariant-loop : goal.invariant-loop
invariant-loop g l =
    let r = g.C.Cell.ring in
    record {
      here : l.here ≡ shifted l.counter l.strides l.places;
      sum : l.sum ≡ ring_sum r l.counter (λ s. product_at r l.cells (shifted s l.strides l.places));
    }

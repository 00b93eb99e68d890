use Rattle.std.proofs.Common.{◌≡◌}
use Rattle.std.specs.List.{range_with_len}
use Rattle.finite_sums.specs.Sums.{nat_product_over}
use Rattle.evidence.proofs.Products.{factor_at}
use Rattle.evidence.proofs.stakes.chance_product.Given as goal

-- the product of the nodes so far
abbrev pub invariant-loop-v : goal.invariant-loop-v
invariant-loop-v l = l.product ≡ nat_product_over (factor_at l.diagram.nodes l.set) (range_with_len 0 l.v)

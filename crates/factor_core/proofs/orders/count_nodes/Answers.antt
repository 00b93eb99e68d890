use Rattle.std.proofs.Common.{◌+◌, true, length, ap, sym, arith}
use Rattle.node_sets.specs.Sets.{holds}
use Rattle.factor_core.proofs.Listing.{counted_more, listed_gap, listed_last}
use Rattle.factor_core.proofs.Scoping.{not_held}
use Rattle.factor_core.proofs.orders.count_nodes.Goals as goal

pub nodes-preserved : goal.nodes-preserved
nodes-preserved c =
    let scope = c.args.scope.now in
    let first = c.in-Some.ensures.0 in
    let gap = ap length (listed_gap (holds scope) c.args.count c.nodes.next c.in-Some.v first.not_before (omega (arith, c.in-Some.ensures.1)) (λ w a b. not_held (holds scope w) (first.first w a b))) in (
      counted_more (holds scope) c.args.count c.in-Some.v c.nodes.n (c.nodes.n + 1) true c.in-Some.ensures.1 (sym first.inside) (omega arith) (omega (arith, gap, c.nodes.invariant.0)),
      omega (arith, first.not_before, c.nodes.invariant.1),
      omega (arith, c.in-Some.ensures.1),
    )

pub returns-clause-count : goal.returns-clause-count
returns-clause-count c =
    let scope = c.args.scope.now in
    let last = ap length (listed_last (holds scope) c.args.count c.nodes.next c.nodes.invariant.2 (λ w a b. not_held (holds scope w) (c.in_default.ensures w a b))) in
    omega (arith, last, c.nodes.invariant.0)

use Rattle.std.proofs.Common.{arith, length, sym, ◌<◌}
use Rattle.weight_scale.proofs.Greatest.{greatest_step, greatest_end, greatest_is}
use Rattle.weight_scale.proofs.scopes.Scope.greatest.Goals as goal

pub first_between-requires : goal.first_between-requires
first_between-requires c = omega (arith, c.nodes.invariant.within, c.count-count.ensures.diagram.limits.nodes)

pub nodes-preserved : goal.nodes-preserved
nodes-preserved c =
    let inside : c.in-Some.v < length c.args.diagram.now.nodes = omega (arith, c.in-Some.ensures.1, c.count-count.ensures.count) in
    record {
      within = omega (arith, inside);
      small = omega (arith, c.in_ok-sum.ensures);
      whole = rw (c.in_ok-sum.ensures.1, c.greatest_abs.ensures, c.cells.ensures.cells) (greatest_step c.args.diagram.now.nodes c.args.self.now.utilities c.nodes.next c.nodes.sum _ c.in-Some.v c.in-Some.ensures.0 inside c.nodes.invariant.whole);
    }

-- the sum so far and this node's are too much already, so all are
pub returns-in_err-sum : goal.returns-in_err-sum
returns-in_err-sum c = rw c.from_residual.ensures (λ fits.
    let inside : c.in-Some.v < length c.args.diagram.now.nodes = omega (arith, c.in-Some.ensures.1, c.count-count.ensures.count) in
    let whole = rw (sym c.cells.ensures.cells, sym c.greatest_abs.ensures) at (greatest_step c.args.diagram.now.nodes c.args.self.now.utilities c.nodes.next c.nodes.sum _ c.in-Some.v c.in-Some.ensures.0 inside c.nodes.invariant.whole) in
    let many = c.in_err-sum.ensures in
    let same = greatest_is c.args.diagram.now.nodes c.args.self.now.utilities in
    omega (arith, whole, many, same, fits))

pub returns : goal.returns
returns c =
    let same = greatest_is c.args.diagram.now.nodes c.args.self.now.utilities in
    let ends = greatest_end c.args.diagram.now.nodes c.args.self.now.utilities c.nodes.next c.nodes.sum _ (λ u a b. c.in_default.ensures u a (omega (arith, b, c.count-count.ensures.count))) c.nodes.invariant.within c.nodes.invariant.whole in
    (omega (arith, c.nodes.invariant.small, same, ends), omega (arith, same, ends))

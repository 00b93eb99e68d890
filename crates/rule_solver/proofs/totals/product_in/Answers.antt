-- With the next member's total.
use Rattle.std.proofs.Common.{◌+◌, ◌*◌, slice_index, arith}
use Rattle.rule_solver.proofs.ProductLemmas.{last_members, next_member, so_far}
use Rattle.rule_solver.proofs.totals.product_in.Goals as goal

pub first_between-requires : goal.first_between-requires
first_between-requires c = omega (arith, c.members.invariant.1, c.requires.few)

pub overflow_mul-product : goal.overflow_mul-product
overflow_mul-product c =
    let found = c.in-Some.ensures.0 in
    let next = next_member c.args.totals.now c.args.set.now c.members.product c.members.from c.in-Some.v found.not_before c.in-Some.ensures.1 found.inside found.first c.members.invariant.0 in
    let small = so_far c.args.totals.now c.args.set.now c.requires.some (c.members.product * slice_index c.args.totals.now c.in-Some.v) (c.in-Some.v + 1) (omega (arith, c.in-Some.ensures.1)) next in
    omega (arith, small, c.requires.fits)

pub members-preserved : goal.members-preserved
members-preserved c =
    let found = c.in-Some.ensures.0 in (
      next_member c.args.totals.now c.args.set.now c.members.product c.members.from c.in-Some.v found.not_before c.in-Some.ensures.1 found.inside found.first c.members.invariant.0,
      omega (arith, c.in-Some.ensures.1),
    )

pub returns : goal.returns
returns c = last_members c.args.totals.now c.args.set.now c.members.product c.members.from c.members.invariant.1 c.in_default.ensures c.members.invariant.0

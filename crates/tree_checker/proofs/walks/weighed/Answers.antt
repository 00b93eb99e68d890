use Rattle.std.proofs.Common.{◌-◌, arith, length}
use Rattle.tree_checker.proofs.WalkTails.{down_within, tail_whole}
use Rattle.tree_checker.proofs.walks.weighed.Goals as goal

pub kind-requires : goal.kind-requires
kind-requires c = down_within c.args.diagram.now.nodes c.args.order.now c.requires (c.loop-end.end - 1) (omega (arith, c.loop-end.invariant.0, c.loop-end-test.true))

pub loop-end-init : goal.loop-end-init
loop-end-init c = (omega arith, tail_whole c.args.diagram.now.nodes c.args.order.now (length c.args.order.now) (omega arith))

pub overflow_sub-end : goal.overflow_sub-end
overflow_sub-end c = c.loop-end-test.true

pub returns-clause-within : goal.returns-clause-within
returns-clause-within c = c.loop-end.invariant.0

pub returns-clause-tail : goal.returns-clause-tail
returns-clause-tail c = c.loop-end.invariant.1

pub returns-in-Chance : goal.returns-in-Chance
returns-in-Chance c = record { within = c.loop-end.invariant.0; tail = c.loop-end.invariant.1 }

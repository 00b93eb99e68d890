-- A node's row is the first of those still to come.
use Rattle.std.proofs.Common.{length}
use Rattle.net_build.specs.Linking.{missing_at, missing_steps, borrowed_trees}
use Rattle.first_fault.proofs.HandedOn.{hands_on}
use Rattle.net_build.specs.Passes.{build_fault}
use Rattle.net_build.proofs.LinkLemmas.{range_on, range_refused, range_end}
use Rattle.net_build.proofs.potentials.check_tables.Goals as goal

pub returns-in_err-check_table : goal.returns-in_err-check_table
returns-in_err-check_table c =
    hands_on build_fault (missing_steps c.args.heads.now (borrowed_trees c.args.potentials.now)) _ _ c.from_residual.ensures
    (range_refused (missing_at c.args.heads.now (borrowed_trees c.args.potentials.now)) _ c.loop-node.node (length c.args.heads.now) _ c.loop-node-test.true c.loop-node.invariant c.in_err-check_table.ensures)

pub loop-node-preserved : goal.loop-node-preserved
loop-node-preserved c = range_on (missing_at c.args.heads.now (borrowed_trees c.args.potentials.now)) _ c.loop-node.node (length c.args.heads.now) c.loop-node-test.true c.loop-node.invariant c.in_ok-check_table.ensures

pub returns : goal.returns
returns c = range_end (missing_at c.args.heads.now (borrowed_trees c.args.potentials.now)) _ c.loop-node.node (length c.args.heads.now) c.loop-node-test.false c.loop-node.invariant

use Rattle.std.proofs.Common.{rules, arith}
use Rattle.factor_core.proofs.StrideRows.{no_slot, ones_more}
use Rattle.factor_core.proofs.rows.set_ones.Goals as goal

pub loop-j-preserved : goal.loop-j-preserved
loop-j-preserved c = (search rules, ones_more c.args.counts.now c.args.slots.now c.loop-j.sizes c.loop-j.j no_slot c.loop-j-test.true (omega (arith, c.loop-j-test.true, c.requires, c.loop-j.invariant.0)) c.loop-j.invariant.1)

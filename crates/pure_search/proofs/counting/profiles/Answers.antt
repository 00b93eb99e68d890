use Rattle.std.proofs.Common.{◌∙◌}
use Rattle.pure_search.proofs.Counted.{count_more}
use Rattle.pure_search.proofs.counting.profiles.Goals as goal

pub loop-choices-preserved : goal.loop-choices-preserved
loop-choices-preserved c = c.min-count.ensures ∙ count_more c.args.counts.now c.loop-choices.choices-index c.loop-choices.count c.loop-choices-test.true c.loop-choices.invariant

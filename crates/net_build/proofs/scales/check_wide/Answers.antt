-- The number at the place is wide where it does not fit, and only there.
use Rattle.std.proofs.Common.{not, ap, ◌∙◌}
use Rattle.net_build.proofs.ScaleLemmas.{wide_refused, wide_on}
use Rattle.net_build.proofs.scales.check_wide.Goals as goal

pub returns-then-is_none : goal.returns-then-is_none
returns-then-is_none c = λ text are. wide_refused text c.args.tokens.now c.args.decimals.now c.args.scale _ c.loop-place.place c.index-decimals-place.result c.scaled.result c.loop-place-test.true c.requires.len c.requires.enough c.index-decimals-place.is c.scaled.ensures are (c.loop-place.invariant text are) c.at.result (c.is_none.ensures ∙ ap not c.if-is_none.true) c.at.ensures

pub loop-place-preserved : goal.loop-place-preserved
loop-place-preserved c = λ text are. wide_on text c.args.tokens.now c.args.decimals.now c.args.scale _ c.loop-place.place c.index-decimals-place.result c.scaled.result c.loop-place-test.true c.requires.len c.requires.enough c.index-decimals-place.is c.scaled.ensures are (c.loop-place.invariant text are) (c.is_none.ensures ∙ ap not c.if-is_none.false)

use Rattle.std.proofs.Common.{◌≡◌, ◌++◌, rules}
use Rattle.app_lines.specs.Demo.{stage_blocks}
use Rattle.app_lines.proofs.Lines.{lines_next}
use Rattle.app_lines.proofs.demo.push_blocks.Goals as goal

pub loop-stage-preserved : goal.loop-stage-preserved
loop-stage-preserved c =
    let step : c.push_stage_blocks.new.out.items ≡ c.loop-stage.out.items ++ stage_blocks c.loop-stage.stage = search rules in
    lines_next stage_blocks c.loop-stage.stage c.loop-stage.out.items c.push_stage_blocks.new.out.items c.args.out.now.items step c.loop-stage.invariant

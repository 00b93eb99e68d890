use Rattle.std.proofs.Common.{◌≡◌, ◌++◌}
use Rattle.std.specs.List.{flat_map, range_with_len}
use Rattle.app_lines.specs.Demo.{stage_potentials}
use Rattle.app_lines.proofs.demo.push_potentials.Given as goal

-- the stages so far
abbrev pub invariant-loop-stage : goal.invariant-loop-stage
invariant-loop-stage l = l.out.items ≡ l.fn.out.items ++ flat_map stage_potentials (range_with_len 0 l.stage)

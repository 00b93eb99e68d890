use Rattle.std.proofs.Common.{◌≡◌, take}
use Rattle.rule_solver.specs.Bases.{IsTurningBase}
use Rattle.rule_solver.specs.Optima.{ChoosesAll}
use Rattle.rule_solver.proofs.optima.choose_all.Given as goal

-- the choices so far; the workspaces are as they were; the base has chosen rules, and uniform ones
-- elsewhere
abbrev pub invariant-loop-place : goal.invariant-loop-place
invariant-loop-place l = ChoosesAll l.diagram.nodes (take l.place l.order) l.answers.items × (l.spaces ≡ l.fn.spaces) × IsTurningBase l.diagram.nodes l.answers.items l.base

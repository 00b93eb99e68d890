use Rattle.std.proofs.Common.{ℕ, ◌<◌}
use Rattle.weight_scale.specs.Scaling.{row_at}
use Rattle.weight_scale.specs.Plain.{AddsUpTo}
use Rattle.weight_scale.proofs.plain.common_total.Given as goal

-- the rows so far have the first one's total
abbrev pub invariant-loop-r : goal.invariant-loop-r
invariant-loop-r l = (k : ℕ) → k < l.r → AddsUpTo (row_at l.states l.cells k) l.total

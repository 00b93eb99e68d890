use Rattle.std.proofs.Common.{◌≡◌, ◌*◌, ◌<◌, ◌≤◌, take}
use Rattle.cell_rings.specs.Rings.{most_size}
use Rattle.finite_sums.specs.Sums.{nat_product_over}
use Rattle.plan_sums.specs.Sizes.{value_bound}
use Rattle.rule_solver.proofs.joint_goals.JointSums.fitting.Given as goal

-- the bound is that of the goals so far, and where there is one it fits
abbrev pub invariant-loop-count : goal.invariant-loop-count
invariant-loop-count l = (l.bound ≡ l.self.total * nat_product_over (value_bound l.diagram.nodes) (take l.count l.goals)) × (0 < l.count → l.bound ≤ most_size)

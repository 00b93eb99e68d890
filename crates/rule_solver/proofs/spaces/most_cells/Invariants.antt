use Rattle.std.proofs.Common.{ℕ, ◌<◌, ◌≤◌, All, get_or}
use Rattle.size_precheck.specs.Sizes.{SizedPlan}
use Rattle.rule_solver.proofs.spaces.most_cells.Given as goal

-- as many as the plans so far, and no more than any number that all have at most
abbrev pub invariant-loop-plan : goal.invariant-loop-plan
invariant-loop-plan l =
    (l.fewest ≤ l.most)
    × ((k : ℕ) (d : SizedPlan) → k < l.plan-index → (get_or l.plans k d).size.cells ≤ l.most)
    × ((n : ℕ) → l.fewest ≤ n → All (λ (plan : SizedPlan). plan.size.cells ≤ n) l.plans → l.most ≤ n)

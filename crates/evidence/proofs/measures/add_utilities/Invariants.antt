use Rattle.std.proofs.Common.{◌≡◌, ℕ, ◌<◌, ◌≤◌, List, None, length, slice_index_or}
use Rattle.maid_model.specs.declared.limits.TheConstants.{COUNT_END}
use Rattle.plan_sums.specs.Plans.{PlanView}
use Rattle.size_precheck.specs.Sizes.{IsSizeOfAll}
use Rattle.evidence.specs.Plans.{IsPlanIf}
use Rattle.evidence.proofs.Measured.{Counted}
use Rattle.evidence.proofs.measures.add_utilities.Given as goal

-- the plans of the nodes so far are counted and listed
abbrev pub invariant-loop-v : goal.invariant-loop-v
invariant-loop-v l =
    ((plans : List PlanView) → IsSizeOfAll l.diagram.nodes plans l.fn.size → Counted l.diagram.nodes plans l.node l.v l.all)
    × (l.all.work ≤ COUNT_END)
    × (length l.plans.items ≡ l.v)
    × ((u : ℕ) → u < l.v → IsPlanIf l.diagram.nodes l.node u (slice_index_or l.plans.items u None))

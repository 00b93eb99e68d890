use Rattle.std.proofs.Common.{filter, map}
use Rattle.std.specs.List.{AllZip, range_with_len}
use Rattle.maid_model.specs.Nodes.{node_at, is_utility}
use Rattle.plan_sums.specs.Plans.{worth_plan}
use Rattle.size_precheck.specs.Sizes.{IsPlanned}
use Rattle.size_precheck.proofs.worths.worths_in.Given as goal

-- the plans of the utilities so far
abbrev pub invariant-loop-u : goal.invariant-loop-u
invariant-loop-u l = AllZip (IsPlanned l.diagram.nodes) (map (λ x. worth_plan x) (filter (λ x. is_utility (node_at l.diagram.nodes x).kind) (range_with_len 0 l.u))) l.plans.items

use Rattle.std.proofs.Common.{take}
use Rattle.size_precheck.specs.Decisions.{ArePlans}
use Rattle.size_precheck.proofs.keeping.plan_decisions.Given as goal

-- the plans of the decisions so far
abbrev pub invariant-loop-decision : goal.invariant-loop-decision
invariant-loop-decision l = ArePlans l.diagram.nodes (take l.decision-index l.order) l.plans.items

-- The decisions in text order: each stands there once, and their run has one size.
use Rattle.std.proofs.Common.{List, subst}
use Rattle.finite_sums.proofs.Members.{among_from_contains, contains_from_among}
use Rattle.maid_model.specs.Nodes.{decisions_of}
use Rattle.maid_model.specs.Views.{NodeView, DiagramView}
use Rattle.maid_laws.proofs.Members.{different_of}
use Rattle.maid_laws.proofs.Rules.{among_decisions}
use Rattle.maid_laws.proofs.SameProfile.{decided, decisions_apart}
use Rattle.rule_solver.specs.Faults.{KeepsPlanLimits}
use Rattle.size_precheck.specs.declared.sizes.Size.{Size}
use Rattle.size_precheck.specs.Laws.{OneSize}
use Rattle.size_precheck.specs.Sizes.{ListsDecisions, run_plans}
use Rattle.policy_update.specs.Faults.{IsSmallEnoughForUpdate, IsTextSize}

pub lists_decisions : (nodes : List NodeView) → ListsDecisions nodes (decisions_of nodes)
lists_decisions nodes = record {
  once = different_of (decisions_of nodes) (decisions_apart nodes);
  all = λ v. ((λ c. decided nodes v (among_from_contains (decisions_of nodes) v c)), (λ k. contains_from_among (decisions_of nodes) v (among_decisions nodes v k)));
}

-- a run has one size, so where that keeps the limits the run is small enough
pub small_enough : (d : DiagramView) (size : Size) → OneSize → IsTextSize d size → KeepsPlanLimits size → IsSmallEnoughForUpdate d
small_enough d size one sized keeps other run = subst KeepsPlanLimits (one d.nodes (run_plans d.nodes (decisions_of d.nodes)) size other sized run) keeps

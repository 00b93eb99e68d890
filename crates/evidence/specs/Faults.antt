-- What refuses a diagram under evidence: the first that applies of evidence below a decision, too
-- large rules, the relevance cycle, the weight bound, too large plans, and evidence that is
-- impossible.
use Rattle.std.specs.Prelude.{ℕ, Option, Some, None}
use Rattle.first_fault.specs.Passes.{Pass, rule, ◌▸◌}
use Rattle.maid_model.specs.Views.{DiagramView}
use Rattle.reach_laws.specs.Evidence.{all_seeing_diagram}
use Rattle.rule_solver.specs.Faults.{bound_pass, cycle_pass}
use Rattle.rule_solver.specs.Faults as solver
use Rattle.evidence.specs.declared.faults.GivenFault.{GivenFault}
use Rattle.evidence.specs.declared.faults.GivenFault.TheVariants as faults
use Rattle.evidence.specs.Bounds.{KeepsBoundsGiven, IsPassedAtGiven, IsPassedByUtilitiesGiven}
use Rattle.evidence.specs.Conditional.{IsImpossible}
use Rattle.evidence.specs.Rules.{IsBelowDecision, KeepsRules}
use Rattle.evidence.specs.Sizes.{IsSmallEnoughGiven, IsTooLargeGiven}

-- a fault; those of the diagram in which every decision sees x are the solver's
pub data FaultView : Type 0 where
  BelowDecision : FaultView
  RulesTooLarge : FaultView
  Unsolved : solver.FaultView → FaultView
  Impossible : FaultView

-- the fault in an error, or None where memory ran out, which says nothing of the diagram
abbrev pub given_fault : GivenFault → Option FaultView
given_fault faults.BelowDecision = Some BelowDecision
given_fault faults.RulesTooLarge = Some RulesTooLarge
given_fault (faults.Cycle list) = Some (Unsolved (solver.Cycle list.items))
given_fault (faults.WeightBound node) = Some (Unsolved (solver.WeightBound node))
given_fault (faults.TooLarge cells work) = Some (Unsolved (solver.TooLarge cells work))
given_fault faults.Impossible = Some Impossible
given_fault faults.NoMemory = None

-- x descends from no decision, or it does
abbrev pub below_pass : DiagramView → ℕ → Pass FaultView
below_pass d x = rule (IsBelowDecision d.nodes x) BelowDecision

-- the rules keep their limits, or they don't
abbrev pub rules_pass : DiagramView → Pass FaultView
rules_pass d None = KeepsRules d.nodes
rules_pass d (Some RulesTooLarge) = KeepsRules d.nodes → ⊥
rules_pass d (Some fault) = ⊥

-- the weight bound is kept in each further scope, or the place of the first that fails is found
abbrev pub further_pass : DiagramView → ℕ → Pass solver.FaultView
further_pass d x None = KeepsBoundsGiven d x
further_pass d x (Some (solver.WeightBound (Some v))) = IsPassedAtGiven d x v
further_pass d x (Some (solver.WeightBound None)) = IsPassedByUtilitiesGiven d x
further_pass d x (Some fault) = ⊥

-- all plans, the further ones too, are small enough, or their size is found
abbrev pub given_size_pass : DiagramView → ℕ → Pass solver.FaultView
given_size_pass d x None = IsSmallEnoughGiven d x
given_size_pass d x (Some (solver.TooLarge cells work)) = IsTooLargeGiven d x cells work
given_size_pass d x (Some fault) = ⊥

-- the limits of the diagram where x is given: the further scopes stand after all others, and before
-- the sizes
abbrev pub limits_pass : DiagramView → ℕ → Pass solver.FaultView
limits_pass d x = bound_pass d ▸ further_pass d x ▸ given_size_pass d x

-- the stages of solving where x is given
abbrev pub solving_pass : DiagramView → ℕ → Pass solver.FaultView
solving_pass d x = cycle_pass d ▸ limits_pass d x

-- the solver's fault
abbrev pub unsolved : Pass solver.FaultView → Pass FaultView
unsolved P None = P None
unsolved P (Some (Unsolved fault)) = P (Some fault)
unsolved P (Some fault) = ⊥

-- the worlds with this state at x weigh something, or they weigh nought
abbrev pub impossible_pass : DiagramView → ℕ → ℕ → Pass FaultView
impossible_pass d x state = rule (IsImpossible d.nodes x state) Impossible

-- before the diagram in which every decision sees x is made
abbrev pub sight_pass : DiagramView → ℕ → Pass FaultView
sight_pass d x = below_pass d x ▸ rules_pass (all_seeing_diagram d x)

-- of a diagram in which every decision sees x
abbrev pub answer_pass : DiagramView → ℕ → ℕ → Pass FaultView
answer_pass d x state = unsolved (solving_pass d x) ▸ impossible_pass d x state

-- the stages, one behind another
abbrev pub given_pass : DiagramView → ℕ → ℕ → Pass FaultView
given_pass d x state = sight_pass d x ▸ answer_pass (all_seeing_diagram d x) x state

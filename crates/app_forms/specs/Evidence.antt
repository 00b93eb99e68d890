-- What refuses a diagram under evidence, and the lines that say so.
use Rattle.std.specs.Prelude.{◌≡◌, ℕ, List, None, Some}
use Rattle.evidence.specs.Bounds.{KeepsBoundsGiven, IsPassedAtGiven, IsPassedByUtilitiesGiven}
use Rattle.evidence.specs.Conditional.{IsImpossible}
use Rattle.evidence.specs.Rules.{IsBelowDecision, KeepsRules}
use Rattle.evidence.specs.Sizes.{IsTooLargeGiven}
use Rattle.maid_model.specs.Names.{NamesView}
use Rattle.maid_model.specs.Scopes.{KeepsScopedBounds}
use Rattle.maid_model.specs.Views.{NodeView, DiagramView}
use Rattle.weight_scale.specs.Bound.{IsPassedAt, IsPassedByUtilities}
use Rattle.app_forms.specs.Lines.{below_decision_line, bound_line, impossible_line, rules_line, too_large_line}

-- the node descends from a decision, which is told
pub record TellsBelow (d : DiagramView) (x : ℕ) (name told : List ℕ) : Type 0 where
  pub below : IsBelowDecision d.nodes x
  pub says : told ≡ below_decision_line name

-- the rules pass their limits, which is told
pub record TellsRules (nodes : List NodeView) (told : List ℕ) : Type 0 where
  pub passes : KeepsRules nodes → ⊥
  pub says : told ≡ rules_line

-- the weight bound is kept in each scope, and in each further one where x is given
pub record KeepsAllBounds (d : DiagramView) (x : ℕ) : Type 0 where
  pub scopes : KeepsScopedBounds d
  pub further : KeepsBoundsGiven d x

-- the first scope that fails passes the weight bound, the further ones behind all others, and it is
-- told where
pub data TellsBoundGiven
    (d : DiagramView) (x : ℕ) (names : NamesView) (told : List ℕ) : Type 0 where
  AtNode :
      (v : ℕ) → IsPassedAt d v → told ≡ bound_line names (Some v) → TellsBoundGiven d x names told
  AtUtilities :
      IsPassedByUtilities d → told ≡ bound_line names None → TellsBoundGiven d x names told
  AtFurtherNode : (v : ℕ) → KeepsScopedBounds d → IsPassedAtGiven d x v
      → told ≡ bound_line names (Some v) → TellsBoundGiven d x names told
  AtFurtherUtilities : KeepsScopedBounds d → IsPassedByUtilitiesGiven d x
      → told ≡ bound_line names None → TellsBoundGiven d x names told

-- the run and the further plans pass a limit, and both counts are told
pub record TellsTooLargeGiven (d : DiagramView) (x : ℕ) (told : List ℕ) : Type 0 where
  pub cells : ℕ
  pub work : ℕ
  pub is_size : IsTooLargeGiven d x cells work
  pub says : told ≡ too_large_line cells work

-- the node never has the state, which is told
pub record TellsImpossible
    (nodes : List NodeView) (x state : ℕ) (name label told : List ℕ) : Type 0 where
  pub impossible : IsImpossible nodes x state
  pub says : told ≡ impossible_line name label

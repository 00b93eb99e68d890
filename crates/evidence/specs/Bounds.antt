-- The further scopes of a diagram under evidence, one for each agent, and the first whose bound
-- fails.
use Rattle.std.specs.Prelude.{ℕ, ◌<◌, ◌≤◌, max}
use Rattle.maid_model.specs.Diagrams.{greatest_number}
use Rattle.maid_model.specs.Scopes.{PassesInScope, chance_factor}
use Rattle.maid_model.specs.Views.{DiagramView}
use Rattle.weight_scale.specs.Given.{bound_given, product_given, scope_given}

-- how many further scopes there are: one for each agent, and where there is no agent one all the
-- same, of no utility
abbrev pub further_scopes : DiagramView → ℕ
further_scopes d = max 1 d.agents

-- the bounds of all further scopes hold, where x is given
pub record KeepsBoundsGiven (d : DiagramView) (x : ℕ) : Type 0 where
  pub each : (agent : ℕ) → agent < further_scopes d → bound_given d x agent ≤ greatest_number

-- the agent is the first whose further scope's bound fails
pub record FailsFirstGiven (d : DiagramView) (x agent : ℕ) : Type 0 where
  pub within : agent < further_scopes d
  pub fails : greatest_number < bound_given d x agent
  pub first : (other : ℕ) → other < agent → bound_given d x other ≤ greatest_number

-- v is the first node in the text at which the product of the first further scope that fails passes
pub record IsPassedAtGiven (d : DiagramView) (x v : ℕ) : Type 0 where
  pub agent : ℕ
  pub fails_first : FailsFirstGiven d x agent
  pub passes : PassesInScope (chance_factor d.nodes) (scope_given d.nodes x agent) v

-- the first further scope that fails has its product within the range: only its utilities pass
pub record IsPassedByUtilitiesGiven (d : DiagramView) (x : ℕ) : Type 0 where
  pub agent : ℕ
  pub fails_first : FailsFirstGiven d x agent
  pub within : product_given d.nodes x agent ≤ greatest_number

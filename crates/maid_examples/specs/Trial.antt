-- What the tests sum over.
use Rattle.std.specs.Prelude.{ℕ, ◌*◌, ◌^◌, ◌≤◌, max, List}
use Rattle.maid_model.specs.Views.{DiagramView, RuleView}
use Rattle.maid_model.specs.Nodes.{IsDecision}
use Rattle.maid_model.specs.Diagrams.{greatest_number}
use Rattle.maid_model.specs.Profiles.{IsProfile}
use Rattle.maid_model.specs.Gains.{mass, base_mass, greatest_utility}

-- a diagram with rules
pub record TrialView : Type 0 where
  pub diagram : DiagramView
  pub profile : List RuleView

-- what a mass is multiplied by at most: the utilities' scale, or their summed greatest values
abbrev pub greatest_factor : DiagramView → ℕ
greatest_factor d = max (10 ^ d.decimals) (greatest_utility d.nodes)

-- the rules are a profile, and the sums against it keep the weight bound
pub record HasRoomForTrial (t : TrialView) : Type 0 where
  pub profile : IsProfile t.diagram.nodes t.profile
  pub whole : mass t.diagram.nodes t.profile * greatest_factor t.diagram ≤ greatest_number
  pub base : (v : ℕ) → IsDecision t.diagram.nodes v
      → base_mass t.diagram.nodes t.profile v * greatest_factor t.diagram ≤ greatest_number

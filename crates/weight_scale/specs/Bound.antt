-- Where the weight bound of a diagram's scopes fails.
use Rattle.std.specs.Prelude.{◌⊎◌, ℕ, ◌≤◌}
use Rattle.maid_model.specs.Views.{DiagramView}
use Rattle.maid_model.specs.Bounds.{bound_factor}
use Rattle.maid_model.specs.Diagrams.{greatest_number}
use Rattle.maid_model.specs.Scopes.{scope_of, scope_for, scope_product, scope_product_for, chance_factor, KeepsScopedBounds, PassesInScope, FailsFirst, FailsFirstFor}
use Rattle.weight_scale.specs.declared.weight_bound.BoundPlace.{BoundPlace}
use Rattle.weight_scale.specs.declared.weight_bound.BoundPlace.TheVariants.{Within, Node, Utilities}

-- v is the first node in the text at which the product of the first scope that fails passes
abbrev pub IsPassedAt : DiagramView → ℕ → Type 0
IsPassedAt d v = ((e : ℕ) × FailsFirst d e
    × PassesInScope (bound_factor d.nodes) (scope_of d.nodes e) v)
    ⊎ ((agent : ℕ) × FailsFirstFor d agent
    × PassesInScope (chance_factor d.nodes) (scope_for d.nodes agent) v)

-- the first scope that fails has its product within the range: only its utilities pass
abbrev pub IsPassedByUtilities : DiagramView → Type 0
IsPassedByUtilities d =
    ((e : ℕ) × FailsFirst d e × (scope_product d.nodes e ≤ greatest_number))
    ⊎ ((agent : ℕ) × FailsFirstFor d agent × (scope_product_for d.nodes agent ≤ greatest_number))

-- Within: the bounds of all scopes hold. Node: the first that fails passes there. Utilities: it
-- passes by its utilities alone.
abbrev pub IsBoundPlace : DiagramView → BoundPlace → Type 0
IsBoundPlace d Within = KeepsScopedBounds d
IsBoundPlace d (Node v) = IsPassedAt d v
IsBoundPlace d Utilities = IsPassedByUtilities d

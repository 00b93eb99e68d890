-- The scope of an agent where a node's state is given, and its bound.
use Rattle.std.specs.Prelude.{ℕ, ◌*◌, ◌^◌, max, List, ◌∷◌}
use Rattle.finite_sums.specs.Sums.{nat_product_over}
use Rattle.maid_model.specs.Views.{NodeView, DiagramView}
use Rattle.maid_model.specs.Parts.{with_ancestors}
use Rattle.maid_model.specs.Scopes.{chance_factor, greatest_of, utilities_for}
use Rattle.weight_scale.specs.declared.weight_bound.BoundPlace.{BoundPlace}
use Rattle.weight_scale.specs.ScopePlaces.{IsPlaceInScope}

-- the scope of an agent where x is given: the nodes from which a path of nought or more arcs leads
-- to x or to a utility of the agent
abbrev pub scope_given : List NodeView → ℕ → ℕ → List ℕ
scope_given nodes x agent = with_ancestors nodes (x ∷ utilities_for nodes agent)

-- its P: the product of its chance totals
abbrev pub product_given : List NodeView → ℕ → ℕ → ℕ
product_given nodes x agent = nat_product_over (chance_factor nodes) (scope_given nodes x agent)

-- its P, times the greatest of the utilities' scale and the greatest absolute values of the agent's
-- utilities added up
abbrev pub bound_given : DiagramView → ℕ → ℕ → ℕ
bound_given d x agent = product_given d.nodes x agent
    * max (10 ^ d.decimals) (greatest_of d.nodes (utilities_for d.nodes agent))

-- where its bound fails
abbrev pub IsPlaceGiven : DiagramView → ℕ → ℕ → BoundPlace → Type 0
IsPlaceGiven d x agent place = IsPlaceInScope d (chance_factor d.nodes)
    (scope_given d.nodes x agent) (utilities_for d.nodes agent) place

-- What refuses a diagram: the first that applies of the weight bound, too many profiles or worlds,
-- and no pure equilibrium.
use Rattle.std.specs.Prelude.{◌≡◌, ℕ, ◌*◌, ◌≤◌, List, length, Option, Some, None}
use Rattle.first_fault.specs.Passes.{Pass, ◌▸◌}
use Rattle.maid_model.specs.declared.limits.TheConstants.{MOST_PROFILES, MOST_LEAVES, MOST_LISTED}
use Rattle.maid_model.specs.Bounds.{stopped, world_count}
use Rattle.maid_model.specs.Scopes.{KeepsScopedBounds}
use Rattle.maid_model.specs.Views.{NodeView, DiagramView, RuleView}
use Rattle.weight_scale.specs.Bound.{IsPassedAt, IsPassedByUtilities}
use Rattle.reach_laws.specs.Equilibria.{IsPureEquilibrium, pure_profiles}
use Rattle.pure_search.specs.declared.faults.PureFault.{PureFault}
use Rattle.pure_search.specs.declared.faults.PureFault.TheVariants.{WeightBound, TooLarge, NoPure, NoMemory}

-- the fault that an error is, or None where memory ran out, which says nothing of the diagram
abbrev pub pure_fault : PureFault → Option PureFault
pure_fault (WeightBound node) = Some (WeightBound node)
pure_fault (TooLarge profiles leaves) = Some (TooLarge profiles leaves)
pure_fault (NoPure profiles) = Some (NoPure profiles)
pure_fault NoMemory = None

-- the weight bound is kept in each scope, or the place of the first that fails is found: a node, or
-- else the utilities
abbrev pub search_bound_pass : DiagramView → Pass PureFault
search_bound_pass d None = KeepsScopedBounds d
search_bound_pass d (Some (WeightBound (Some v))) = IsPassedAt d v
search_bound_pass d (Some (WeightBound None)) = IsPassedByUtilities d
search_bound_pass d (Some fault) = ⊥

-- how many pure profiles there are
abbrev pub profile_count : List NodeView → ℕ
profile_count nodes = length (pure_profiles nodes)

-- counts of profiles and of worlds that can be listed together
pub record CanBeListed (profiles leaves : ℕ) : Type 0 where
  pub profiles_few : profiles ≤ MOST_PROFILES
  pub leaves_few : leaves ≤ MOST_LEAVES
  pub pairs_few : profiles * leaves ≤ MOST_LISTED

-- the diagram's counts keep the limits
abbrev pub IsSmall : DiagramView → Type 0
IsSmall d = CanBeListed (profile_count d.nodes) (world_count d.nodes)

-- the counts pass a limit, and these are they, each up to where counts stop
pub record IsTooLargeForSearch (d : DiagramView) (profiles leaves : ℕ) : Type 0 where
  pub passes : IsSmall d → ⊥
  pub profiles_are : profiles ≡ stopped (profile_count d.nodes)
  pub leaves_are : leaves ≡ stopped (world_count d.nodes)

-- the diagram is small enough, or its counts are found
abbrev pub count_pass : DiagramView → Pass PureFault
count_pass d None = IsSmall d
count_pass d (Some (TooLarge profiles leaves)) = IsTooLargeForSearch d profiles leaves
count_pass d (Some fault) = ⊥

-- there is a pure equilibrium, or none of so many pure profiles is one
abbrev pub stable_pass : DiagramView → Pass PureFault
stable_pass d None = (s : List RuleView) × IsPureEquilibrium d.nodes s
stable_pass d (Some (NoPure profiles)) =
    ((s : List RuleView) → IsPureEquilibrium d.nodes s → ⊥) × (profiles ≡ profile_count d.nodes)
stable_pass d (Some fault) = ⊥

-- the counts, and then the search
abbrev pub search_pass : DiagramView → Pass PureFault
search_pass d = count_pass d ▸ stable_pass d

-- the stages, one behind another
abbrev pub pure_pass : DiagramView → Pass PureFault
pure_pass d = search_bound_pass d ▸ search_pass d

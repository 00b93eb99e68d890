-- What the steps of measuring promise one another. Only private functions cite it.
use Rattle.std.specs.Prelude.{◌≡◌, ◌≢◌, ℕ, ◌+◌, max, List, ◌++◌, map, Option, Some}
use Rattle.maid_model.specs.declared.diagrams.Kind.TheVariants.{Utility}
use Rattle.maid_model.specs.Bounds.{stopped}
use Rattle.maid_model.specs.Nodes.{node_at}
use Rattle.maid_model.specs.Views.{NodeView}
use Rattle.plan_sums.specs.Plans.{PlanView}
use Rattle.size_precheck.specs.declared.sizes.Size.{Size}
use Rattle.size_precheck.specs.Sizes.{HasSize, IsSizeOfAll, utility_list}
use Rattle.evidence.specs.Sizes.{plan_given}

-- the size with one plan more
pub record AddsPlan (nodes : List NodeView) (plan : PlanView) (before after : Size) : Type 0 where
  pub size : Size
  pub has_size : HasSize nodes plan size
  pub cells : after.cells ≡ max before.cells size.cells
  pub work : after.work ≡ stopped (before.work + size.work)

-- the size with the plan more that keeps x, perhaps with a utility
abbrev pub AddsPlanGiven : List NodeView → ℕ → Option ℕ → Size → Size → Type 0
AddsPlanGiven nodes x utility before after = AddsPlan nodes (plan_given x utility) before after

-- the size with the plan that keeps x and has the utility v more, where v is one
pub record AddsUtility (nodes : List NodeView) (x v : ℕ) (before after : Size) : Type 0 where
  pub utility :
      (node_at nodes v).kind ≡ Utility → AddsPlan nodes (plan_given x (Some v)) before after
  pub other : (node_at nodes v).kind ≢ Utility → after ≡ before

-- the size with the plans more that keep x and have a utility: whichever plans it was the size of
-- before
abbrev pub AddsUtilities : List NodeView → ℕ → Size → Size → Type 0
AddsUtilities nodes x before after = (plans : List PlanView) → IsSizeOfAll nodes plans before
    → IsSizeOfAll nodes (plans ++ map (λ u. plan_given x (Some u)) (utility_list nodes)) after

-- A plan that is run in a workspace with room for it.
use Rattle.std.proofs.Common.{◌≡◌, ◌∙◌, ◌+◌, ◌<◌, ◌≤◌, List, [], length, sym, ap, subst, arith}
use Rattle.factor_core.specs.Slots.{Appends, WorkspaceView}
use Rattle.maid_model.specs.declared.limits.TheConstants.{COUNT_END}
use Rattle.maid_model.specs.Views.{NodeView}
use Rattle.plan_sums.specs.Plans.{PlanView}
use Rattle.size_precheck.specs.Sizes.{CanBePlanned, IsMade, IsPlanned, SizedPlan}
use Rattle.rule_solver.specs.Rooms.{IsReadyFor}

module _ (nodes : List NodeView) (asked : PlanView) (made : SizedPlan) (is : IsPlanned nodes asked made) where
  -- what was asked for is the plan's own
  pub own_asked : CanBePlanned nodes made.plan
  own_asked = subst (CanBePlanned nodes) (sym is.made.plan) is.asked

  pub own_made : IsMade nodes made.plan made
  own_made = subst (λ (plan : PlanView). IsMade nodes plan made) (sym is.made.plan) is.made

  module _ {C : Type 0} (work : WorkspaceView C) (ready : IsReadyFor nodes asked work) where
    pub few_cells : made.size.cells < COUNT_END
    few_cells = omega (arith, ready.2 made is.made, ready.1.limit)

    pub room_there : made.size.cells ≤ work.spare
    room_there = omega (arith, ready.2 made is.made, ready.1.spare)

    -- released after the run it is as before
    pub as_before : (after last : WorkspaceView C) → Appends work after (length work.cells) made.size.cells → last ≡ record { cells = []; spare = after.spare + length after.cells } → last ≡ work
    as_before after last run emptied = emptied ∙ (λ i. record { cells = sym ready.1.empty i; spare = spare i })
      where
        none : length work.cells ≡ 0
        none = ap (λ (cells : List C). length cells) ready.1.empty

        spare : after.spare + length after.cells ≡ work.spare
        spare = omega (arith, run.longer, run.less, none)

use Rattle.std.proofs.Common.{◌∷◌, [], refl, sym, subst, None}
use Rattle.maid_model.specs.Views.{DiagramView}
use Rattle.sum_tests.specs.Planning.{star_diagram}
use Rattle.size_precheck.specs.Sizes.{CanBePlanned}
use Rattle.sum_tests.proofs.PlanSamples.{planned}
use Rattle.sum_tests.proofs.planning.plan_of_points.Goals as goal

pub make_plan-requires : goal.make_plan-requires
make_plan-requires c =
    subst (λ (d : DiagramView). CanBePlanned d.nodes (record { keep = 1 ∷ 2 ∷ 3 ∷ 4 ∷ 5 ∷ 6 ∷ 7 ∷ 8 ∷ 9 ∷ 10 ∷ 11 ∷ 12 ∷ 13 ∷ 14 ∷ 15 ∷ []; without = None; utility = None })) (sym c.in_ok-star.ensures)
    (planned star_diagram.nodes (1 ∷ 2 ∷ 3 ∷ 4 ∷ 5 ∷ 6 ∷ 7 ∷ 8 ∷ 9 ∷ 10 ∷ 11 ∷ 12 ∷ 13 ∷ 14 ∷ 15 ∷ []) None refl refl refl)

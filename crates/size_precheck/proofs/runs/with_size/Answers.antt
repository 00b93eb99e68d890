use Rattle.std.proofs.Common.{map, subst, sym}
use Rattle.std.specs.List.{AllZip}
use Rattle.plan_sums.specs.Plans.{worth_plan}
use Rattle.size_precheck.specs.Decisions.{ArePlans}
use Rattle.size_precheck.specs.Sizes.{IsPlanned, utility_list}
use Rattle.size_precheck.proofs.Measuring.{include_then, size_of_all}
use Rattle.size_precheck.proofs.runs.with_size.Goals as goal

pub returns-clause-size : goal.returns-clause-size
returns-clause-size c nodes order planned worthy =
    let rows = c.include_rows-rows.ensures.counted nodes order (subst (ArePlans nodes order) (sym c.deref.ensures.value) planned) in
    let gains = c.include_all_goals-gains.ensures.counted nodes order (subst (ArePlans nodes order) (sym c.deref-2.ensures.value) planned) in
    let worths = c.include_plans-size.ensures.counted nodes _ (subst (AllZip (IsPlanned nodes) (map (λ u. worth_plan u) (utility_list nodes))) (sym c.deref-3.ensures.value) worthy) in
    size_of_all nodes _ _ (include_then nodes _ _ _ c.include_all_goals-gains.result _ (include_then nodes _ _ _ c.include_rows-rows.result _ rows gains) worths)

use Rattle.std.proofs.Common.{◌++◌}
use Rattle.std.proofs.lemmas.List.Elements.{Contains-append_left, Contains-append_right}
use Rattle.size_precheck.specs.Sizes.{run_plans}
use Rattle.rule_solver.proofs.Rooms.{has_room, plan_fits}
use Rattle.rule_solver.proofs.laws.counted_plans_have_room.Goals as goal

pub returns-clause-run : goal.returns-clause-run
returns-clause-run c nodes order size lists sized =
    has_room nodes order size.cells c.descent_is_tested.ensures lists (plan_fits nodes (run_plans nodes order) size c.greedy_orders.ensures.one sized)

pub returns-clause-further : goal.returns-clause-further
returns-clause-further c nodes order further size lists sized =
    let fits = plan_fits nodes (run_plans nodes order ++ further) size c.greedy_orders.ensures.one sized in (
      has_room nodes order size.cells c.descent_is_tested.ensures lists (λ plan m. fits plan (Contains-append_left (run_plans nodes order) further plan m)),
      λ plan m. fits plan (Contains-append_right (run_plans nodes order) further plan m),
    )

use Rattle.weight_scale.proofs.Weighing.{reduced_totals, total_multiple, scaled, is_table}
use Rattle.weight_scale.proofs.scaling.scale_rows.Goals as goal

pub weigh_rows-requires-clause-positive : goal.weigh_rows-requires-clause-positive
weigh_rows-requires-clause-positive c = rw c.deref.ensures.value (reduced_totals c.args.rows.now c.args.states c.requires.states c.requires.whole c.in_ok-reduced.reduced.numbers.items c.in_ok-reduced.reduced.total c.in_ok-reduced.ensures.ok c.in_default-first_zero_row.ensures.none)

pub weigh_rows-requires-clause-multiple : goal.weigh_rows-requires-clause-multiple
weigh_rows-requires-clause-multiple c = rw c.deref.ensures.value (total_multiple c.args.rows.now c.args.states c.requires.states c.requires.whole c.in_ok-reduced.reduced.numbers.items c.in_ok-reduced.reduced.total c.in_ok-reduced.ensures.ok)

pub returns-clause-ok : goal.returns-clause-ok
returns-clause-ok c =
    let weighs = rw c.deref.ensures.value at c.in_ok-weights.ensures in
    scaled c.args.rows.now c.args.states c.requires.states c.requires.whole c.in_ok-reduced.reduced.numbers.items c.in_ok-reduced.reduced.total c.in_ok-reduced.ensures.ok c.in_default.ensures.none c.in_ok-weights.weights.items c.in_ok-reduced.ensures.small weighs

pub returns-clause-table : goal.returns-clause-table
returns-clause-table c =
    let weighs = rw c.deref.ensures.value at c.in_ok-weights.ensures in
    is_table c.args.rows.now c.args.states c.requires.states c.requires.whole _ (scaled c.args.rows.now c.args.states c.requires.states c.requires.whole c.in_ok-reduced.reduced.numbers.items c.in_ok-reduced.reduced.total c.in_ok-reduced.ensures.ok c.in_default.ensures.none c.in_ok-weights.weights.items c.in_ok-reduced.ensures.small weighs)

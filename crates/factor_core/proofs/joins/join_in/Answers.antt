use Rattle.std.proofs.Common.{List, ◌≡◌, ◌+◌, ◌*◌, length, take, get_or, sym, ap, ◌∙◌, arith}
use Rattle.std.proofs.lemmas.List.{length-take-le, get_or_default}
use Rattle.node_sets.specs.Sets.{holds}
use Rattle.factor_core.specs.declared.walks.Axis.{Axis}
use Rattle.factor_core.specs.Scopes.{united_but}
use Rattle.factor_core.specs.Tables.{listed, states_in, stride_over, axes_of, stride_rows, stride_row, with_extra}
use Rattle.factor_core.proofs.JoinWalk.{axes_in_order, can_begin, joins_with}
use Rattle.factor_core.proofs.Parts.{count_first, read_as, read_changed}
use Rattle.factor_core.proofs.StrideRows.{listed_cong}
use Rattle.factor_core.proofs.joins.join_in.Goals as goal

pub list_nodes-kept-requires-clause-few : goal.list_nodes-kept-requires-clause-few
list_nodes-kept-requires-clause-few g c = c.requires.can.are_counts.few

pub list_nodes-kept-requires-clause-room : goal.list_nodes-kept-requires-clause-room
list_nodes-kept-requires-clause-room g c = c.requires.order

pub summed_place-at-requires-clause-few : goal.summed_place-at-requires-clause-few
summed_place-at-requires-clause-few g c = omega (arith, c.list_nodes-kept.ensures.within)

pub summed_place-at-requires-clause-node : goal.summed_place-at-requires-clause-node
summed_place-at-requires-clause-node g c = omega (arith, c.requires.can.node, c.requires.can.are_counts.few)

pub bounds-order-at : goal.bounds-order-at
bounds-order-at g c = omega (arith, c.if-at-kept.true, c.list_nodes-kept.ensures.within)

pub before-order-requires : goal.before-order-requires
before-order-requires g c = omega (arith, c.list_nodes-kept.ensures.within)

pub set_axes-requires-clause-counts : goal.set_axes-requires-clause-counts
set_axes-requires-clause-counts g c = c.requires.can.are_counts

pub set_axes-requires-clause-kept : goal.set_axes-requires-clause-kept
set_axes-requires-clause-kept g c = c.before-order.ensures ∙ c.list_nodes-kept.ensures.list

pub set_axes-requires-clause-room : goal.set_axes-requires-clause-room
set_axes-requires-clause-room g c = omega (arith, ap length (c.before-order.ensures ∙ c.list_nodes-kept.ensures.list), c.requires.axes)

pub set_axes-requires-clause-fits : goal.set_axes-requires-clause-fits
set_axes-requires-clause-fits g c = omega (arith, c.requires.can.size, c.requires.can.short_out)

pub bounds-counts-node : goal.bounds-counts-node
bounds-counts-node g c = c.requires.can.node

pub insert_axis-requires-clause-room : goal.insert_axis-requires-clause-room
insert_axis-requires-clause-room g c =
    let many = count_first c.list_nodes-kept.result c.list_nodes-kept.new.order (omega (arith, c.list_nodes-kept.ensures.within, c.list_nodes-kept.auto.order)) c.before-order.ensures in
    omega (arith, many, ap length (c.before-order.ensures ∙ c.list_nodes-kept.ensures.list), c.requires.axes, c.set_axes.auto.axes)

pub insert_axis-requires-clause-at : goal.insert_axis-requires-clause-at
insert_axis-requires-clause-at g c = c.summed_place-at.ensures

pub set_strides_with-requires-clause-counts : goal.set_strides_with-requires-clause-counts
set_strides_with-requires-clause-counts g c = c.requires.can.are_counts

pub set_strides_with-requires-clause-node : goal.set_strides_with-requires-clause-node
set_strides_with-requires-clause-node g c = c.requires.can.node

pub set_strides_with-requires-clause-at : goal.set_strides_with-requires-clause-at
set_strides_with-requires-clause-at g c =
    let many = count_first c.list_nodes-kept.result c.list_nodes-kept.new.order (omega (arith, c.list_nodes-kept.ensures.within, c.list_nodes-kept.auto.order)) c.before-order.ensures in
    omega (arith, many, c.summed_place-at.ensures.0)

pub set_strides_with-requires-clause-kept : goal.set_strides_with-requires-clause-kept
set_strides_with-requires-clause-kept g c =
    let n = length c.args.counts.now in
    c.before-order.ensures ∙ c.list_nodes-kept.ensures.list
    ∙ listed_cong (holds c.args.scope.now) (united_but c.args.slots.now c.args.node) n n 0 (omega arith) c.requires.can.is_joined.within

pub set_strides_with-requires-clause-room : goal.set_strides_with-requires-clause-room
set_strides_with-requires-clause-room g c =
    let rows = ap (λ l. (length l + 1) * length c.args.slots.now) (c.before-order.ensures ∙ c.list_nodes-kept.ensures.list) in
    omega (arith, rows, c.requires.strides)

pub set_strides_with-requires-clause-sizes : goal.set_strides_with-requires-clause-sizes
set_strides_with-requires-clause-sizes g c = c.requires.places

pub set_strides_with-requires-clause-fits : goal.set_strides_with-requires-clause-fits
set_strides_with-requires-clause-fits g c = c.requires.can.small

pub set_places-requires : goal.set_places-requires
set_places-requires g c = omega (arith, c.requires.places, c.set_strides_with.auto.sizes)

pub before-axes-requires : goal.before-axes-requires
before-axes-requires g c =
    let many = count_first c.list_nodes-kept.result c.list_nodes-kept.new.order (omega (arith, c.list_nodes-kept.ensures.within, c.list_nodes-kept.auto.order)) c.before-order.ensures in
    omega (arith, many, ap length (c.before-order.ensures ∙ c.list_nodes-kept.ensures.list), c.requires.axes, c.set_axes.auto.axes, c.insert_axis.auto.axes)

pub before-strides-requires : goal.before-strides-requires
before-strides-requires g c =
    let many = count_first c.list_nodes-kept.result c.list_nodes-kept.new.order (omega (arith, c.list_nodes-kept.ensures.within, c.list_nodes-kept.auto.order)) c.before-order.ensures in
    let rows = ap (λ l. (length l + 1) * length c.args.slots.now) (c.before-order.ensures ∙ c.list_nodes-kept.ensures.list) in
    omega (arith, ap (λ k. (k + 1) * length c.args.slots.now) many, rows, c.requires.strides, c.set_strides_with.auto.strides)

pub bounds-counts-node-2 : goal.bounds-counts-node-2
bounds-counts-node-2 g c = c.requires.can.node

pub saturating_mul-joined-requires : goal.saturating_mul-joined-requires
saturating_mul-joined-requires g c = tt

pub slice_bounds-places-end : goal.slice_bounds-places-end
slice_bounds-places-end g c = omega (arith, c.requires.places, c.set_strides_with.auto.sizes, c.set_places.auto.places)

pub slice_bounds-places-end-2 : goal.slice_bounds-places-end-2
slice_bounds-places-end-2 g c = sym (length-take-le (length c.args.slots.now) c.set_places.new.places (omega (arith, c.requires.places, c.set_strides_with.auto.sizes, c.set_places.auto.places)))

pub walk_over-requires-clause-narrow : goal.walk_over-requires-clause-narrow
walk_over-requires-clause-narrow g c = c.find_narrow-narrow.ensures

pub walk_over-requires-clause-can : goal.walk_over-requires-clause-can
walk_over-requires-clause-can g c =
    let m = g.met.C.Cell in
    let counts = c.args.counts.now in
    let slots = c.args.slots.now in
    let at = c.summed_place-at.result in
    let is = c.before-order.ensures ∙ c.list_nodes-kept.ensures.list in
    let many : length c.before-order.result.now ≡ c.list_nodes-kept.result = count_first c.list_nodes-kept.result c.list_nodes-kept.new.order (omega (arith, c.list_nodes-kept.ensures.within)) c.before-order.ensures in
    let nodes = listed (holds c.args.scope.now) 0 (length counts) in
    let extra : List Axis → List Axis = with_extra at (record { states = get_or counts c.args.node 0; out = 0 }) in
    let read = read_changed extra (λ k. take k c.set_axes.new.axes) (axes_of (states_in counts) (stride_over counts c.args.scope.now)) c.list_nodes-kept.result c.before-order.result.now nodes many is c.before-axes.ensures c.insert_axis.ensures c.set_axes.ensures in
    let axes = axes_in_order m.laws m.sizes c.requires.can c.summed_place-at.result c.before-axes.result.now (get_or counts c.args.node 0) (get_or_default counts c.args.node 0 1 c.requires.can.node) read in
    let strides = read_as (λ k. take ((k + 1) * length slots) c.set_strides_with.new.strides) (λ l. stride_rows (stride_row counts slots) (with_extra at c.args.node l)) c.list_nodes-kept.result c.before-order.result.now nodes many is c.before-strides.ensures c.set_strides_with.ensures in
    can_begin m.laws m.sizes c.requires.can c.summed_place-at.result axes strides c.set_places.ensures

pub returns : goal.returns
returns g c =
    let m = g.met.C.Cell in
    let counts = c.args.counts.now in
    let slots = c.args.slots.now in
    let at = c.summed_place-at.result in
    let is = c.before-order.ensures ∙ c.list_nodes-kept.ensures.list in
    let many : length c.before-order.result.now ≡ c.list_nodes-kept.result = count_first c.list_nodes-kept.result c.list_nodes-kept.new.order (omega (arith, c.list_nodes-kept.ensures.within)) c.before-order.ensures in
    let nodes = listed (holds c.args.scope.now) 0 (length counts) in
    let extra : List Axis → List Axis = with_extra at (record { states = get_or counts c.args.node 0; out = 0 }) in
    let read = read_changed extra (λ k. take k c.set_axes.new.axes) (axes_of (states_in counts) (stride_over counts c.args.scope.now)) c.list_nodes-kept.result c.before-order.result.now nodes many is c.before-axes.ensures c.insert_axis.ensures c.set_axes.ensures in
    let axes = axes_in_order m.laws m.sizes c.requires.can c.summed_place-at.result c.before-axes.result.now (get_or counts c.args.node 0) (get_or_default counts c.args.node 0 1 c.requires.can.node) read in
    let strides = read_as (λ k. take ((k + 1) * length slots) c.set_strides_with.new.strides) (λ l. stride_rows (stride_row counts slots) (with_extra at c.args.node l)) c.list_nodes-kept.result c.before-order.result.now nodes many is c.before-strides.ensures c.set_strides_with.ensures in
    joins_with m.laws m.sizes c.requires.can c.summed_place-at.result axes strides c.set_places.ensures c.walk_over.ensures

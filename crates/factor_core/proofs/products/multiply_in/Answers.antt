use Rattle.std.proofs.Common.{◌≡◌, ◌+◌, ◌*◌, length, take, sym, ap, ◌∙◌, arith}
use Rattle.std.proofs.lemmas.List.{length-take-le}
use Rattle.node_sets.specs.Sets.{holds}
use Rattle.factor_core.specs.Scopes.{united}
use Rattle.factor_core.specs.Tables.{listed, states_in, stride_over, axes_of, stride_rows, stride_row}
use Rattle.factor_core.proofs.ProductWalk.{can_begin, multiplies_with}
use Rattle.factor_core.proofs.Parts.{count_first, read_as}
use Rattle.factor_core.proofs.StrideRows.{listed_cong}
use Rattle.factor_core.proofs.products.multiply_in.Goals as goal

pub list_nodes-n-requires-clause-few : goal.list_nodes-n-requires-clause-few
list_nodes-n-requires-clause-few g c = c.requires.can.are_counts.few

pub list_nodes-n-requires-clause-room : goal.list_nodes-n-requires-clause-room
list_nodes-n-requires-clause-room g c = c.requires.order

pub before-order-requires : goal.before-order-requires
before-order-requires g c = omega (arith, c.list_nodes-n.ensures.within, c.list_nodes-n.auto.order)

pub set_axes-requires-clause-counts : goal.set_axes-requires-clause-counts
set_axes-requires-clause-counts g c = c.requires.can.are_counts

pub set_axes-requires-clause-kept : goal.set_axes-requires-clause-kept
set_axes-requires-clause-kept g c = c.before-order.ensures ∙ c.list_nodes-n.ensures.list

pub set_axes-requires-clause-room : goal.set_axes-requires-clause-room
set_axes-requires-clause-room g c = omega (arith, ap length (c.before-order.ensures ∙ c.list_nodes-n.ensures.list), c.requires.axes)

pub set_axes-requires-clause-fits : goal.set_axes-requires-clause-fits
set_axes-requires-clause-fits g c = omega (arith, c.requires.can.size, c.requires.can.short_out)

pub set_strides-requires-clause-counts : goal.set_strides-requires-clause-counts
set_strides-requires-clause-counts g c = c.requires.can.are_counts

pub set_strides-requires-clause-kept : goal.set_strides-requires-clause-kept
set_strides-requires-clause-kept g c =
    let n = length c.args.counts.now in
    c.before-order.ensures ∙ c.list_nodes-n.ensures.list
    ∙ listed_cong (holds c.args.scope.now) (united c.args.slots.now) n n 0 (omega arith) c.requires.can.is_union.within

pub set_strides-requires-clause-room : goal.set_strides-requires-clause-room
set_strides-requires-clause-room g c =
    let rows = ap (λ l. (length l + 1) * length c.args.slots.now) (c.before-order.ensures ∙ c.list_nodes-n.ensures.list) in
    omega (arith, rows, c.requires.strides)

pub set_strides-requires-clause-sizes : goal.set_strides-requires-clause-sizes
set_strides-requires-clause-sizes g c = c.requires.places

pub set_strides-requires-clause-fits : goal.set_strides-requires-clause-fits
set_strides-requires-clause-fits g c = c.requires.can.small

pub set_places-requires : goal.set_places-requires
set_places-requires g c = omega (arith, c.requires.places, c.set_strides.auto.sizes)

pub before-axes-requires : goal.before-axes-requires
before-axes-requires g c =
    let many = count_first c.list_nodes-n.result c.list_nodes-n.new.order (omega (arith, c.list_nodes-n.ensures.within, c.list_nodes-n.auto.order)) c.before-order.ensures in
    omega (arith, many, ap length (c.before-order.ensures ∙ c.list_nodes-n.ensures.list), c.requires.axes, c.set_axes.auto.axes)

pub before-strides-requires : goal.before-strides-requires
before-strides-requires g c =
    let many = count_first c.list_nodes-n.result c.list_nodes-n.new.order (omega (arith, c.list_nodes-n.ensures.within, c.list_nodes-n.auto.order)) c.before-order.ensures in
    let rows = ap (λ l. (length l + 1) * length c.args.slots.now) (c.before-order.ensures ∙ c.list_nodes-n.ensures.list) in
    omega (arith, ap (λ k. (k + 1) * length c.args.slots.now) many, rows, c.requires.strides, c.set_strides.auto.strides)

pub slice_bounds-places-end : goal.slice_bounds-places-end
slice_bounds-places-end g c = omega (arith, c.requires.places, c.set_strides.auto.sizes, c.set_places.auto.places)

pub slice_bounds-places-end-2 : goal.slice_bounds-places-end-2
slice_bounds-places-end-2 g c = sym (length-take-le (length c.args.slots.now) c.set_places.new.places (omega (arith, c.requires.places, c.set_strides.auto.sizes, c.set_places.auto.places)))

pub walk_over-requires-clause-can : goal.walk_over-requires-clause-can
walk_over-requires-clause-can g c =
    let m = g.met.C.Cell in
    let counts = c.args.counts.now in
    let slots = c.args.slots.now in
    let is = c.before-order.ensures ∙ c.list_nodes-n.ensures.list in
    let many : length c.before-order.result.now ≡ c.list_nodes-n.result = count_first c.list_nodes-n.result c.list_nodes-n.new.order (omega (arith, c.list_nodes-n.ensures.within, c.list_nodes-n.auto.order)) c.before-order.ensures in
    let nodes = listed (holds c.args.scope.now) 0 (length counts) in
    let axes = read_as (λ k. take k c.set_axes.new.axes) (axes_of (states_in counts) (stride_over counts c.args.scope.now)) c.list_nodes-n.result c.before-order.result.now nodes many is c.before-axes.ensures c.set_axes.ensures in
    let strides = read_as (λ k. take (k * length slots) c.set_strides.new.strides) (stride_rows (stride_row counts slots)) c.list_nodes-n.result c.before-order.result.now nodes many is c.before-strides.ensures c.set_strides.ensures in
    can_begin m.laws m.sizes c.requires.can axes strides c.set_places.ensures

pub returns : goal.returns
returns g c =
    let m = g.met.C.Cell in
    let counts = c.args.counts.now in
    let slots = c.args.slots.now in
    let is = c.before-order.ensures ∙ c.list_nodes-n.ensures.list in
    let many : length c.before-order.result.now ≡ c.list_nodes-n.result = count_first c.list_nodes-n.result c.list_nodes-n.new.order (omega (arith, c.list_nodes-n.ensures.within, c.list_nodes-n.auto.order)) c.before-order.ensures in
    let nodes = listed (holds c.args.scope.now) 0 (length counts) in
    let axes = read_as (λ k. take k c.set_axes.new.axes) (axes_of (states_in counts) (stride_over counts c.args.scope.now)) c.list_nodes-n.result c.before-order.result.now nodes many is c.before-axes.ensures c.set_axes.ensures in
    let strides = read_as (λ k. take (k * length slots) c.set_strides.new.strides) (stride_rows (stride_row counts slots)) c.list_nodes-n.result c.before-order.result.now nodes many is c.before-strides.ensures c.set_strides.ensures in
    multiplies_with m.laws m.sizes c.requires.can axes strides c.set_places.ensures c.walk_over.ensures

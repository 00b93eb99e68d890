-- The product has a cell for each choice of states of the slots' nodes, and cells are written as
-- far as that.
use Rattle.std.proofs.Common.{◌∙◌, ◌+◌, All, take, subst, sym, ap, arith}
use Rattle.node_sets.specs.Sets.{holds}
use Rattle.factor_core.specs.Slots.{space, IsLiveSlot, AppendsTable, ProductOfFits, product_of_slots}
use Rattle.factor_core.specs.Tables.{AreCounts, size_of}
use Rattle.factor_core.proofs.Behind.{product_size}
use Rattle.factor_core.proofs.Counts.{are_counts}
use Rattle.factor_core.proofs.Spaces.{used_cells, as_appended}
use Rattle.factor_core.proofs.workspaces.Workspace.product.Goals as goal

pub lay_out-slot-requires-clause-counts : goal.lay_out-slot-requires-clause-counts
lay_out-slot-requires-clause-counts g c = subst AreCounts (sym c.state_counts-counts.ensures.counts) (are_counts c.args.diagram.now c.state_counts-counts.ensures.diagram)

pub lay_out-slot-requires-clause-fits : goal.lay_out-slot-requires-clause-fits
lay_out-slot-requires-clause-fits g c =
    let size = product_size g.met.C.Cell.laws g.met.C.Cell.sizes c.args.diagram.now.nodes c.state_counts-counts.result.now c.state_counts-counts.ensures.counts c.args.self.now.cells c.args.slots.now c.united_scope.result c.united_scope.ensures in
    omega (arith, size, c.requires.room, ap (λ v. v.spare) c.self.view_is, c.self.invariant.2)

pub lay_out-slot-requires-clause-room : goal.lay_out-slot-requires-clause-room
lay_out-slot-requires-clause-room g c =
    let size = product_size g.met.C.Cell.laws g.met.C.Cell.sizes c.args.diagram.now.nodes c.state_counts-counts.result.now c.state_counts-counts.ensures.counts c.args.self.now.cells c.args.slots.now c.united_scope.result c.united_scope.ensures in
    omega (arith, size, c.requires.room, ap (λ v. v.spare) c.self.view_is, c.self.invariant.0, c.self.invariant.1, c.self.invariant.3)

pub product_behind-requires-clause-diagram : goal.product_behind-requires-clause-diagram
product_behind-requires-clause-diagram g c = c.state_counts-counts.ensures.diagram

pub product_behind-requires-clause-counts : goal.product_behind-requires-clause-counts
product_behind-requires-clause-counts g c = c.state_counts-counts.ensures.counts

pub product_behind-requires-clause-few : goal.product_behind-requires-clause-few
product_behind-requires-clause-few g c = c.requires.few

pub product_behind-requires-clause-size : goal.product_behind-requires-clause-size
product_behind-requires-clause-size g c = c.lay_out-slot.ensures.slot.size

pub product_behind-requires-clause-live : goal.product_behind-requires-clause-live
product_behind-requires-clause-live g c =
    let is = ap (λ n. take n c.as_mut_slice.result.now) c.lay_out-slot.ensures.slot.start ∙ used_cells c.args.self.now c.self.inside.cells.items c.lay_out-slot.new.cells.items c.as_mut_slice.result.now c.self.inside.used c.self.inside.room c.self.view_is (c.lay_out-slot.ensures.blank.first c.self.inside.used c.self.invariant.0) c.as_mut_slice.ensures.value in
    subst (λ cs. All (IsLiveSlot c.args.diagram.now.nodes cs) c.args.slots.now) (sym is) c.requires.live

pub product_behind-requires-clause-fits : goal.product_behind-requires-clause-fits
product_behind-requires-clause-fits g c =
    let is = ap (λ n. take n c.as_mut_slice.result.now) c.lay_out-slot.ensures.slot.start ∙ used_cells c.args.self.now c.self.inside.cells.items c.lay_out-slot.new.cells.items c.as_mut_slice.result.now c.self.inside.used c.self.inside.room c.self.view_is (c.lay_out-slot.ensures.blank.first c.self.inside.used c.self.invariant.0) c.as_mut_slice.ensures.value in
    subst (λ cs. ProductOfFits g.C.Cell.ring c.args.diagram.now.nodes c.args.slots.now (record { cells = cs; spare = 0 })) (sym is) c.requires.fits

pub product_behind-requires-clause-short : goal.product_behind-requires-clause-short
product_behind-requires-clause-short g c =
    let size = product_size g.met.C.Cell.laws g.met.C.Cell.sizes c.args.diagram.now.nodes c.state_counts-counts.result.now c.state_counts-counts.ensures.counts c.args.self.now.cells c.args.slots.now c.united_scope.result c.united_scope.ensures in
    let far = c.lay_out-slot.ensures.blank.no_further c.self.inside.room c.self.invariant.1 (omega (arith, size, c.lay_out-slot.ensures.slot.size, ap (size_of c.state_counts-counts.result.now) c.lay_out-slot.ensures.slot.scope, c.requires.room, ap (λ v. v.spare) c.self.view_is, c.self.invariant.0, c.self.invariant.1)) in
    omega (arith, c.self.invariant.2, far, c.as_mut_slice.ensures.len)

pub product_behind-requires-clause-scope : goal.product_behind-requires-clause-scope
product_behind-requires-clause-scope g c = λ v. ap (λ s. holds s v) c.lay_out-slot.ensures.slot.scope ∙ c.united_scope.ensures v

pub product_behind-requires-clause-within : goal.product_behind-requires-clause-within
product_behind-requires-clause-within g c = omega (arith, c.lay_out-slot.ensures.slot.start, c.lay_out-slot.ensures.blank.far, c.as_mut_slice.ensures.len)

pub overflow_add-self : goal.overflow_add-self
overflow_add-self g c = omega (arith, c.lay_out-slot.ensures.blank.far, c.as_mut_slice.ensures.len, c.as_mut_slice.type_inv.0)

pub invariant_of-self : goal.invariant_of-self
invariant_of-self g c =
    let size = product_size g.met.C.Cell.laws g.met.C.Cell.sizes c.args.diagram.now.nodes c.state_counts-counts.result.now c.state_counts-counts.ensures.counts c.args.self.now.cells c.args.slots.now c.united_scope.result c.united_scope.ensures in (
      omega (arith, c.lay_out-slot.ensures.blank.far),
      c.lay_out-slot.ensures.blank.no_further c.self.inside.room c.self.invariant.1 (omega (arith, size, c.lay_out-slot.ensures.slot.size, ap (size_of c.state_counts-counts.result.now) c.lay_out-slot.ensures.slot.scope, c.requires.room, ap (λ v. v.spare) c.self.view_is, c.self.invariant.0, c.self.invariant.1)),
      c.self.invariant.2,
      omega (arith, c.self.invariant.3, c.lay_out-slot.ensures.blank.capacity),
    )

pub returns : goal.returns
returns g c =
    let nodes = c.args.diagram.now.nodes in
    let size = product_size g.met.C.Cell.laws g.met.C.Cell.sizes c.args.diagram.now.nodes c.state_counts-counts.result.now c.state_counts-counts.ensures.counts c.args.self.now.cells c.args.slots.now c.united_scope.result c.united_scope.ensures in
    let slot = c.lay_out-slot.result in
    let all = c.as_mut_slice.result.now in
    let new = c.product_behind.new.all in
    let made = subst (λ n. AppendsTable g.C.Cell.ring nodes (space all n) (space new (n + slot.len)) slot (product_of_slots g.C.Cell.ring nodes (take n all) c.args.slots.now)) c.lay_out-slot.ensures.slot.start c.product_behind.ensures in
    as_appended g.C.Cell.ring nodes (λ cs. product_of_slots g.C.Cell.ring nodes cs c.args.slots.now) c.args.self.now c.self.inside.cells.items all new c.lay_out-slot.new.cells c.self.inside.used c.self.inside.room slot c.self.view_is
    (used_cells c.args.self.now c.self.inside.cells.items c.lay_out-slot.new.cells.items c.as_mut_slice.result.now c.self.inside.used c.self.inside.room c.self.view_is (c.lay_out-slot.ensures.blank.first c.self.inside.used c.self.invariant.0) c.as_mut_slice.ensures.value)
    (c.product_behind.auto.all ∙ c.as_mut_slice.ensures.len)
    (omega (arith, size, c.lay_out-slot.ensures.slot.size, ap (size_of c.state_counts-counts.result.now) c.lay_out-slot.ensures.slot.scope, c.requires.room, ap (λ v. v.spare) c.self.view_is, c.self.invariant.0, c.self.invariant.1)) made

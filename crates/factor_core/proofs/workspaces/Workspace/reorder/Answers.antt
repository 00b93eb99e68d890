-- The strip is as long as the slot, and so cells are written as far as that.
use Rattle.std.proofs.Common.{◌∙◌, ◌+◌, take, subst, sym, ap, arith}
use Rattle.factor_core.specs.Slots.{IsLiveSlot, HasCells, AllStayLive, part, table_of}
use Rattle.factor_core.proofs.Spaces.{used_cells, cells_after, as_appends}
use Rattle.factor_core.proofs.workspaces.Workspace.reorder.Goals as goal

pub overflow_add-self-inside : goal.overflow_add-self-inside
overflow_add-self-inside g c = omega (arith, c.requires.room, ap (λ v. v.spare) c.self.view_is, c.self.invariant.0, c.self.invariant.1, c.self.invariant.2)

pub blank-requires : goal.blank-requires
blank-requires g c = omega (arith, c.requires.room, ap (λ v. v.spare) c.self.view_is, c.self.invariant.0, c.self.invariant.1, c.self.invariant.3)

pub reorder_behind-strip-requires-clause-used : goal.reorder_behind-strip-requires-clause-used
reorder_behind-strip-requires-clause-used g c = omega (arith, c.blank.ensures.far, c.as_mut_slice.ensures.len)

pub reorder_behind-strip-requires-clause-short : goal.reorder_behind-strip-requires-clause-short
reorder_behind-strip-requires-clause-short g c =
    let far = c.blank.ensures.no_further c.self.inside.room c.self.invariant.1 (omega (arith, c.requires.room, ap (λ v. v.spare) c.self.view_is, c.self.invariant.0, c.self.invariant.1)) in
    omega (arith, c.self.invariant.2, far, c.as_mut_slice.ensures.len)

pub reorder_behind-strip-requires-clause-once : goal.reorder_behind-strip-requires-clause-once
reorder_behind-strip-requires-clause-once g c = c.requires.once

pub reorder_behind-strip-requires-clause-scope : goal.reorder_behind-strip-requires-clause-scope
reorder_behind-strip-requires-clause-scope g c = c.requires.scope

pub reorder_behind-strip-requires-clause-live : goal.reorder_behind-strip-requires-clause-live
reorder_behind-strip-requires-clause-live g c =
    let is = used_cells c.args.self.now c.self.inside.cells.items c.blank.new.cells.items c.as_mut_slice.result.now c.self.inside.used c.self.inside.room c.self.view_is (c.blank.ensures.first c.self.inside.used c.self.invariant.0) c.as_mut_slice.ensures.value in
    subst (λ cs. IsLiveSlot c.args.diagram.now.nodes cs c.args.slot.now) (sym is) c.requires.live

pub reorder_behind-strip-requires-clause-room : goal.reorder_behind-strip-requires-clause-room
reorder_behind-strip-requires-clause-room g c = omega (arith, c.blank.ensures.far, c.as_mut_slice.ensures.len)

pub overflow_add-self : goal.overflow_add-self
overflow_add-self g c = omega (arith, c.reorder_behind-strip.ensures.len, c.reorder_behind-strip.auto.all, c.as_mut_slice.type_inv.0)

pub invariant_of-self : goal.invariant_of-self
invariant_of-self g c = (
  omega (arith, c.reorder_behind-strip.ensures.len, c.reorder_behind-strip.auto.all, c.as_mut_slice.ensures.len),
  c.blank.ensures.no_further c.self.inside.room c.self.invariant.1 (omega (arith, c.requires.room, ap (λ v. v.spare) c.self.view_is, c.self.invariant.0, c.self.invariant.1)),
  c.self.invariant.2,
  omega (arith, c.self.invariant.3, c.blank.ensures.capacity),
)

pub returns-clause-len : goal.returns-clause-len
returns-clause-len g c = c.reorder_behind-strip.ensures.same

pub returns-clause-appends : goal.returns-clause-appends
returns-clause-appends g c =
    let strip = c.reorder_behind-strip.result in
    let is = used_cells c.args.self.now c.self.inside.cells.items c.blank.new.cells.items c.as_mut_slice.result.now c.self.inside.used c.self.inside.room c.self.view_is (c.blank.ensures.first c.self.inside.used c.self.invariant.0) c.as_mut_slice.ensures.value in
    as_appends c.args.self.now c.self.inside.cells.items c.as_mut_slice.result.now c.reorder_behind-strip.new.all c.blank.new.cells c.self.inside.used strip.len c.self.inside.room c.self.view_is is (c.reorder_behind-strip.auto.all ∙ c.as_mut_slice.ensures.len)
    (omega (arith, c.reorder_behind-strip.ensures.same, c.requires.room, ap (λ v. v.spare) c.self.view_is, c.self.invariant.0, c.self.invariant.1)) strip.start c.reorder_behind-strip.ensures.moves.appends

pub returns-clause-cells : goal.returns-clause-cells
returns-clause-cells g c =
    let d = c.args.diagram.now in
    let r = g.C.Cell.ring in
    let strip = c.reorder_behind-strip.result in
    let all = c.reorder_behind-strip.new.all in
    let is = used_cells c.args.self.now c.self.inside.cells.items c.blank.new.cells.items c.as_mut_slice.result.now c.self.inside.used c.self.inside.room c.self.view_is (c.blank.ensures.first c.self.inside.used c.self.invariant.0) c.as_mut_slice.ensures.value in
    let now = cells_after c.args.self.now c.self.inside.cells.items c.as_mut_slice.result.now all c.blank.new.cells c.self.inside.used strip.len c.self.inside.room c.self.view_is is (c.reorder_behind-strip.auto.all ∙ c.as_mut_slice.ensures.len)
    (omega (arith, c.reorder_behind-strip.ensures.same, c.requires.room, ap (λ v. v.spare) c.self.view_is, c.self.invariant.0, c.self.invariant.1)) in
    subst (λ cs. HasCells r d.nodes c.args.nodes.now (part cs strip.start strip.len) (table_of r d.nodes c.args.self.now.cells c.args.slot.now)) (sym now)
    (subst (λ cs. HasCells r d.nodes c.args.nodes.now (part (take (c.self.inside.used + strip.len) all) strip.start strip.len) (table_of r d.nodes cs c.args.slot.now)) is c.reorder_behind-strip.ensures.moves.cells)

pub returns-clause-stays : goal.returns-clause-stays
returns-clause-stays g c =
    let nodes = c.args.diagram.now.nodes in
    let r = g.C.Cell.ring in
    let strip = c.reorder_behind-strip.result in
    let all = c.reorder_behind-strip.new.all in
    let is = used_cells c.args.self.now c.self.inside.cells.items c.blank.new.cells.items c.as_mut_slice.result.now c.self.inside.used c.self.inside.room c.self.view_is (c.blank.ensures.first c.self.inside.used c.self.invariant.0) c.as_mut_slice.ensures.value in
    let now = cells_after c.args.self.now c.self.inside.cells.items c.as_mut_slice.result.now all c.blank.new.cells c.self.inside.used strip.len c.self.inside.room c.self.view_is is (c.reorder_behind-strip.auto.all ∙ c.as_mut_slice.ensures.len)
    (omega (arith, c.reorder_behind-strip.ensures.same, c.requires.room, ap (λ v. v.spare) c.self.view_is, c.self.invariant.0, c.self.invariant.1)) in
    subst (λ cs. AllStayLive r nodes c.args.self.now.cells cs) (sym now)
    (subst (λ cs. AllStayLive r nodes cs (take (c.self.inside.used + strip.len) all)) is c.reorder_behind-strip.ensures.moves.stays)

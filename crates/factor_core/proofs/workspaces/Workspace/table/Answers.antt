-- The node's numbers tell how long the table is, and so how far cells must be written.
use Rattle.std.proofs.Common.{◌∙◌, ap, arith}
use Rattle.std.proofs.Math.Path.{fun_ext}
use Rattle.factor_core.specs.Operations.{cells_of, first_table}
use Rattle.factor_core.specs.Slots.{cells_over}
use Rattle.factor_core.proofs.FirstTables.{first_room}
use Rattle.factor_core.proofs.Spaces.{used_cells, as_appended}
use Rattle.factor_core.proofs.workspaces.Workspace.table.Goals as goal

pub first_size-requires-clause-node : goal.first_size-requires-clause-node
first_size-requires-clause-node g c = c.requires.node

pub first_size-requires-clause-profile : goal.first_size-requires-clause-profile
first_size-requires-clause-profile g c = c.requires.profile

pub overflow_add-self-inside : goal.overflow_add-self-inside
overflow_add-self-inside g c =
    let size = first_room c.args.diagram.now c.state_counts-counts.ensures.diagram c.args.node c.requires.node (cells_of g.C.Cell) c.args.profile.now in
    omega (arith, size, c.first_size.ensures, c.requires.room, ap (λ v. v.spare) c.self.view_is, c.self.invariant.0, c.self.invariant.1, c.self.invariant.2)

pub blank-requires : goal.blank-requires
blank-requires g c =
    let size = first_room c.args.diagram.now c.state_counts-counts.ensures.diagram c.args.node c.requires.node (cells_of g.C.Cell) c.args.profile.now in
    omega (arith, size, c.first_size.ensures, c.requires.room, ap (λ v. v.spare) c.self.view_is, c.self.invariant.0, c.self.invariant.1, c.self.invariant.3)

pub table_behind-slot-requires-clause-counts : goal.table_behind-slot-requires-clause-counts
table_behind-slot-requires-clause-counts g c = c.state_counts-counts.ensures.counts

pub table_behind-slot-requires-clause-used : goal.table_behind-slot-requires-clause-used
table_behind-slot-requires-clause-used g c = omega (arith, c.blank.ensures.far, c.as_mut_slice.ensures.len)

pub table_behind-slot-requires-clause-short : goal.table_behind-slot-requires-clause-short
table_behind-slot-requires-clause-short g c =
    let size = first_room c.args.diagram.now c.state_counts-counts.ensures.diagram c.args.node c.requires.node (cells_of g.C.Cell) c.args.profile.now in
    let far = c.blank.ensures.no_further c.self.inside.room c.self.invariant.1 (omega (arith, size, c.first_size.ensures, c.requires.room, ap (λ v. v.spare) c.self.view_is, c.self.invariant.0, c.self.invariant.1)) in
    omega (arith, c.self.invariant.2, far, c.as_mut_slice.ensures.len)

pub table_behind-slot-requires-clause-profile : goal.table_behind-slot-requires-clause-profile
table_behind-slot-requires-clause-profile g c = c.requires.profile

pub table_behind-slot-requires-clause-node : goal.table_behind-slot-requires-clause-node
table_behind-slot-requires-clause-node g c = c.requires.node

pub table_behind-slot-requires-clause-fit : goal.table_behind-slot-requires-clause-fit
table_behind-slot-requires-clause-fit g c = c.requires.fit

pub table_behind-slot-requires-clause-room : goal.table_behind-slot-requires-clause-room
table_behind-slot-requires-clause-room g c =
    let size = first_room c.args.diagram.now c.state_counts-counts.ensures.diagram c.args.node c.requires.node (cells_of g.C.Cell) c.args.profile.now in
    omega (arith, size, c.first_size.ensures, c.blank.ensures.far, c.as_mut_slice.ensures.len)

pub overflow_add-self : goal.overflow_add-self
overflow_add-self g c = omega (arith, c.table_behind-slot.ensures.len, c.table_behind-slot.auto.all, c.as_mut_slice.type_inv.0)

pub invariant_of-self : goal.invariant_of-self
invariant_of-self g c =
    let size = first_room c.args.diagram.now c.state_counts-counts.ensures.diagram c.args.node c.requires.node (cells_of g.C.Cell) c.args.profile.now in (
      omega (arith, c.table_behind-slot.ensures.len, c.table_behind-slot.auto.all, c.as_mut_slice.ensures.len),
      c.blank.ensures.no_further c.self.inside.room c.self.invariant.1 (omega (arith, size, c.first_size.ensures, c.requires.room, ap (λ v. v.spare) c.self.view_is, c.self.invariant.0, c.self.invariant.1)),
      c.self.invariant.2,
      omega (arith, c.self.invariant.3, c.blank.ensures.capacity),
    )

pub returns : goal.returns
returns g c =
    let size = first_room c.args.diagram.now c.state_counts-counts.ensures.diagram c.args.node c.requires.node (cells_of g.C.Cell) c.args.profile.now in
    let r = g.C.Cell.ring in
    let nodes = c.args.diagram.now.nodes in
    let t = first_table (cells_of g.C.Cell) nodes c.args.profile.now c.args.node in
    let slot = c.table_behind-slot.result in
    let room = c.self.inside.room in
    let is = used_cells c.args.self.now c.self.inside.cells.items c.blank.new.cells.items c.as_mut_slice.result.now c.self.inside.used c.self.inside.room c.self.view_is (c.blank.ensures.first c.self.inside.used c.self.invariant.0) c.as_mut_slice.ensures.value in
    let long = c.table_behind-slot.ensures.table.live.size ∙ ap (cells_over nodes) (fun_ext c.table_behind-slot.ensures.table.table.holds) in
    as_appended r nodes (λ cs. t) c.args.self.now c.self.inside.cells.items c.as_mut_slice.result.now c.table_behind-slot.new.all c.blank.new.cells c.self.inside.used room slot c.self.view_is is (c.table_behind-slot.auto.all ∙ c.as_mut_slice.ensures.len)
    (omega (arith, long, c.requires.room, ap (λ v. v.spare) c.self.view_is, c.self.invariant.0, c.self.invariant.1)) c.table_behind-slot.ensures.table

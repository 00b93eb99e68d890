-- The table at one state has a cell for each choice of states of the other nodes, and cells are
-- written as far as that.
use Rattle.std.proofs.Common.{◌∙◌, ◌+◌, take, subst, sym, ap, arith}
use Rattle.node_sets.specs.Sets.{holds}
use Rattle.factor_core.specs.Operations.{restricted}
use Rattle.factor_core.specs.Slots.{space, IsLiveSlot, AppendsTable, table_of}
use Rattle.factor_core.specs.Tables.{AreCounts, size_of}
use Rattle.factor_core.proofs.Behind.{size_is_cells}
use Rattle.factor_core.proofs.Counts.{are_counts}
use Rattle.factor_core.proofs.Spaces.{used_cells, as_appended}
use Rattle.factor_core.proofs.workspaces.Workspace.restrict.Goals as goal

pub without-requires : goal.without-requires
without-requires g c = omega (arith, c.requires.live.known c.args.node c.requires.hold, c.state_counts-counts.ensures.diagram.limits.nodes)

pub restrict_behind-requires-clause-hold : goal.restrict_behind-requires-clause-hold
restrict_behind-requires-clause-hold g c = c.requires.hold

pub restrict_behind-requires-clause-state : goal.restrict_behind-requires-clause-state
restrict_behind-requires-clause-state g c = c.requires.state

pub lay_out-rest-requires-clause-counts : goal.lay_out-rest-requires-clause-counts
lay_out-rest-requires-clause-counts g c = subst AreCounts (sym c.state_counts-counts.ensures.counts) (are_counts c.args.diagram.now c.state_counts-counts.ensures.diagram)

pub lay_out-rest-requires-clause-fits : goal.lay_out-rest-requires-clause-fits
lay_out-rest-requires-clause-fits g c =
    let nodes = c.args.diagram.now.nodes in
    let t = restricted c.args.node c.args.state (table_of g.C.Cell.ring nodes c.args.self.now.cells c.args.slot.now) in
    let size = size_is_cells nodes c.state_counts-counts.result.now c.state_counts-counts.ensures.counts c.without.result t.holds c.without.ensures in
    omega (arith, size, c.requires.room, ap (λ v. v.spare) c.self.view_is, c.self.invariant.2)

pub lay_out-rest-requires-clause-room : goal.lay_out-rest-requires-clause-room
lay_out-rest-requires-clause-room g c =
    let nodes = c.args.diagram.now.nodes in
    let t = restricted c.args.node c.args.state (table_of g.C.Cell.ring nodes c.args.self.now.cells c.args.slot.now) in
    let size = size_is_cells nodes c.state_counts-counts.result.now c.state_counts-counts.ensures.counts c.without.result t.holds c.without.ensures in
    omega (arith, size, c.requires.room, ap (λ v. v.spare) c.self.view_is, c.self.invariant.0, c.self.invariant.1, c.self.invariant.3)

pub restrict_behind-requires-clause-size : goal.restrict_behind-requires-clause-size
restrict_behind-requires-clause-size g c = c.lay_out-rest.ensures.slot.size ∙ ap (λ cs. size_of cs c.lay_out-rest.result.scope) c.state_counts-counts.ensures.counts

pub restrict_behind-requires-clause-live : goal.restrict_behind-requires-clause-live
restrict_behind-requires-clause-live g c =
    let is = ap (λ n. take n c.as_mut_slice.result.now) c.lay_out-rest.ensures.slot.start ∙ used_cells c.args.self.now c.self.inside.cells.items c.lay_out-rest.new.cells.items c.as_mut_slice.result.now c.self.inside.used c.self.inside.room c.self.view_is (c.lay_out-rest.ensures.blank.first c.self.inside.used c.self.invariant.0) c.as_mut_slice.ensures.value in
    subst (λ cs. IsLiveSlot c.args.diagram.now.nodes cs c.args.slot.now) (sym is) c.requires.live

pub restrict_behind-requires-clause-short : goal.restrict_behind-requires-clause-short
restrict_behind-requires-clause-short g c =
    let nodes = c.args.diagram.now.nodes in
    let t = restricted c.args.node c.args.state (table_of g.C.Cell.ring nodes c.args.self.now.cells c.args.slot.now) in
    let size = size_is_cells nodes c.state_counts-counts.result.now c.state_counts-counts.ensures.counts c.without.result t.holds c.without.ensures in
    let far = c.lay_out-rest.ensures.blank.no_further c.self.inside.room c.self.invariant.1 (omega (arith, size, c.lay_out-rest.ensures.slot.size, ap (size_of c.state_counts-counts.result.now) c.lay_out-rest.ensures.slot.scope, c.requires.room, ap (λ v. v.spare) c.self.view_is, c.self.invariant.0, c.self.invariant.1)) in
    omega (arith, c.self.invariant.2, far, c.as_mut_slice.ensures.len)

pub restrict_behind-requires-clause-scope : goal.restrict_behind-requires-clause-scope
restrict_behind-requires-clause-scope g c = λ v. ap (λ s. holds s v) c.lay_out-rest.ensures.slot.scope ∙ c.without.ensures v

pub restrict_behind-requires-clause-within : goal.restrict_behind-requires-clause-within
restrict_behind-requires-clause-within g c = omega (arith, c.lay_out-rest.ensures.slot.start, c.lay_out-rest.ensures.blank.far, c.as_mut_slice.ensures.len)

pub overflow_add-self : goal.overflow_add-self
overflow_add-self g c = omega (arith, c.lay_out-rest.ensures.blank.far, c.as_mut_slice.ensures.len, c.as_mut_slice.type_inv.0)

pub invariant_of-self : goal.invariant_of-self
invariant_of-self g c =
    let nodes = c.args.diagram.now.nodes in
    let t = restricted c.args.node c.args.state (table_of g.C.Cell.ring nodes c.args.self.now.cells c.args.slot.now) in
    let size = size_is_cells nodes c.state_counts-counts.result.now c.state_counts-counts.ensures.counts c.without.result t.holds c.without.ensures in (
      omega (arith, c.lay_out-rest.ensures.blank.far),
      c.lay_out-rest.ensures.blank.no_further c.self.inside.room c.self.invariant.1 (omega (arith, size, c.lay_out-rest.ensures.slot.size, ap (size_of c.state_counts-counts.result.now) c.lay_out-rest.ensures.slot.scope, c.requires.room, ap (λ v. v.spare) c.self.view_is, c.self.invariant.0, c.self.invariant.1)),
      c.self.invariant.2,
      omega (arith, c.self.invariant.3, c.lay_out-rest.ensures.blank.capacity),
    )

pub returns : goal.returns
returns g c =
    let nodes = c.args.diagram.now.nodes in
    let t = restricted c.args.node c.args.state (table_of g.C.Cell.ring nodes c.args.self.now.cells c.args.slot.now) in
    let size = size_is_cells nodes c.state_counts-counts.result.now c.state_counts-counts.ensures.counts c.without.result t.holds c.without.ensures in
    let slot = c.lay_out-rest.result in
    let all = c.as_mut_slice.result.now in
    let new = c.restrict_behind.new.all in
    let made = subst (λ n. AppendsTable g.C.Cell.ring nodes (space all n) (space new (n + slot.len)) slot (restricted c.args.node c.args.state (table_of g.C.Cell.ring nodes (take n all) c.args.slot.now))) c.lay_out-rest.ensures.slot.start c.restrict_behind.ensures in
    as_appended g.C.Cell.ring nodes (λ cs. restricted c.args.node c.args.state (table_of g.C.Cell.ring nodes cs c.args.slot.now)) c.args.self.now c.self.inside.cells.items all new c.lay_out-rest.new.cells c.self.inside.used c.self.inside.room slot c.self.view_is
    (used_cells c.args.self.now c.self.inside.cells.items c.lay_out-rest.new.cells.items c.as_mut_slice.result.now c.self.inside.used c.self.inside.room c.self.view_is (c.lay_out-rest.ensures.blank.first c.self.inside.used c.self.invariant.0) c.as_mut_slice.ensures.value)
    (c.restrict_behind.auto.all ∙ c.as_mut_slice.ensures.len)
    (omega (arith, size, c.lay_out-rest.ensures.slot.size, ap (size_of c.state_counts-counts.result.now) c.lay_out-rest.ensures.slot.scope, c.requires.room, ap (λ v. v.spare) c.self.view_is, c.self.invariant.0, c.self.invariant.1)) made

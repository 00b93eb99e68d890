-- The slot is as long as the product's table, and what is written are its cells.
use Rattle.std.proofs.Common.{rules, ◌≡◌, ◌∙◌, ◌+◌, ◌≤◌, length, take, sym, ap, subst, arith}
use Rattle.std.proofs.lemmas.List.{length-take-le}
use Rattle.maid_model.specs.declared.limits.TheConstants.{MOST_PLAN_CELLS}
use Rattle.finite_sums.specs.Sums.{World, InRange}
use Rattle.maid_model.specs.Nodes.{counts_of}
use Rattle.node_sets.specs.Sets.{holds}
use Rattle.cell_rings.specs.Sums.{cell_at}
use Rattle.ring_sums.proofs.Each.{each_of}
use Rattle.factor_core.specs.Operations.{product_table}
use Rattle.factor_core.specs.Slots.{IsLiveSlot, tables_of}
use Rattle.factor_core.specs.Tables.{states_in, size_of, place_of, product_cell}
use Rattle.factor_core.proofs.Behind.{united_known, can_multiply}
use Rattle.factor_core.proofs.Conditions.{product_is, united_is}
use Rattle.factor_core.proofs.Counts.{counts_length, range_is}
use Rattle.factor_core.proofs.Scoping.{not_held}
use Rattle.factor_core.proofs.Standing.{appends_table}
use Rattle.factor_core.proofs.appending.product_behind.Goals as goal

pub multiply_at-requires-clause-scope : goal.multiply_at-requires-clause-scope
multiply_at-requires-clause-scope g c =
    let d = c.args.diagram.now in
    let is : c.args.counts.now ≡ counts_of d.nodes = c.requires.counts in
    let slot = c.args.slot.now in
    let cells = take slot.start c.args.all.now in
    let slots = c.args.slots.now in
    let live = each_of (IsLiveSlot d.nodes cells) slots c.requires.live in
    let n = length c.args.counts.now in
    let long : n ≡ length d.nodes = ap length is ∙ counts_length d.nodes in
    record {
      within = λ v l. c.requires.scope v;
      beyond = not_held (holds slot.scope n)
          (λ t. let known = united_known d.nodes cells slots n live (sym (c.requires.scope n) ∙ t) in omega (arith, known, long));
    }

pub multiply_at-requires-clause-can : goal.multiply_at-requires-clause-can
multiply_at-requires-clause-can g c =
    let d = c.args.diagram.now in
    let is : c.args.counts.now ≡ counts_of d.nodes = c.requires.counts in
    let start = c.args.slot.now.start in
    let cells = take start c.args.all.now in
    let slots = c.args.slots.now in
    let short : length cells ≤ MOST_PLAN_CELLS = omega (arith, length-take-le start c.args.all.now (omega (arith, c.requires.within)), c.requires.within, c.requires.short) in
    can_multiply g.met.C.Cell.laws g.met.C.Cell.sizes d c.requires.diagram c.args.counts.now is cells short slots c.requires.live c.requires.fits

pub returns : goal.returns
returns g c =
    let d = c.args.diagram.now in
    let r = g.C.Cell.ring in
    let m = g.met.C.Cell in
    let is : c.args.counts.now ≡ counts_of d.nodes = c.requires.counts in
    let slot = c.args.slot.now in
    let used = slot.start in
    let cells = take used c.args.all.now in
    let slots = c.args.slots.now in
    let same : length c.multiply_at.new.all ≡ length c.args.all.now = search rules in
    let live = each_of (IsLiveSlot d.nodes cells) slots c.requires.live in
    let written = subst (λ cs. (w : World) → InRange (states_in cs) w → cell_at r c.multiply_at.new.all (used + place_of cs slot.scope w) ≡ product_cell r cells cs slots w) is c.multiply_at.ensures.cells in
    appends_table r d.nodes c.args.all.now c.multiply_at.new.all used slot.len same
    c.requires.within
    c.multiply_at.ensures.kept
    slot.scope (product_table r (tables_of r d.nodes cells slots))
    (c.requires.size ∙ ap (λ cs. size_of cs slot.scope) is)
    (λ v t. united_known d.nodes cells slots v live (sym (c.requires.scope v) ∙ t))
    (λ v. c.requires.scope v ∙ united_is {r = r} m.laws m.sizes d.nodes cells slots v)
    (λ w i. written w (range_is d.nodes w i) ∙ product_is m.laws m.sizes d.nodes cells slots w live i)

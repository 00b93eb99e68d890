-- The slot is as long as the joined table, and what the join writes are its cells.
use Rattle.std.proofs.Common.{rules, ◌≡◌, ◌∙◌, ◌+◌, ◌≤◌, ℕ, Bool, true, false, cond, ◌==◌, List, length, take, sym, ap, subst, arith, inl, inr}
use Rattle.std.proofs.lemmas.List.{length-take-le}
use Rattle.maid_model.specs.declared.limits.TheConstants.{MOST_PLAN_CELLS}
use Rattle.finite_sums.specs.Sums.{World, InRange}
use Rattle.maid_model.specs.Nodes.{states_of, counts_of}
use Rattle.node_sets.specs.Sets.{IsIn}
use Rattle.cell_rings.specs.Sums.{cell_at}
use Rattle.ring_sums.specs.Tables.{sum_out}
use Rattle.ring_sums.proofs.Each.{each_of, yes_or_no}
use Rattle.factor_core.specs.declared.slots.Slot.{Slot}
use Rattle.factor_core.specs.Scopes.{united, united_but}
use Rattle.factor_core.specs.Slots.{IsLiveSlot, tables_of}
use Rattle.factor_core.specs.Tables.{states_in, size_of, place_of, join_cell}
use Rattle.factor_core.proofs.Behind.{node_known, united_known, can_join}
use Rattle.factor_core.proofs.Conditions.{join_is, but_is}
use Rattle.factor_core.proofs.Counts.{range_is}
use Rattle.factor_core.proofs.Standing.{appends_table}
use Rattle.factor_core.proofs.appending.join_behind.Goals as goal

-- a node that no slot holds isn't joined
not_in : (slots : List Slot) (x v : ℕ) → united slots v ≡ false → united_but slots x v ≡ true → ⊥
not_in slots x v f t = go (v == x) (united slots v) f t
  where
    go : (b u : Bool) → u ≡ false → cond b false u ≡ true → ⊥
    go true u f t = let no : false ≡ true = t in cc
    go false u f t = let no : false ≡ true = sym f ∙ t in cc

pub join_at-requires-clause-can : goal.join_at-requires-clause-can
join_at-requires-clause-can g c =
    let d = c.args.diagram.now in
    let is : c.args.counts.now ≡ counts_of d.nodes = c.requires.counts in
    let start = c.args.slot.now.start in
    let cells = take start c.args.all.now in
    let slots = c.args.slots.now in
    let inside = node_known d.nodes cells slots c.args.node c.requires.some (each_of (IsLiveSlot d.nodes cells) slots c.requires.live) (each_of (λ s. IsIn s.scope c.args.node) slots c.requires.hold) in
    let short : length cells ≤ MOST_PLAN_CELLS = omega (arith, length-take-le start c.args.all.now (omega (arith, c.requires.within)), c.requires.within, c.requires.short) in
    can_join g.met.C.Cell.laws g.met.C.Cell.sizes d c.requires.diagram c.args.counts.now is cells short slots c.requires.live c.args.node inside c.requires.fits

pub returns : goal.returns
returns g c =
    let d = c.args.diagram.now in
    let r = g.C.Cell.ring in
    let m = g.met.C.Cell in
    let is : c.args.counts.now ≡ counts_of d.nodes = c.requires.counts in
    let slot = c.args.slot.now in
    let used = slot.start in
    let cells = take used c.args.all.now in
    let slots = c.args.slots.now in
    let x = c.args.node in
    let same : length c.join_at.new.all ≡ length c.args.all.now = search rules in
    let live = each_of (IsLiveSlot d.nodes cells) slots c.requires.live in
    let written = subst (λ cs. (w : World) → InRange (states_in cs) w → cell_at r c.join_at.new.all (used + place_of cs slot.scope w) ≡ join_cell r cells cs slots x w) is c.join_at.ensures.cells in
    appends_table r d.nodes c.args.all.now c.join_at.new.all used slot.len same
    c.requires.within
    c.join_at.ensures.kept
    slot.scope (sum_out r (states_of d.nodes) x (tables_of r d.nodes cells slots))
    (c.requires.size ∙ ap (λ cs. size_of cs slot.scope) is)
    (λ v t. elim (yes_or_no (united slots v)) [
      | inl e ↦ united_known d.nodes cells slots v live e
      | inr f ↦ absurd (not_in slots x v f (sym (c.requires.scope v) ∙ t))
    ])
    (λ v. c.requires.scope v ∙ but_is {r = r} m.laws m.sizes d.nodes cells slots x v)
    (λ w i. written w (range_is d.nodes w i) ∙ join_is m.laws m.sizes d.nodes cells slots x w live i)

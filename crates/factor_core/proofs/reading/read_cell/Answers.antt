-- The place over the counts is the one over the nodes, and it lies in the slot.
use Rattle.std.proofs.Common.{rules, ◌≡◌, ◌∙◌, ◌+◌, ◌^◌, ◌<◌, ℕ, List, take, length, map, get_or, sym, ap, subst, arith}
use Rattle.std.proofs.lemmas.List.{length-take-le, get_or-take, get_or-map, get_or_read}
use Rattle.std.specs.List.{AllZip}
use Rattle.finite_sums.specs.Sums.{World}
use Rattle.maid_model.specs.Views.{NodeView}
use Rattle.maid_model.specs.Nodes.{states_of, counts_of}
use Rattle.maid_model.specs.Tables.{row_from}
use Rattle.node_sets.specs.declared.sets.NodeSet.{NodeSet}
use Rattle.node_sets.specs.Sets.{holds}
use Rattle.cell_rings.specs.Sums.{cell_at}
use Rattle.factor_core.specs.Slots.{nodes_in, part}
use Rattle.factor_core.specs.Tables.{AreCounts, AreScopeStates, GivesStates, states_in, size_of, place_of}
use Rattle.factor_core.proofs.Counts.{are_counts, states_is, nodes_are, place_among}
use Rattle.factor_core.proofs.Standing.{lies_in, part_at}
use Rattle.factor_core.proofs.Zips.{zip_length, zip_at}
use Rattle.factor_core.proofs.reading.read_cell.Goals as goal

are_states : (nodes : List NodeView) (scope : NodeSet) (states : List ℕ) → AllZip (λ v s. s < states_of nodes v) (nodes_in nodes (holds scope)) states → AreScopeStates (counts_of nodes) scope states
are_states nodes scope states h =
    let R = λ (v s : ℕ). s < states_of nodes v in
    record {
      count = zip_length R (nodes_in nodes (holds scope)) states h ∙ ap length (sym (nodes_are nodes (holds scope)));
      within = λ i l.
          subst (λ vs. get_or states i 0 < states_in (counts_of nodes) (get_or vs i 0)) (sym (nodes_are nodes (holds scope)))
          (subst (λ c. get_or states i 0 < c (get_or (nodes_in nodes (holds scope)) i 0)) (sym (states_is nodes)) (zip_at R (nodes_in nodes (holds scope)) states h i 0 0 l));
    }

gives : (nodes : List NodeView) (scope : NodeSet) (w : World) (states : List ℕ) → map w (nodes_in nodes (holds scope)) ≡ states → GivesStates (counts_of nodes) scope w states
gives nodes scope w states e = record {
  state = λ i l.
      subst (λ vs. w (get_or vs i 0) ≡ get_or states i 0) (sym (nodes_are nodes (holds scope)))
      (sym (get_or-map w (nodes_in nodes (holds scope)) i 0 0 (subst (λ vs. i < length vs) (nodes_are nodes (holds scope)) l)) ∙ ap (λ xs. get_or xs i 0) e);
}

pub place_for-requires-clause-counts : goal.place_for-requires-clause-counts
place_for-requires-clause-counts g c =
    let d = c.args.diagram.now in
    let is : c.state_counts-counts.result.now ≡ counts_of d.nodes = c.state_counts-counts.ensures.counts in
    subst AreCounts (sym is) (are_counts d c.state_counts-counts.ensures.diagram)

pub place_for-requires-clause-fits : goal.place_for-requires-clause-fits
place_for-requires-clause-fits g c =
    let d = c.args.diagram.now in
    let is : c.state_counts-counts.result.now ≡ counts_of d.nodes = c.state_counts-counts.ensures.counts in
    let live = lies_in g.C.Cell.ring d.nodes (take c.args.used c.args.all.now) c.args.slot.now c.requires.live in
    let long = length-take-le c.args.used c.args.all.now c.requires.used in
    omega (arith, ap (λ cs. size_of cs c.args.slot.now.scope) is, live.size, live.within, long, c.requires.used, c.requires.short)

pub place_for-requires-clause-states : goal.place_for-requires-clause-states
place_for-requires-clause-states g c =
    let d = c.args.diagram.now in
    let is : c.state_counts-counts.result.now ≡ counts_of d.nodes = c.state_counts-counts.ensures.counts in
    subst (λ cs. AreScopeStates cs c.args.slot.now.scope c.args.states.now) (sym is) (are_states d.nodes c.args.slot.now.scope c.args.states.now c.requires.states)

pub overflow_add-result : goal.overflow_add-result
overflow_add-result g c =
    let d = c.args.diagram.now in
    let is : c.state_counts-counts.result.now ≡ counts_of d.nodes = c.state_counts-counts.ensures.counts in
    let live = lies_in g.C.Cell.ring d.nodes (take c.args.used c.args.all.now) c.args.slot.now c.requires.live in
    let long = length-take-le c.args.used c.args.all.now c.requires.used in
    let small : c.args.slot.now.start + c.place_for.result < 2 ^ 64 = omega (arith, ap (λ cs. size_of cs c.args.slot.now.scope) is, c.place_for.ensures.within, live.size, live.within, long, c.requires.used, c.requires.short) in
    search (rules, small)

pub offset_bounds-all-slot : goal.offset_bounds-all-slot
offset_bounds-all-slot g c =
    let d = c.args.diagram.now in
    let is : c.state_counts-counts.result.now ≡ counts_of d.nodes = c.state_counts-counts.ensures.counts in
    let live = lies_in g.C.Cell.ring d.nodes (take c.args.used c.args.all.now) c.args.slot.now c.requires.live in
    let long = length-take-le c.args.used c.args.all.now c.requires.used in
    omega (arith, ap (λ cs. size_of cs c.args.slot.now.scope) is, c.place_for.ensures.within, live.size, live.within, long, c.requires.used)

pub bounds-all-slot : goal.bounds-all-slot
bounds-all-slot g c =
    let d = c.args.diagram.now in
    let is : c.state_counts-counts.result.now ≡ counts_of d.nodes = c.state_counts-counts.ensures.counts in
    let live = lies_in g.C.Cell.ring d.nodes (take c.args.used c.args.all.now) c.args.slot.now c.requires.live in
    let long = length-take-le c.args.used c.args.all.now c.requires.used in
    omega (arith, ap (λ cs. size_of cs c.args.slot.now.scope) is, c.place_for.ensures.within, live.size, live.within, long, c.requires.used)

pub returns : goal.returns
returns g c = λ w e.
    let d = c.args.diagram.now in
    let r = g.C.Cell.ring in
    let slot = c.args.slot.now in
    let all = c.args.all.now in
    let cells = take c.args.used all in
    let is : c.state_counts-counts.result.now ≡ counts_of d.nodes = c.state_counts-counts.ensures.counts in
    let live = lies_in r d.nodes cells slot c.requires.live in
    let long = length-take-le c.args.used all c.requires.used in
    let below : c.place_for.result < slot.len = omega (arith, ap (λ cs. size_of cs slot.scope) is, c.place_for.ensures.within, live.size) in
    let place : c.place_for.result ≡ row_from (states_of d.nodes) w 0 (nodes_in d.nodes (holds slot.scope)) =
    c.place_for.ensures.place w (subst (λ cs. GivesStates cs slot.scope w c.args.states.now) (sym is) (gives d.nodes slot.scope w c.args.states.now e)) ∙ ap (λ cs. place_of cs slot.scope w) is ∙ place_among d.nodes (holds slot.scope) w in
    let inside : slot.start + c.place_for.result < length all = omega (arith, below, live.within, long, c.requires.used) in
    let read : c.index-all-slot.result ≡ cell_at r all (slot.start + c.place_for.result) = get_or_read all (slot.start + c.place_for.result) c.index-all-slot.result inside c.index-all-slot.is r.nought in
    read
    ∙ sym (get_or-take c.args.used all (slot.start + c.place_for.result) r.nought (omega (arith, below, live.within, long)))
    ∙ sym (part_at r cells slot.start slot.len c.place_for.result below)
    ∙ ap (cell_at r (part cells slot.start slot.len)) place

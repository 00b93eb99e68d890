-- The copy goes over the nodes in the order named, and their strides add up to the place in the
-- slot in any order.
use Rattle.std.proofs.Common.{rules, ◌≡◌, ◌∙◌, ◌+◌, ◌-◌, ◌^◌, ◌<◌, ◌≤◌, ◌++◌, length, take, refl, sym, ap, subst, arith}
use Rattle.std.proofs.lemmas.List.{length-take-le}
use Rattle.finite_sums.specs.Sums.{InRange}
use Rattle.maid_model.specs.Nodes.{states_of, counts_of, rows_under}
use Rattle.maid_model.specs.Tables.{row_from}
use Rattle.node_sets.specs.Sets.{holds}
use Rattle.cell_rings.specs.Sums.{cell_at}
use Rattle.factor_core.specs.Copies.{gathered, count_of_steps, steps_of, CanCopy}
use Rattle.factor_core.specs.Slots.{part}
use Rattle.factor_core.specs.Tables.{AreCounts, LiesIn, listed, states_in, stride_of, size_of, place_of, out_place}
use Rattle.factor_core.proofs.Copying.{count_is, gathered_at, length-gathered, row_below}
use Rattle.factor_core.proofs.Counts.{are_counts, counts_length, states_is, nodes_are, range_is}
use Rattle.factor_core.proofs.Gathering.{stride_small, can_copy, copied_kept, copied_at}
use Rattle.factor_core.proofs.Joining.{place_below, place_along_kept}
use Rattle.factor_core.proofs.Listing.{listed_few}
use Rattle.factor_core.proofs.Reordering.{shuffled_nodes, out_shuffled, rows_shuffled, length_shuffled, once_of, below_of}
use Rattle.factor_core.proofs.Standing.{lies_in, cell_of_slot, appends, stays, cell_written}
use Rattle.factor_core.proofs.reorders.reorder_behind.Goals as goal

pub set_steps-requires-clause-counts : goal.set_steps-requires-clause-counts
set_steps-requires-clause-counts g c =
    let d = c.args.diagram.now in
    let is : c.state_counts-counts.result.now ≡ counts_of d.nodes = c.state_counts-counts.ensures.counts in
    subst AreCounts (sym is) (are_counts d c.state_counts-counts.ensures.diagram)

pub set_steps-requires-clause-order : goal.set_steps-requires-clause-order
set_steps-requires-clause-order g c =
    let d = c.args.diagram.now in
    let is : c.state_counts-counts.result.now ≡ counts_of d.nodes = c.state_counts-counts.ensures.counts in
    below_of (length c.state_counts-counts.result.now) c.args.nodes.now (λ v m. let k = c.requires.live.known v ((c.requires.scope v).0 m) in omega (arith, k, ap length is, counts_length d.nodes))

pub set_steps-requires-clause-room : goal.set_steps-requires-clause-room
set_steps-requires-clause-room g c =
    let d = c.args.diagram.now in
    let h = holds c.args.slot.now.scope in
    let mixed = shuffled_nodes d.nodes h c.args.nodes.now c.requires.once c.requires.scope c.requires.live.known in
    omega (arith, length_shuffled mixed, ap length (nodes_are d.nodes h), listed_few h (length (counts_of d.nodes)), counts_length d.nodes, c.state_counts-counts.ensures.diagram.limits.nodes)

pub set_steps-requires-clause-fits : goal.set_steps-requires-clause-fits
set_steps-requires-clause-fits g c =
    let d = c.args.diagram.now in
    let is : c.state_counts-counts.result.now ≡ counts_of d.nodes = c.state_counts-counts.ensures.counts in
    let live = lies_in g.C.Cell.ring d.nodes (take c.args.used c.args.all.now) c.args.slot.now c.requires.live in
    let long = length-take-le c.args.used c.args.all.now c.requires.used in
    omega (arith, ap (λ cs. size_of cs c.args.slot.now.scope) is, live.size, live.within, long, c.requires.used, c.requires.short)

pub copy_at-requires-clause-can : goal.copy_at-requires-clause-can
copy_at-requires-clause-can g c =
    let d = c.args.diagram.now in
    let r = g.C.Cell.ring in
    let counts = c.state_counts-counts.result.now in
    let is : c.state_counts-counts.result.now ≡ counts_of d.nodes = c.state_counts-counts.ensures.counts in
    let cells = take c.args.used c.args.all.now in
    let slot = c.args.slot.now in
    let vs = c.args.nodes.now in
    let h = holds slot.scope in
    let are = subst AreCounts (sym is) (are_counts d c.state_counts-counts.ensures.diagram) in
    let live = subst (λ cs. LiesIn cs (length cells) slot) (sym is) (lies_in r d.nodes cells slot c.requires.live) in
    let long = length-take-le c.args.used c.args.all.now c.requires.used in
    let small : size_of counts slot.scope ≤ 2 ^ 32 = omega (arith, live.size, live.within, long, c.requires.used, c.requires.short) in
    let stride = stride_of (states_in counts) (length counts) h in
    let mixed = shuffled_nodes d.nodes h vs c.requires.once c.requires.scope c.requires.live.known in
    let listed_is = ap (λ cs. listed h 0 (length cs)) is ∙ nodes_are d.nodes h in
    let rows : count_of_steps (steps_of (states_in counts) stride vs) ≡ slot.len =
    count_is r (states_in counts) stride vs ∙ ap (λ f. rows_under f vs) (ap states_in is ∙ states_is d.nodes) ∙ rows_shuffled (states_of d.nodes) mixed ∙ sym c.requires.live.size in
    subst (λ l. CanCopy (Unit {0}) c.args.used l slot.start (length c.args.all.now - c.args.used) 0) (sym (c.before-2.ensures ∙ c.set_steps.ensures))
    (can_copy (Unit {0}) tt counts are stride (λ v l. stride_small counts are slot.scope v l small) vs
    (below_of (length counts) vs (λ v m. let k = c.requires.live.known v ((c.requires.scope v).0 m) in omega (arith, k, ap length is, counts_length d.nodes)))
    (once_of vs c.requires.once)
    slot.start c.args.used (length c.args.all.now - c.args.used) (omega (arith, c.requires.used, c.requires.short))
    (λ w i.
    let below = place_below (states_in counts) h w i (length counts) 0 in
    let along = out_shuffled stride w mixed ∙ sym (ap (λ l. out_place stride l w) listed_is) ∙ place_along_kept (states_in counts) (length counts) h h w (live.known (length counts) (omega arith)) (λ u l f. f) in
    omega (arith, below, along, live.size, live.within, long))
    (omega (arith, rows, c.requires.room)))

pub returns-clause-moves : goal.returns-clause-moves
returns-clause-moves g c =
    let d = c.args.diagram.now in
    let r = g.C.Cell.ring in
    let counts = c.state_counts-counts.result.now in
    let is : c.state_counts-counts.result.now ≡ counts_of d.nodes = c.state_counts-counts.ensures.counts in
    let used = c.args.used in
    let all = c.args.all.now in
    let new = c.copy_at.new.all in
    let cells = take used all in
    let slot = c.args.slot.now in
    let vs = c.args.nodes.now in
    let h = holds slot.scope in
    let stride = stride_of (states_in counts) (length counts) h in
    let mixed = shuffled_nodes d.nodes h vs c.requires.once c.requires.scope c.requires.live.known in
    let steps = c.before-2.ensures ∙ c.set_steps.ensures in
    let rows : count_of_steps (steps_of (states_in counts) stride vs) ≡ slot.len =
    count_is r (states_in counts) stride vs ∙ ap (λ f. rows_under f vs) (ap states_in is ∙ states_is d.nodes) ∙ rows_shuffled (states_of d.nodes) mixed ∙ sym c.requires.live.size in
    let copied = gathered r cells (steps_of (states_in counts) stride vs) slot.start in
    let long : length copied ≡ slot.len = length-gathered r cells (steps_of (states_in counts) stride vs) slot.start ∙ rows in
    let written : take (used + slot.len) new ≡ cells ++ copied = ap (λ k. take (used + k) new) (sym rows ∙ ap count_of_steps (sym steps)) ∙ c.copy_at.ensures ∙ ap (λ l. cells ++ gathered r cells l slot.start) steps in
    let same : length new ≡ length all = search rules in
    let fits : used + slot.len ≤ length all = omega (arith, c.requires.room, c.requires.used) in
    let kept = copied_kept r all new copied used slot.len c.requires.used long written in
    record {
      appends = appends r d.nodes all new used slot.len same fits kept;
      cells = record {
        cell = λ w i.
            let ok = subst (λ cs. InRange (states_in cs) w) (sym is) (range_is d.nodes w i) in
            let live = subst (λ cs. LiesIn cs (length cells) slot) (sym is) (lies_in r d.nodes cells slot c.requires.live) in
            let counts_are : states_in counts ≡ states_of d.nodes = ap states_in is ∙ states_is d.nodes in
            let row : row_from (states_in counts) w 0 vs ≡ row_from (states_of d.nodes) w 0 vs = ap (λ f. row_from f w 0 vs) counts_are in
            let below : row_from (states_in counts) w 0 vs < slot.len = omega (arith, row_below r (states_in counts) stride vs w ok, count_is r (states_in counts) stride vs, rows) in
            let listed_is = ap (λ cs. listed h 0 (length cs)) is ∙ nodes_are d.nodes h in
            let along = out_shuffled stride w mixed ∙ sym (ap (λ l. out_place stride l w) listed_is) ∙ place_along_kept (states_in counts) (length counts) h h w (live.known (length counts) (omega arith)) (λ u l f. f) in
            ap (cell_at r (part (take (used + slot.len) new) used slot.len)) (sym row)
            ∙ cell_written r d.nodes all new used slot.len same fits kept (row_from (states_in counts) w 0 vs) below
            ∙ copied_at r all new copied used slot.len c.requires.used long written (row_from (states_in counts) w 0 vs) below
            ∙ gathered_at r (states_in counts) stride cells vs slot.start w ok
            ∙ ap (λ k. cell_at r cells (slot.start + k)) along
            ∙ ap (λ cs. cell_at r cells (slot.start + place_of cs slot.scope w)) is
            ∙ cell_of_slot r d.nodes cells slot w c.requires.live i;
      };
      stays = stays r d.nodes all new used slot.len same fits kept;
    }

pub copy_at-requires-clause-start : goal.copy_at-requires-clause-start
copy_at-requires-clause-start g c = c.requires.used

pub returns-clause-len : goal.returns-clause-len
returns-clause-len g c = omega (arith, c.copy_at.auto.all, c.requires.room, c.requires.used)

pub returns-clause-same : goal.returns-clause-same
returns-clause-same g c = refl

pub returns-clause-start : goal.returns-clause-start
returns-clause-start g c = refl

pub state_counts-counts-requires : goal.state_counts-counts-requires
state_counts-counts-requires g c = tt

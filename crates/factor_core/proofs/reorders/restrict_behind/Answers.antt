-- The cells of one state stand along the steps over the other nodes, from the first of them on.
use Rattle.std.proofs.Common.{rules, ◌≡◌, ◌∙◌, ◌+◌, ◌-◌, ◌^◌, ◌<◌, ◌≤◌, Bool, true, false, not, ◌&&◌, ◌==◌, ◌++◌, length, take, refl, sym, ap, subst, arith, All}
use Rattle.std.proofs.lemmas.List.{length-take-le}
use Rattle.finite_sums.specs.Sums.{InRange, with_state}
use Rattle.finite_sums.proofs.Sums.{with_in}
use Rattle.maid_model.specs.Nodes.{states_of, counts_of}
use Rattle.node_sets.specs.Sets.{holds}
use Rattle.cell_rings.specs.Sums.{cell_at}
use Rattle.factor_core.specs.Copies.{gathered, count_of_steps, steps_of, CanCopy}
use Rattle.factor_core.specs.Operations.{restricted}
use Rattle.factor_core.specs.Slots.{table_of}
use Rattle.factor_core.specs.Tables.{AreCounts, LiesIn, listed, states_in, stride_of, size_of, place_of, out_place}
use Rattle.factor_core.proofs.Copying.{count_is, gathered_at, length-gathered}
use Rattle.factor_core.proofs.Counts.{are_counts, counts_length, states_is, size_is, place_is, range_is}
use Rattle.factor_core.proofs.Gathering.{stride_small, can_copy, restrict_place, copied_kept, copied_at}
use Rattle.factor_core.proofs.Joining.{place_below}
use Rattle.factor_core.proofs.Listing.{listed_few}
use Rattle.factor_core.proofs.Ordering.{listed_below, listed_once}
use Rattle.factor_core.proofs.Standing.{lies_in, cell_of_slot, appends_table}
use Rattle.factor_core.proofs.reorders.restrict_behind.Goals as goal

held_too : (a b : Bool) → (a && not b) ≡ true → a ≡ true
held_too true b e = refl
held_too false b e = absurd (let no : false ≡ true = e in cc)

pub list_nodes-n-requires-clause-room : goal.list_nodes-n-requires-clause-room
list_nodes-n-requires-clause-room g c =
    let d = c.args.diagram.now in
    let is : c.state_counts-counts.result.now ≡ counts_of d.nodes = c.state_counts-counts.ensures.counts in
    omega (arith, listed_few (holds c.args.target.now.scope) (length c.state_counts-counts.result.now), ap length is, counts_length d.nodes, c.state_counts-counts.ensures.diagram.limits.nodes)

pub set_steps-requires-clause-counts : goal.set_steps-requires-clause-counts
set_steps-requires-clause-counts g c =
    let d = c.args.diagram.now in
    let is : c.state_counts-counts.result.now ≡ counts_of d.nodes = c.state_counts-counts.ensures.counts in
    subst AreCounts (sym is) (are_counts d c.state_counts-counts.ensures.diagram)

pub set_steps-requires-clause-order : goal.set_steps-requires-clause-order
set_steps-requires-clause-order g c =
    let n = length c.state_counts-counts.result.now in
    subst (All (λ v. v < n)) (sym (c.before-order.ensures ∙ c.list_nodes-n.ensures.list)) (listed_below (holds c.args.target.now.scope) n n 0 (omega arith))

pub set_steps-requires-clause-fits : goal.set_steps-requires-clause-fits
set_steps-requires-clause-fits g c =
    let d = c.args.diagram.now in
    let is : c.state_counts-counts.result.now ≡ counts_of d.nodes = c.state_counts-counts.ensures.counts in
    let live = lies_in g.C.Cell.ring d.nodes (take c.args.target.now.start c.args.all.now) c.args.slot.now c.requires.live in
    let long = length-take-le c.args.target.now.start c.args.all.now (omega (arith, c.requires.within)) in
    omega (arith, ap (λ cs. size_of cs c.args.slot.now.scope) is, live.size, live.within, long, c.requires.within, c.requires.short)

pub first_of_state-from-requires-clause-counts : goal.first_of_state-from-requires-clause-counts
first_of_state-from-requires-clause-counts g c =
    let d = c.args.diagram.now in
    let is : c.state_counts-counts.result.now ≡ counts_of d.nodes = c.state_counts-counts.ensures.counts in
    subst AreCounts (sym is) (are_counts d c.state_counts-counts.ensures.diagram)

pub first_of_state-from-requires-clause-fits : goal.first_of_state-from-requires-clause-fits
first_of_state-from-requires-clause-fits g c =
    let d = c.args.diagram.now in
    let is : c.state_counts-counts.result.now ≡ counts_of d.nodes = c.state_counts-counts.ensures.counts in
    let live = lies_in g.C.Cell.ring d.nodes (take c.args.target.now.start c.args.all.now) c.args.slot.now c.requires.live in
    let long = length-take-le c.args.target.now.start c.args.all.now (omega (arith, c.requires.within)) in
    omega (arith, ap (λ cs. size_of cs c.args.slot.now.scope) is, live.size, live.within, long, c.requires.within, c.requires.short)

pub first_of_state-from-requires-clause-near : goal.first_of_state-from-requires-clause-near
first_of_state-from-requires-clause-near g c =
    let d = c.args.diagram.now in
    let is : c.state_counts-counts.result.now ≡ counts_of d.nodes = c.state_counts-counts.ensures.counts in
    let live = lies_in g.C.Cell.ring d.nodes (take c.args.target.now.start c.args.all.now) c.args.slot.now c.requires.live in
    let long = length-take-le c.args.target.now.start c.args.all.now (omega (arith, c.requires.within)) in
    let known = c.requires.live.known c.args.node c.requires.hold in
    stride_small c.state_counts-counts.result.now (subst AreCounts (sym is) (are_counts d c.state_counts-counts.ensures.diagram)) c.args.slot.now.scope c.args.node
    (omega (arith, known, ap length is, counts_length d.nodes))
    (omega (arith, ap (λ cs. size_of cs c.args.slot.now.scope) is, live.size, live.within, long, c.requires.within, c.requires.short))

pub copy_at-requires-clause-can : goal.copy_at-requires-clause-can
copy_at-requires-clause-can g c =
    let d = c.args.diagram.now in
    let r = g.C.Cell.ring in
    let counts = c.state_counts-counts.result.now in
    let is : c.state_counts-counts.result.now ≡ counts_of d.nodes = c.state_counts-counts.ensures.counts in
    let cells = take c.args.target.now.start c.args.all.now in
    let slot = c.args.slot.now in
    let x = c.args.node in
    let scope = c.args.target.now.scope in
    let order = listed (holds scope) 0 (length counts) in
    let are = subst AreCounts (sym is) (are_counts d c.state_counts-counts.ensures.diagram) in
    let live = subst (λ cs. LiesIn cs (length cells) slot) (sym is) (lies_in r d.nodes cells slot c.requires.live) in
    let long = length-take-le c.args.target.now.start c.args.all.now (omega (arith, c.requires.within)) in
    let small : size_of counts slot.scope ≤ 2 ^ 32 = omega (arith, live.size, live.within, long, c.requires.within, c.requires.short) in
    let inside : x < length counts = let known = c.requires.live.known x c.requires.hold in omega (arith, known, ap length is, counts_length d.nodes) in
    let stride = stride_of (states_in counts) (length counts) (holds slot.scope) in
    let sized : c.args.target.now.len ≡ size_of counts scope = c.requires.size ∙ ap (λ cs. size_of cs scope) (sym is) in
    let ends : c.args.target.now.start + size_of counts scope ≤ length c.args.all.now = omega (arith, sized, c.requires.within) in
    let listed_is : c.before-order.result.now ≡ order = c.before-order.ensures ∙ c.list_nodes-n.ensures.list in
    let len : length c.before-order.result.now ≡ c.list_nodes-n.result = ap length c.before-order.ensures ∙ length-take-le c.list_nodes-n.result c.list_nodes-n.new.order (search rules) in
    let steps : c.before-2.result.now ≡ steps_of (states_in counts) stride order = c.before-2.ensures ∙ ap (λ k. take k c.set_steps.new.steps) (sym len) ∙ c.set_steps.ensures ∙ ap (steps_of (states_in counts) stride) listed_is in
    let state_in : c.args.state < states_in counts x = subst (λ k. c.args.state < k) (ap (λ f. f x) (sym (states_is d.nodes)) ∙ ap (λ cs. states_in cs x) (sym is)) c.requires.state in
    subst (λ l. CanCopy (Unit {0}) c.args.target.now.start l c.first_of_state-from.result (length c.args.all.now - c.args.target.now.start) 0) (sym steps)
    (can_copy (Unit {0}) tt counts are stride (λ v l. stride_small counts are slot.scope v l small) order (listed_below (holds scope) (length counts) (length counts) 0 (omega arith)) (listed_once (holds scope) (length counts) 0)
    c.first_of_state-from.result c.args.target.now.start (length c.args.all.now - c.args.target.now.start) (omega (arith, c.requires.within, c.requires.short))
    (λ w i.
    let place = restrict_place counts (holds slot.scope) (holds scope) x c.args.state inside c.requires.scope w in
    let below = place_below (states_in counts) (holds slot.scope) (with_state w x c.args.state) (with_in (states_in counts) w x c.args.state i state_in) (length counts) 0 in
    omega (arith, c.first_of_state-from.ensures, place, below, live.size, live.within, long))
    (omega (arith, ends, count_is r (states_in counts) stride order, size_is (states_in counts) (holds scope) (length counts) 0)))

pub returns : goal.returns
returns g c =
    let d = c.args.diagram.now in
    let r = g.C.Cell.ring in
    let counts = c.state_counts-counts.result.now in
    let is : c.state_counts-counts.result.now ≡ counts_of d.nodes = c.state_counts-counts.ensures.counts in
    let used = c.args.target.now.start in
    let all = c.args.all.now in
    let cells = take used all in
    let slot = c.args.slot.now in
    let x = c.args.node in
    let scope = c.args.target.now.scope in
    let from = c.first_of_state-from.result in
    let order = listed (holds scope) 0 (length counts) in
    let inside : x < length counts = let known = c.requires.live.known x c.requires.hold in omega (arith, known, ap length is, counts_length d.nodes) in
    let stride = stride_of (states_in counts) (length counts) (holds slot.scope) in
    let t = restricted x c.args.state (table_of r d.nodes cells slot) in
    let sized : c.args.target.now.len ≡ size_of counts scope = c.requires.size ∙ ap (λ cs. size_of cs scope) (sym is) in
    let ends : c.args.target.now.start + size_of counts scope ≤ length c.args.all.now = omega (arith, sized, c.requires.within) in
    let listed_is : c.before-order.result.now ≡ order = c.before-order.ensures ∙ c.list_nodes-n.ensures.list in
    let len : length c.before-order.result.now ≡ c.list_nodes-n.result = ap length c.before-order.ensures ∙ length-take-le c.list_nodes-n.result c.list_nodes-n.new.order (search rules) in
    let steps : c.before-2.result.now ≡ steps_of (states_in counts) stride order = c.before-2.ensures ∙ ap (λ k. take k c.set_steps.new.steps) (sym len) ∙ c.set_steps.ensures ∙ ap (steps_of (states_in counts) stride) listed_is in
    let copied = gathered r cells (steps_of (states_in counts) stride order) from in
    let size : count_of_steps (steps_of (states_in counts) stride order) ≡ size_of counts scope = count_is r (states_in counts) stride order ∙ sym (size_is (states_in counts) (holds scope) (length counts) 0) in
    let long : length copied ≡ c.args.target.now.len = length-gathered r cells (steps_of (states_in counts) stride order) from ∙ size ∙ sym sized in
    let written : take (used + c.args.target.now.len) c.copy_at.new.all ≡ cells ++ copied =
    ap (λ k. take (used + k) c.copy_at.new.all) (sized ∙ sym size ∙ ap count_of_steps (sym steps)) ∙ c.copy_at.ensures ∙ ap (λ l. cells ++ gathered r cells l from) steps in
    let same : length c.copy_at.new.all ≡ length all = search rules in
    appends_table r d.nodes all c.copy_at.new.all used c.args.target.now.len same
    (omega (arith, sized, ends))
    (copied_kept r all c.copy_at.new.all copied used c.args.target.now.len (omega (arith, c.requires.within)) long written)
    scope t
    c.requires.size
    (λ v k. c.requires.live.known v (held_too (holds slot.scope v) (v == x) (sym (c.requires.scope v) ∙ k)))
    c.requires.scope
    (λ w i.
    let ok = subst (λ cs. InRange (states_in cs) w) (sym is) (range_is d.nodes w i) in
    let below = place_below (states_in counts) (holds scope) w ok (length counts) 0 in
    let place = restrict_place counts (holds slot.scope) (holds scope) x c.args.state inside c.requires.scope w in
    let at_slot : from + out_place stride order w ≡ slot.start + place_of counts slot.scope (with_state w x c.args.state) = omega (arith, c.first_of_state-from.ensures, place) in
    ap (λ cs. cell_at r c.copy_at.new.all (used + place_of cs scope w)) (sym is)
    ∙ copied_at r all c.copy_at.new.all copied used c.args.target.now.len (omega (arith, c.requires.within)) long written (place_of counts scope w) (omega (arith, below, sized))
    ∙ ap (cell_at r copied) (place_is (states_in counts) (holds scope) w (length counts) 0)
    ∙ gathered_at r (states_in counts) stride cells order from w ok
    ∙ ap (cell_at r cells) at_slot
    ∙ ap (λ cs. cell_at r cells (slot.start + place_of cs slot.scope (with_state w x c.args.state))) is
    ∙ cell_of_slot r d.nodes cells slot (with_state w x c.args.state) c.requires.live (with_in (states_of d.nodes) w x c.args.state i c.requires.state))

pub first_of_state-from-requires-clause-node : goal.first_of_state-from-requires-clause-node
first_of_state-from-requires-clause-node g c =
    let d = c.args.diagram.now in
    let is : c.state_counts-counts.result.now ≡ counts_of d.nodes = c.state_counts-counts.ensures.counts in
    omega (arith, c.requires.live.known c.args.node c.requires.hold, ap length is, counts_length d.nodes)

pub first_of_state-from-requires-clause-start : goal.first_of_state-from-requires-clause-start
first_of_state-from-requires-clause-start g c =
    let d = c.args.diagram.now in
    let is : c.state_counts-counts.result.now ≡ counts_of d.nodes = c.state_counts-counts.ensures.counts in
    let live = lies_in g.C.Cell.ring d.nodes (take c.args.target.now.start c.args.all.now) c.args.slot.now c.requires.live in
    let long = length-take-le c.args.target.now.start c.args.all.now (omega (arith, c.requires.within)) in
    omega (arith, live.within, long, c.requires.within, c.requires.short)

pub first_of_state-from-requires-clause-state : goal.first_of_state-from-requires-clause-state
first_of_state-from-requires-clause-state g c =
    let d = c.args.diagram.now in
    let is : c.state_counts-counts.result.now ≡ counts_of d.nodes = c.state_counts-counts.ensures.counts in
    let are = subst AreCounts (sym is) (are_counts d c.state_counts-counts.ensures.diagram) in
    let state_in : c.args.state < states_in c.state_counts-counts.result.now c.args.node = subst (λ k. c.args.state < k) (ap (λ f. f c.args.node) (sym (states_is d.nodes)) ∙ ap (λ cs. states_in cs c.args.node) (sym is)) c.requires.state in
    omega (arith, state_in, are.small c.args.node)

pub list_nodes-n-requires-clause-few : goal.list_nodes-n-requires-clause-few
list_nodes-n-requires-clause-few g c =
    let d = c.args.diagram.now in
    let is : c.state_counts-counts.result.now ≡ counts_of d.nodes = c.state_counts-counts.ensures.counts in
    (subst AreCounts (sym is) (are_counts d c.state_counts-counts.ensures.diagram)).few

-- The cells of the source stand along the steps over the nodes in ascending order, with the strides
-- of the list.
use Rattle.std.proofs.Common.{rules, ◌≡◌, ◌∙◌, ◌+◌, ◌-◌, ◌<◌, ◌≤◌, ◌++◌, length, take, sym, ap, subst, arith, All, refl}
use Rattle.std.proofs.Math.Path.{fun_ext}
use Rattle.finite_sums.specs.Sums.{InRange}
use Rattle.maid_model.specs.Nodes.{states_of, counts_of, rows_under}
use Rattle.maid_model.specs.Tables.{row_from}
use Rattle.node_sets.specs.Sets.{holds}
use Rattle.plan_sums.specs.Plans.{has}
use Rattle.cell_rings.specs.Sums.{cell_at}
use Rattle.factor_core.specs.Copies.{gathered, count_of_steps, steps_of, steps_in, CanCopy, list_stride, list_table}
use Rattle.factor_core.specs.Slots.{nodes_in, cells_over}
use Rattle.factor_core.specs.Tables.{AreCounts, listed, states_in, size_of, place_of, out_place}
use Rattle.factor_core.proofs.Behind.{ends_within}
use Rattle.factor_core.proofs.Copying.{count_is, gathered_at, length-gathered, row_below}
use Rattle.factor_core.proofs.Counts.{are_counts, counts_length, states_is, nodes_are, size_is, place_is, range_is}
use Rattle.factor_core.proofs.FirstTables.{list_size}
use Rattle.factor_core.proofs.Gathering.{can_copy, copied_kept, copied_at}
use Rattle.factor_core.proofs.Joining.{place_below}
use Rattle.factor_core.proofs.ListTables.{has_is, stride_le, list_place}
use Rattle.factor_core.proofs.Ordering.{listed_below, listed_once}
use Rattle.factor_core.proofs.Reordering.{shuffled_nodes, length_shuffled, out_shuffled, rows_shuffled, once_of, below_of}
use Rattle.factor_core.proofs.Standing.{appends_table}
use Rattle.factor_core.proofs.tables.write_table.Goals as goal

pub scope_of-scope-requires : goal.scope_of-scope-requires
scope_of-scope-requires g c = λ v m. let k = c.requires.known v m in omega (arith, k, c.requires.diagram.limits.nodes)

pub rows_after-len-requires-clause-counts : goal.rows_after-len-requires-clause-counts
rows_after-len-requires-clause-counts g c =
    let d = c.args.diagram.now in
    let is : c.args.counts.now ≡ counts_of d.nodes = c.requires.counts in
    subst AreCounts (sym is) (are_counts d c.requires.diagram)

pub rows_after-len-requires-clause-list : goal.rows_after-len-requires-clause-list
rows_after-len-requires-clause-list g c =
    let d = c.args.diagram.now in
    let counts = c.args.counts.now in
    let is : c.args.counts.now ≡ counts_of d.nodes = c.requires.counts in
    below_of (length counts) c.args.listed.now.list.now (λ v m. let k = c.requires.known v m in omega (arith, k, ap length is, counts_length d.nodes))

pub rows_after-len-requires-clause-fits : goal.rows_after-len-requires-clause-fits
rows_after-len-requires-clause-fits g c =
    let d = c.args.diagram.now in
    let is : c.args.counts.now ≡ counts_of d.nodes = c.requires.counts in
    omega (arith, ap (λ f. rows_under f c.args.listed.now.list.now) (ap states_in is ∙ states_is d.nodes), c.requires.room, c.requires.short)

pub list_nodes-n-requires-clause-room : goal.list_nodes-n-requires-clause-room
list_nodes-n-requires-clause-room g c =
    let d = c.args.diagram.now in
    let counts = c.args.counts.now in
    let is : c.args.counts.now ≡ counts_of d.nodes = c.requires.counts in
    let list = c.args.listed.now.list.now in
    let mixed = shuffled_nodes d.nodes (has list) list c.requires.once (has_is list) (λ v t. c.requires.known v ((has_is list v).1 t)) in
    let order_is : listed (holds c.scope_of-scope.result) 0 (length counts) ≡ nodes_in d.nodes (has list) = ap (λ h. listed h 0 (length counts)) (fun_ext c.scope_of-scope.ensures) ∙ ap (λ cs. listed (has list) 0 (length cs)) is ∙ nodes_are d.nodes (has list) in
    omega (arith, ap length order_is, length_shuffled mixed, c.requires.few)

pub copy_listed-requires-clause-counts : goal.copy_listed-requires-clause-counts
copy_listed-requires-clause-counts g c =
    let d = c.args.diagram.now in
    let counts = c.args.counts.now in
    let is : c.args.counts.now ≡ counts_of d.nodes = c.requires.counts in
    subst AreCounts (sym is) (are_counts d c.requires.diagram)

pub copy_listed-requires-clause-list : goal.copy_listed-requires-clause-list
copy_listed-requires-clause-list g c =
    let d = c.args.diagram.now in
    let counts = c.args.counts.now in
    let is : c.args.counts.now ≡ counts_of d.nodes = c.requires.counts in
    below_of (length counts) c.args.listed.now.list.now (λ v m. let k = c.requires.known v m in omega (arith, k, ap length is, counts_length d.nodes))

pub copy_listed-requires-clause-order : goal.copy_listed-requires-clause-order
copy_listed-requires-clause-order g c =
    let n = length c.args.counts.now in
    subst (All (λ v. v < n)) (sym (c.before-order.ensures ∙ c.list_nodes-n.ensures.list)) (listed_below (holds c.scope_of-scope.result) n n 0 (omega arith))

pub copy_listed-requires-clause-fits : goal.copy_listed-requires-clause-fits
copy_listed-requires-clause-fits g c =
    let d = c.args.diagram.now in
    let counts = c.args.counts.now in
    let is : c.args.counts.now ≡ counts_of d.nodes = c.requires.counts in
    omega (arith, ap (λ f. rows_under f c.args.listed.now.list.now) (ap states_in is ∙ states_is d.nodes), c.requires.room, c.requires.short)

pub copy_listed-requires-clause-cells : goal.copy_listed-requires-clause-cells
copy_listed-requires-clause-cells g c =
    let d = c.args.diagram.now in
    let is : c.args.counts.now ≡ counts_of d.nodes = c.requires.counts in
    c.requires.cells ∙ sym (ap (λ f. rows_under f c.args.listed.now.list.now) (ap states_in is ∙ states_is d.nodes))

pub copy_listed-requires-clause-room : goal.copy_listed-requires-clause-room
copy_listed-requires-clause-room g c =
    let d = c.args.diagram.now in
    let is : c.args.counts.now ≡ counts_of d.nodes = c.requires.counts in
    omega (arith, ap (λ f. rows_under f c.args.listed.now.list.now) (ap states_in is ∙ states_is d.nodes), c.requires.room)

pub copy_listed-requires-clause-can : goal.copy_listed-requires-clause-can
copy_listed-requires-clause-can g c =
    let d = c.args.diagram.now in
    let counts = c.args.counts.now in
    let is : c.args.counts.now ≡ counts_of d.nodes = c.requires.counts in
    let r = g.C.Cell.ring in
    let list = c.args.listed.now.list.now in
    let scope = c.scope_of-scope.result in
    let count = states_in counts in
    let are = subst AreCounts (sym is) (are_counts d c.requires.diagram) in
    let order = listed (holds scope) 0 (length counts) in
    let stride = list_stride (states_in counts) list in
    let counts_are : states_in counts ≡ states_of d.nodes = ap states_in is ∙ states_is d.nodes in
    let rows_are : rows_under (states_in counts) list ≡ rows_under (states_of d.nodes) list = ap (λ f. rows_under f list) counts_are in
    let mixed = shuffled_nodes d.nodes (has list) list c.requires.once (has_is list) (λ v t. c.requires.known v ((has_is list v).1 t)) in
    let order_is : order ≡ nodes_in d.nodes (has list) = ap (λ h. listed h 0 (length counts)) (fun_ext c.scope_of-scope.ensures) ∙ ap (λ cs. listed (has list) 0 (length cs)) is ∙ nodes_are d.nodes (has list) in
    let listed_is : c.before-order.result.now ≡ order = c.before-order.ensures ∙ c.list_nodes-n.ensures.list in
    let steps : steps_in counts list c.before-order.result.now ≡ steps_of (states_in counts) stride order = ap (steps_of (states_in counts) stride) listed_is in
    let rows : count_of_steps (steps_of (states_in counts) stride order) ≡ rows_under (states_of d.nodes) list =
    count_is r (states_in counts) stride order ∙ ap (rows_under (states_in counts)) order_is ∙ ap (λ f. rows_under f (nodes_in d.nodes (has list))) counts_are ∙ sym (rows_shuffled (states_of d.nodes) mixed) in
    let cells = g.S.Source.cells c.args.listed.now.source.now in
    subst (λ l. CanCopy (g.S.Source.is_fit c.args.listed.now.source.now) (length cells) l 0 (length c.args.all.now - c.args.used) 0) (sym steps)
    (can_copy (g.S.Source.is_fit c.args.listed.now.source.now) c.requires.fit counts are stride
    (λ v l. omega (arith, stride_le (states_in counts) are.some list v, rows_are, c.requires.room, c.requires.short))
    order (listed_below (holds scope) (length counts) (length counts) 0 (omega arith)) (listed_once (holds scope) (length counts) 0)
    0 (length cells) (length c.args.all.now - c.args.used) (omega (arith, c.requires.cells, c.requires.room, c.requires.short))
    (λ w i.
    let along = ap (λ l. out_place stride l w) order_is ∙ sym (out_shuffled stride w mixed) ∙ list_place (states_in counts) list w (once_of list c.requires.once) in
    omega (arith, along, row_below r (states_in counts) stride list w i, rows_are, c.requires.cells))
    (omega (arith, rows, c.requires.room)))

pub returns-clause-len : goal.returns-clause-len
returns-clause-len g c =
    let d = c.args.diagram.now in
    let counts = c.args.counts.now in
    let is : c.args.counts.now ≡ counts_of d.nodes = c.requires.counts in
    let list = c.args.listed.now.list.now in
    let mixed = shuffled_nodes d.nodes (has list) list c.requires.once (has_is list) (λ v t. c.requires.known v ((has_is list v).1 t)) in
    let room : cells_over d.nodes (has list) ≤ length c.args.all.now - c.args.used = omega (arith, rows_shuffled (states_of d.nodes) mixed, c.requires.room) in
    let len_is : c.rows_after-len.result ≡ size_of counts c.scope_of-scope.result = c.rows_after-len.ensures ∙ list_size d.nodes counts is list c.scope_of-scope.result c.requires.once c.requires.known c.scope_of-scope.ensures in
    let same : length c.copy_listed.new.all ≡ length c.args.all.now = search rules in
    omega (arith, same, len_is, ends_within d.nodes counts is c.scope_of-scope.result (has list) c.scope_of-scope.ensures c.args.all.now c.args.used c.requires.used room)

pub returns-clause-table : goal.returns-clause-table
returns-clause-table g c =
    let d = c.args.diagram.now in
    let counts = c.args.counts.now in
    let is : c.args.counts.now ≡ counts_of d.nodes = c.requires.counts in
    let r = g.C.Cell.ring in
    let used = c.args.used in
    let all = c.args.all.now in
    let new = c.copy_listed.new.all in
    let list = c.args.listed.now.list.now in
    let scope = c.scope_of-scope.result in
    let len_is : c.rows_after-len.result ≡ size_of counts c.scope_of-scope.result = c.rows_after-len.ensures ∙ list_size d.nodes counts is list c.scope_of-scope.result c.requires.once c.requires.known c.scope_of-scope.ensures in
    let order = listed (holds scope) 0 (length counts) in
    let stride = list_stride (states_in counts) list in
    let counts_are : states_in counts ≡ states_of d.nodes = ap states_in is ∙ states_is d.nodes in
    let mixed = shuffled_nodes d.nodes (has list) list c.requires.once (has_is list) (λ v t. c.requires.known v ((has_is list v).1 t)) in
    let room : cells_over d.nodes (has list) ≤ length all - used = omega (arith, rows_shuffled (states_of d.nodes) mixed, c.requires.room) in
    let ends = ends_within d.nodes counts is scope (has list) c.scope_of-scope.ensures all used c.requires.used room in
    let order_is : order ≡ nodes_in d.nodes (has list) = ap (λ h. listed h 0 (length counts)) (fun_ext c.scope_of-scope.ensures) ∙ ap (λ cs. listed (has list) 0 (length cs)) is ∙ nodes_are d.nodes (has list) in
    let listed_is : c.before-order.result.now ≡ order = c.before-order.ensures ∙ c.list_nodes-n.ensures.list in
    let steps : steps_in counts list c.before-order.result.now ≡ steps_of (states_in counts) stride order = ap (steps_of (states_in counts) stride) listed_is in
    let size : count_of_steps (steps_of (states_in counts) stride order) ≡ size_of counts scope = count_is r (states_in counts) stride order ∙ sym (size_is (states_in counts) (holds scope) (length counts) 0) in
    let cells = g.S.Source.cells c.args.listed.now.source.now in
    let copied = gathered r cells (steps_of (states_in counts) stride order) 0 in
    let long : length copied ≡ c.rows_after-len.result = length-gathered r cells (steps_of (states_in counts) stride order) 0 ∙ size ∙ sym len_is in
    let written : take (used + c.rows_after-len.result) new ≡ take used all ++ copied =
    ap (λ k. take (used + k) new) (len_is ∙ sym size ∙ ap count_of_steps (sym steps)) ∙ c.copy_listed.ensures ∙ ap (λ l. take used all ++ gathered r cells l 0) steps in
    let same : length new ≡ length all = search rules in
    appends_table r d.nodes all new used c.rows_after-len.result same
    (omega (arith, len_is, ends))
    (copied_kept r all new copied used c.rows_after-len.result c.requires.used long written)
    scope (list_table r d.nodes list cells)
    (len_is ∙ ap (λ cs. size_of cs scope) is)
    (λ v t. c.requires.known v ((has_is list v).1 (sym (c.scope_of-scope.ensures v) ∙ t)))
    c.scope_of-scope.ensures
    (λ w i.
    let ok = subst (λ cs. InRange (states_in cs) w) (sym is) (range_is d.nodes w i) in
    let below = place_below (states_in counts) (holds scope) w ok (length counts) 0 in
    let along = ap (λ l. out_place stride l w) order_is ∙ sym (out_shuffled stride w mixed) ∙ list_place (states_in counts) list w (once_of list c.requires.once) ∙ ap (λ f. row_from f w 0 list) counts_are in
    ap (λ cs. cell_at r new (used + place_of cs scope w)) (sym is)
    ∙ copied_at r all new copied used c.rows_after-len.result c.requires.used long written (place_of counts scope w) (omega (arith, below, len_is))
    ∙ ap (cell_at r copied) (place_is (states_in counts) (holds scope) w (length counts) 0)
    ∙ gathered_at r (states_in counts) stride cells order 0 w ok
    ∙ ap (cell_at r cells) (let z : 0 + out_place stride order w ≡ row_from (states_of d.nodes) w 0 list = omega (arith, along) in z))

pub list_nodes-n-requires-clause-few : goal.list_nodes-n-requires-clause-few
list_nodes-n-requires-clause-few g c = omega (arith, ap length c.requires.counts, counts_length c.args.diagram.now.nodes, c.requires.diagram.limits.nodes)

pub copy_listed-requires-clause-fit : goal.copy_listed-requires-clause-fit
copy_listed-requires-clause-fit g c = c.requires.fit

pub copy_listed-requires-clause-once : goal.copy_listed-requires-clause-once
copy_listed-requires-clause-once g c = c.requires.once

pub returns-clause-start : goal.returns-clause-start
returns-clause-start g c = refl

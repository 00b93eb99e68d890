use Rattle.std.proofs.Common.{◌∙◌, ◌<◌, ◌≤◌, List, [], length, get_or, refl, sym, subst}
use Rattle.node_sets.specs.declared.sets.TheConstants.{MOST_NODES}
use Rattle.factor_core.specs.declared.slots.Slot.{Slot}
use Rattle.factor_core.specs.Operations.{cells_by}
use Rattle.eliminate.specs.Limits.{ListsWithin}
use Rattle.eliminate.proofs.Bounds.{below_two, below_three, within_two, within_same}
use Rattle.eliminate.specs.Places.{live_slots}
use Rattle.eliminate.proofs.Filing.{apart, none_over, tells_holders, later_on}
use Rattle.eliminate.proofs.Growing.{grows_on}
use Rattle.eliminate.proofs.Multiplying.{each_some}
use Rattle.eliminate.proofs.Within.{first_too_much, sum_starts, next_step, no_step, has_grown, left_small, left_room, step_refused, step_joins, step_on, product_too_much, product_fits, product_sums}
use Rattle.eliminate.proofs.sums.sum_with.Goals as goal

-- the first tables are what a sum starts from, each step leads it on, and the product of what is
-- left ends it
pub list_tables-requires-clause-profile : goal.list_tables-requires-clause-profile
list_tables-requires-clause-profile g c = c.requires.profile

pub list_tables-requires-clause-known : goal.list_tables-requires-clause-known
list_tables-requires-clause-known g c = c.requires.known

pub list_tables-requires-clause-numbers : goal.list_tables-requires-clause-numbers
list_tables-requires-clause-numbers g c = c.requires.numbers

pub list_tables-requires-clause-small : goal.list_tables-requires-clause-small
list_tables-requires-clause-small g c = c.requires.small

pub list_tables-requires-clause-room : goal.list_tables-requires-clause-room
list_tables-requires-clause-room g c = c.requires.room

pub list_tables-requires-clause-len : goal.list_tables-requires-clause-len
list_tables-requires-clause-len g c = c.requires.tables

pub returns-in_err-left-clause-some : goal.returns-in_err-left-clause-some
returns-in_err-left-clause-some g c = rw c.from_residual.ensures tt

pub returns-in_err-left-clause-none : goal.returns-in_err-left-clause-none
returns-in_err-left-clause-none g c =
    let cells = cells_by g.C.Cell.ring g.C.Cell.of_weight g.C.Cell.of_value in
    let many = first_too_much cells c.args.diagram.now.nodes c.args.profile.now c.args.nodes.now c.args.steps.now c.args.limits c.in_err-left.ensures.lists in
    ((λ e. many), (λ t. c.from_residual.ensures))

pub returns-in_err-left-clause-grows : goal.returns-in_err-left-clause-grows
returns-in_err-left-clause-grows g c = c.list_tables.ensures.grows

pub all_live-places-requires-clause-made : goal.all_live-places-requires-clause-made
all_live-places-requires-clause-made g c = subst (λ n. length c.args.nodes.now ≤ n) (sym c.list_tables.auto.live) c.requires.tables

pub all_live-places-requires-clause-few : goal.all_live-places-requires-clause-few
all_live-places-requires-clause-few g c = within_two (length c.args.nodes.now) (length c.args.slots.now) MOST_NODES c.requires.tables c.requires.slots

pub all_live-places-requires-clause-same : goal.all_live-places-requires-clause-same
all_live-places-requires-clause-same g c = c.requires.same

pub all_live-places-requires-clause-apart : goal.all_live-places-requires-clause-apart
all_live-places-requires-clause-apart g c = apart c.requires.ranking c.requires.count

pub all_live-places-requires-clause-blank : goal.all_live-places-requires-clause-blank
all_live-places-requires-clause-blank g c = c.requires.blank

pub loop-node-init : goal.loop-node-init
loop-node-init g c = record {
  sum = sum_starts c.requires.fits c.requires.holds
      (subst (λ (l : List Slot). ListsWithin (cells_by g.C.Cell.ring g.C.Cell.of_weight g.C.Cell.of_value) c.args.diagram.now.nodes c.args.profile.now c.args.work.now c.list_tables.new.work l [] c.args.nodes.now c.args.limits c.in_ok-left.left)
      (sym c.all_live-places.ensures.live) c.in_ok-left.ensures.lists);
  board = c.all_live-places.ensures.board;
  later = none_over c.requires.ranking c.requires.count (live_slots c.all_live-places.result.live c.all_live-places.result.made c.list_tables.new.live);
  made = within_same (length c.args.nodes.now) (length c.args.slots.now) (length c.list_tables.new.live) c.all_live-places.result.made c.all_live-places.ensures.made c.requires.tables c.list_tables.auto.live;
  slots = c.list_tables.auto.live;
  at = c.all_live-places.auto.at;
  joined = refl;
}

pub bounds-steps-node-index : goal.bounds-steps-node-index
bounds-steps-node-index g c = c.loop-node-test.true

pub spend_on_step-requires-clause-within : goal.spend_on_step-requires-clause-within
spend_on_step-requires-clause-within g c = c.loop-node.invariant.board.within

pub spend_on_step-requires-clause-made : goal.spend_on_step-requires-clause-made
spend_on_step-requires-clause-made g c = c.loop-node.invariant.made

pub spend_on_step-requires-clause-slots : goal.spend_on_step-requires-clause-slots
spend_on_step-requires-clause-slots g c = subst (λ n. n ≤ MOST_NODES) (sym c.loop-node.invariant.slots) c.requires.slots

pub spend_on_step-requires-clause-joined : goal.spend_on_step-requires-clause-joined
spend_on_step-requires-clause-joined g c = c.loop-node.invariant.joined ∙ c.requires.joined ∙ sym c.loop-node.invariant.slots

pub spend_on_step-requires-clause-node : goal.spend_on_step-requires-clause-node
spend_on_step-requires-clause-node g c =
    let node = get_or c.args.steps.now c.loop-node.node-index 0 in
    let known : node < length c.args.diagram.now.nodes = c.requires.steps c.loop-node.node-index 0 c.loop-node-test.true in
    (below_three node (length c.args.diagram.now.nodes) (length c.args.at.now) (length c.loop-node.at) known c.requires.at c.loop-node.invariant.at, below_two node (length c.args.diagram.now.nodes) MOST_NODES known c.count-count.ensures.diagram.limits.nodes)

pub spend_on_step-requires-clause-held : goal.spend_on_step-requires-clause-held
spend_on_step-requires-clause-held g c =
    tells_holders c.requires.ranking c.requires.count c.loop-node-test.true c.loop-node.invariant.board c.loop-node.invariant.made (spend_on_step-requires-clause-node g c).0 c.loop-node.invariant.later

pub returns-in_err-left-2-clause-some : goal.returns-in_err-left-2-clause-some
returns-in_err-left-2-clause-some g c = rw c.from_residual-in_err-left-2.ensures tt

pub returns-in_err-left-2-clause-none : goal.returns-in_err-left-2-clause-none
returns-in_err-left-2-clause-none g c =
    let many = step_refused g.met.C.Cell.laws (next_step c.loop-node.node-index c.loop-node.invariant.sum c.loop-node-test.true) c.in_err-left-2.ensures in
    ((λ e. many), (λ t. c.from_residual-in_err-left-2.ensures))

pub returns-in_err-left-2-clause-grows : goal.returns-in_err-left-2-clause-grows
returns-in_err-left-2-clause-grows g c = has_grown c.loop-node.invariant.sum

pub eliminate-places-requires-clause-board : goal.eliminate-places-requires-clause-board
eliminate-places-requires-clause-board g c = c.loop-node.invariant.board

pub eliminate-places-requires-clause-made : goal.eliminate-places-requires-clause-made
eliminate-places-requires-clause-made g c = c.loop-node.invariant.made

pub eliminate-places-requires-clause-slots : goal.eliminate-places-requires-clause-slots
eliminate-places-requires-clause-slots g c = subst (λ n. n ≤ MOST_NODES) (sym c.loop-node.invariant.slots) c.requires.slots

pub eliminate-places-requires-clause-joined : goal.eliminate-places-requires-clause-joined
eliminate-places-requires-clause-joined g c = c.spend_on_step.auto.joined ∙ c.loop-node.invariant.joined ∙ c.requires.joined ∙ sym c.loop-node.invariant.slots

pub eliminate-places-requires-clause-node : goal.eliminate-places-requires-clause-node
eliminate-places-requires-clause-node g c =
    let node = get_or c.args.steps.now c.loop-node.node-index 0 in
    let known : node < length c.args.diagram.now.nodes = c.requires.steps c.loop-node.node-index 0 c.loop-node-test.true in
    below_three node (length c.args.diagram.now.nodes) (length c.args.at.now) (length c.loop-node.at) known c.requires.at c.loop-node.invariant.at

pub eliminate-places-requires-clause-held : goal.eliminate-places-requires-clause-held
eliminate-places-requires-clause-held g c =
    tells_holders c.requires.ranking c.requires.count c.loop-node-test.true c.loop-node.invariant.board c.loop-node.invariant.made (eliminate-places-requires-clause-node g c) c.loop-node.invariant.later

pub eliminate-places-requires-clause-join : goal.eliminate-places-requires-clause-join
eliminate-places-requires-clause-join g c = step_joins g.met.C.Cell.laws (next_step c.loop-node.node-index c.loop-node.invariant.sum c.loop-node-test.true) c.requires.small c.requires.room c.in_ok-left-2.ensures

pub loop-node-preserved : goal.loop-node-preserved
loop-node-preserved g c = record {
  sum = step_on g.met.C.Cell.laws (next_step c.loop-node.node-index c.loop-node.invariant.sum c.loop-node-test.true) c.requires.small c.requires.room c.in_ok-left-2.ensures c.eliminate-places.ensures.step;
  board = c.eliminate-places.ensures.board;
  later = later_on c.requires.ranking c.requires.count c.loop-node-test.true (live_slots c.loop-node.places.live c.loop-node.places.made c.loop-node.slots) c.loop-node.invariant.later c.eliminate-places.ensures.step;
  made = subst (λ n. c.eliminate-places.result.made ≤ n) (sym c.eliminate-places.auto.slots) c.eliminate-places.ensures.made;
  slots = c.eliminate-places.auto.slots ∙ c.loop-node.invariant.slots;
  at = c.eliminate-places.auto.at ∙ c.loop-node.invariant.at;
  joined = c.eliminate-places.auto.joined ∙ c.spend_on_step.auto.joined ∙ c.loop-node.invariant.joined;
}

pub multiply_live-requires-clause-within : goal.multiply_live-requires-clause-within
multiply_live-requires-clause-within g c = c.loop-node.invariant.board.within

pub multiply_live-requires-clause-made : goal.multiply_live-requires-clause-made
multiply_live-requires-clause-made g c = c.loop-node.invariant.made

pub multiply_live-requires-clause-slots : goal.multiply_live-requires-clause-slots
multiply_live-requires-clause-slots g c = subst (λ n. n ≤ MOST_NODES) (sym c.loop-node.invariant.slots) c.requires.slots

pub multiply_live-requires-clause-joined : goal.multiply_live-requires-clause-joined
multiply_live-requires-clause-joined g c = c.loop-node.invariant.joined ∙ c.requires.joined ∙ sym c.loop-node.invariant.slots

pub multiply_live-requires-clause-product : goal.multiply_live-requires-clause-product
multiply_live-requires-clause-product g c = record {
  live = c.loop-node.invariant.sum.between.stand.live;
  fits = product_fits g.met.C.Cell.laws (no_step c.loop-node.node-index c.loop-node.invariant.sum c.loop-node-test.false);
}

pub multiply_live-requires-clause-small : goal.multiply_live-requires-clause-small
multiply_live-requires-clause-small g c = left_small c.loop-node.invariant.sum c.requires.small

pub multiply_live-requires-clause-room : goal.multiply_live-requires-clause-room
multiply_live-requires-clause-room g c = left_room c.loop-node.invariant.sum c.requires.room

pub returns-clause-some : goal.returns-clause-some
returns-clause-some g c = each_some c.multiply_live.result (product_sums g.met.C.Cell.laws (no_step c.loop-node.node-index c.loop-node.invariant.sum c.loop-node-test.false)) c.multiply_live.ensures.some

pub returns-clause-none : goal.returns-clause-none
returns-clause-none g c =
    let same = product_too_much g.met.C.Cell.laws (no_step c.loop-node.node-index c.loop-node.invariant.sum c.loop-node-test.false) in
    let none = c.multiply_live.ensures.none in
    ((λ e. same.0 (none.0 e)), (λ t. none.1 (same.1 t)))

pub returns-clause-grows : goal.returns-clause-grows
returns-clause-grows g c = grows_on (has_grown c.loop-node.invariant.sum) c.multiply_live.ensures.grows

use Rattle.std.proofs.Common.{◌∙◌, ℕ, ◌<◌, ◌≤◌, List, [], length, refl, sym, subst, arith, All}
use Rattle.std.specs.Prelude.{slice_index}
use Rattle.std.proofs.lemmas.List.{get_or_default}
use Rattle.node_sets.specs.declared.sets.TheConstants.{MOST_NODES}
use Rattle.factor_core.specs.declared.slots.Slot.{Slot}
use Rattle.factor_core.specs.Operations.{cells_by}
use Rattle.factor_core.specs.Slots.{IsLiveSlot, ProductOfFits, HasSpareForProduct, AppendsProduct}
use Rattle.eliminate.specs.Places.{live_slots, TellsHolders}
use Rattle.eliminate.specs.Steps.{first_nodes, CanJoinOut, GiveWay, Lists}
use Rattle.eliminate.proofs.Bounds.{below_three, within_two, within_same, at_most}
use Rattle.eliminate.proofs.Filing.{apart, none_over, tells_holders, later_on}
use Rattle.eliminate.proofs.Ruled.{step_known}
use Rattle.eliminate.proofs.Whole.{CanRun, firsts_room, started, next_step, no_step, run_joins, run_on, last_fits, last_room, ended}
use Rattle.eliminate.proofs.runs.run_with.Goals as goal

-- the first tables are what a run starts from, each step leads it on, and the product of what is
-- left ends it
pub first_tables-count-requires-clause-asked : goal.first_tables-count-requires-clause-asked
first_tables-count-requires-clause-asked g c = c.requires.asked

pub first_tables-count-requires-clause-order : goal.first_tables-count-requires-clause-order
first_tables-count-requires-clause-order g c = c.requires.made.order

pub first_tables-count-requires-clause-profile : goal.first_tables-count-requires-clause-profile
first_tables-count-requires-clause-profile g c = c.requires.profile

pub first_tables-count-requires-clause-fits : goal.first_tables-count-requires-clause-fits
first_tables-count-requires-clause-fits g c = c.requires.fits

pub first_tables-count-requires-clause-room : goal.first_tables-count-requires-clause-room
first_tables-count-requires-clause-room g c =
    firsts_room (cells_by g.C.Cell.ring g.C.Cell.of_weight g.C.Cell.of_value) c.args.diagram.now.nodes c.args.profile.now c.args.plan.now c.requires.asked c.requires.made c.requires.counted c.args.work.now.spare c.requires.room

pub first_tables-count-requires-clause-tables : goal.first_tables-count-requires-clause-tables
first_tables-count-requires-clause-tables g c = c.requires.tables

pub all_live-places-requires-clause-made : goal.all_live-places-requires-clause-made
all_live-places-requires-clause-made g c = subst (λ n. c.first_tables-count.result ≤ n) (sym c.first_tables-count.auto.live) c.first_tables-count.ensures.few

pub all_live-places-requires-clause-few : goal.all_live-places-requires-clause-few
all_live-places-requires-clause-few g c = within_two c.first_tables-count.result (length c.args.slots.now) MOST_NODES c.first_tables-count.ensures.few c.requires.slots

pub all_live-places-requires-clause-same : goal.all_live-places-requires-clause-same
all_live-places-requires-clause-same g c = c.requires.same

pub all_live-places-requires-clause-apart : goal.all_live-places-requires-clause-apart
all_live-places-requires-clause-apart g c = apart c.requires.ranking c.requires.count

pub all_live-places-requires-clause-blank : goal.all_live-places-requires-clause-blank
all_live-places-requires-clause-blank g c = c.requires.blank

pub loop-node-init : goal.loop-node-init
loop-node-init g c =
    let cells = cells_by g.C.Cell.ring g.C.Cell.of_weight g.C.Cell.of_value in
    let is = c.first_tables-count.ensures.diagram in
    let run : CanRun cells c.args.diagram.now.nodes c.args.profile.now c.args.plan.now = record {
      ring = g.met.C.Cell.laws;
      size = g.met.C.Cell.sizes;
      sized = record { weight = g.met.C.Cell.weight_sizes; value = g.met.C.Cell.value_sizes };
      asked = c.requires.asked;
      is = c.requires.made;
      counted = c.requires.counted;
      graph = is.graph;
      chance = is.tables;
      profile = c.requires.profile;
      fits = c.requires.fits;
    } in record {
      run = run;
      between = started run (subst (λ (l : List Slot). Lists cells c.args.diagram.now.nodes c.args.profile.now c.args.work.now c.first_tables-count.new.work l [] (first_nodes c.args.diagram.now.nodes c.args.plan.now.plan))
          (sym c.all_live-places.ensures.live) c.first_tables-count.ensures.lists);
      board = c.all_live-places.ensures.board;
      later = none_over c.requires.ranking c.requires.count (live_slots c.all_live-places.result.live c.all_live-places.result.made c.first_tables-count.new.live);
      made = within_same c.first_tables-count.result (length c.args.slots.now) (length c.first_tables-count.new.live) c.all_live-places.result.made c.all_live-places.ensures.made c.first_tables-count.ensures.few c.first_tables-count.auto.live;
      slots = c.first_tables-count.auto.live;
      at = c.all_live-places.auto.at;
      joined = refl;
    }

pub bounds-node-items-node-index : goal.bounds-node-items-node-index
bounds-node-items-node-index g c = c.loop-node-test.true

pub eliminate-places-requires-clause-board : goal.eliminate-places-requires-clause-board
eliminate-places-requires-clause-board g c = c.loop-node.invariant.board

pub eliminate-places-requires-clause-made : goal.eliminate-places-requires-clause-made
eliminate-places-requires-clause-made g c = c.loop-node.invariant.made

pub eliminate-places-requires-clause-slots : goal.eliminate-places-requires-clause-slots
eliminate-places-requires-clause-slots g c = subst (λ n. n ≤ MOST_NODES) (sym c.loop-node.invariant.slots) c.requires.slots

pub eliminate-places-requires-clause-joined : goal.eliminate-places-requires-clause-joined
eliminate-places-requires-clause-joined g c = c.loop-node.invariant.joined ∙ c.requires.joined ∙ sym c.loop-node.invariant.slots

pub eliminate-places-requires-clause-node : goal.eliminate-places-requires-clause-node
eliminate-places-requires-clause-node g c =
    let within : c.loop-node.node-index < length c.args.plan.now.steps = subst (λ (l : List ℕ). c.loop-node.node-index < length l) c.steps-node-items.ensures c.loop-node-test.true in
    let known = step_known c.args.diagram.now.nodes c.args.plan.now.plan c.args.plan.now.steps c.requires.made.order (slice_index c.args.plan.now.steps c.loop-node.node-index) (c.loop-node.node-index, within, get_or_default c.args.plan.now.steps c.loop-node.node-index _ 0 within) in
    subst (λ (l : List ℕ). slice_index l c.loop-node.node-index < length c.loop-node.at) (sym c.steps-node-items.ensures) (below_three (slice_index c.args.plan.now.steps c.loop-node.node-index) (length c.args.diagram.now.nodes) (length c.args.at.now) (length c.loop-node.at) known c.requires.nodes c.loop-node.invariant.at)

pub eliminate-places-requires-clause-held : goal.eliminate-places-requires-clause-held
eliminate-places-requires-clause-held g c =
    let within = subst (λ (l : List ℕ). c.loop-node.node-index < length l) c.steps-node-items.ensures c.loop-node-test.true in
    subst (λ (l : List ℕ). TellsHolders c.loop-node.at c.loop-node.places c.loop-node.slots (slice_index l c.loop-node.node-index)) (sym c.steps-node-items.ensures)
    (tells_holders c.requires.ranking c.requires.count within c.loop-node.invariant.board c.loop-node.invariant.made (subst (λ (l : List ℕ). slice_index l c.loop-node.node-index < length c.loop-node.at) c.steps-node-items.ensures (eliminate-places-requires-clause-node g c)) c.loop-node.invariant.later)

pub eliminate-places-requires-clause-join : goal.eliminate-places-requires-clause-join
eliminate-places-requires-clause-join g c =
    let within = subst (λ (l : List ℕ). c.loop-node.node-index < length l) c.steps-node-items.ensures c.loop-node-test.true in
    subst (λ (l : List ℕ). CanJoinOut g.C.Cell.ring c.args.diagram.now.nodes c.loop-node.work (live_slots c.loop-node.places.live c.loop-node.places.made c.loop-node.slots) (slice_index l c.loop-node.node-index)) (sym c.steps-node-items.ensures)
    (run_joins c.loop-node.invariant.run c.requires.room (next_step c.loop-node.invariant.run c.loop-node.node-index c.loop-node.invariant.between within))

pub loop-node-preserved : goal.loop-node-preserved
loop-node-preserved g c =
    let within = subst (λ (l : List ℕ). c.loop-node.node-index < length l) c.steps-node-items.ensures c.loop-node-test.true in record {
      run = c.loop-node.invariant.run;
      between = run_on c.loop-node.invariant.run c.requires.room (next_step c.loop-node.invariant.run c.loop-node.node-index c.loop-node.invariant.between within)
          (subst (λ (l : List ℕ). GiveWay g.C.Cell.ring c.args.diagram.now.nodes c.loop-node.work c.eliminate-places.new.work (live_slots c.loop-node.places.live c.loop-node.places.made c.loop-node.slots) (live_slots c.eliminate-places.result.live c.eliminate-places.result.made c.eliminate-places.new.slots) (slice_index l c.loop-node.node-index))
          c.steps-node-items.ensures c.eliminate-places.ensures.step);
      board = c.eliminate-places.ensures.board;
      later = later_on c.requires.ranking c.requires.count within (live_slots c.loop-node.places.live c.loop-node.places.made c.loop-node.slots) c.loop-node.invariant.later
          (subst (λ (l : List ℕ). GiveWay g.C.Cell.ring c.args.diagram.now.nodes c.loop-node.work c.eliminate-places.new.work (live_slots c.loop-node.places.live c.loop-node.places.made c.loop-node.slots) (live_slots c.eliminate-places.result.live c.eliminate-places.result.made c.eliminate-places.new.slots) (slice_index l c.loop-node.node-index))
          c.steps-node-items.ensures c.eliminate-places.ensures.step);
      made = subst (λ n. c.eliminate-places.result.made ≤ n) (sym c.eliminate-places.auto.slots) c.eliminate-places.ensures.made;
      slots = c.eliminate-places.auto.slots ∙ c.loop-node.invariant.slots;
      at = c.eliminate-places.auto.at ∙ c.loop-node.invariant.at;
      joined = c.eliminate-places.auto.joined ∙ c.loop-node.invariant.joined;
    }

pub gather_live-count-requires-clause-within : goal.gather_live-count-requires-clause-within
gather_live-count-requires-clause-within g c = c.loop-node.invariant.board.within

pub gather_live-count-requires-clause-made : goal.gather_live-count-requires-clause-made
gather_live-count-requires-clause-made g c = c.loop-node.invariant.made

pub gather_live-count-requires-clause-few : goal.gather_live-count-requires-clause-few
gather_live-count-requires-clause-few g c = subst (λ n. n ≤ MOST_NODES) (sym c.loop-node.invariant.slots) c.requires.slots

pub gather_live-count-requires-clause-room : goal.gather_live-count-requires-clause-room
gather_live-count-requires-clause-room g c = c.loop-node.invariant.joined ∙ c.requires.joined ∙ sym c.loop-node.invariant.slots

pub before-requires : goal.before-requires
before-requires g c = omega (arith, c.gather_live-count.ensures.few, c.gather_live-count.auto.found, c.loop-node.invariant.joined, c.requires.joined, c.loop-node.invariant.slots)

pub product-requires-clause-few : goal.product-requires-clause-few
product-requires-clause-few g c = at_most c.gather_live-count.result MOST_NODES c.gather_live-count.new.found c.before-2.ensures (omega (arith, c.gather_live-count.ensures.few, c.loop-node.invariant.slots, c.requires.slots))

pub product-requires-clause-live : goal.product-requires-clause-live
product-requires-clause-live g c =
    subst (λ (l : List Slot). All (IsLiveSlot c.args.diagram.now.nodes c.loop-node.work.cells) l) (sym (c.before-2.ensures ∙ c.gather_live-count.ensures.list))
    c.loop-node.invariant.between.stand.live

pub product-requires-clause-fits : goal.product-requires-clause-fits
product-requires-clause-fits g c =
    let none = subst (λ (l : List ℕ). length l ≤ c.loop-node.node-index) c.steps-node-items.ensures c.loop-node-test.false in
    subst (λ (l : List Slot). ProductOfFits g.C.Cell.ring c.args.diagram.now.nodes l c.loop-node.work) (sym (c.before-2.ensures ∙ c.gather_live-count.ensures.list))
    (last_fits c.loop-node.invariant.run (no_step c.loop-node.invariant.run c.loop-node.node-index c.loop-node.invariant.between none))

pub product-requires-clause-room : goal.product-requires-clause-room
product-requires-clause-room g c =
    let none = subst (λ (l : List ℕ). length l ≤ c.loop-node.node-index) c.steps-node-items.ensures c.loop-node-test.false in
    subst (λ (l : List Slot). HasSpareForProduct g.C.Cell.ring c.args.diagram.now.nodes l c.loop-node.work) (sym (c.before-2.ensures ∙ c.gather_live-count.ensures.list))
    (last_room c.loop-node.invariant.run (no_step c.loop-node.invariant.run c.loop-node.node-index c.loop-node.invariant.between none) c.requires.room)

pub returns : goal.returns
returns g c =
    let none = subst (λ (l : List ℕ). length l ≤ c.loop-node.node-index) c.steps-node-items.ensures c.loop-node-test.false in
    ended c.loop-node.invariant.run (no_step c.loop-node.invariant.run c.loop-node.node-index c.loop-node.invariant.between none)
    (subst (λ (l : List Slot). AppendsProduct g.C.Cell.ring c.args.diagram.now.nodes l c.loop-node.work c.product.new.self c.product.result) (c.before-2.ensures ∙ c.gather_live-count.ensures.list) c.product.ensures)

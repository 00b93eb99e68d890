use Rattle.std.proofs.Common.{◌≡◌, ◌∙◌, ℕ, ◌<◌, ◌≤◌, ◌∷◌, ◌++◌, [], List, All, length, take, arith, ap, sym, subst}
use Rattle.std.proofs.lemmas.List.{length-take-le}
use Rattle.node_sets.specs.declared.sets.NodeSet.{NodeSet}
use Rattle.node_sets.specs.declared.sets.TheConstants.{MOST_NODES}
use Rattle.node_sets.specs.Sets.{holds, IsIn}
use Rattle.factor_core.specs.declared.slots.Slot.{Slot}
use Rattle.factor_core.specs.Slots.{IsLiveSlot, JoinOfFits, HasSpareForJoin, AppendsJoin}
use Rattle.eliminate.specs.Places.{live_slots}
use Rattle.eliminate.specs.Steps.{slots_with, slots_without}
use Rattle.eliminate.proofs.Bounds.{front_holds, front_few, front_room, found_within, found_few, gathered_with}
use Rattle.eliminate.proofs.Placing.{left_slots, from_few}
use Rattle.eliminate.proofs.Stepping.{all_filter, all_pass, fewer}
use Rattle.eliminate.proofs.runs.eliminate.Given.{Over}
use Rattle.eliminate.proofs.runs.eliminate.Goals as goal

-- where one of the live slots leaves, there is a place for the next
left_few : (live : NodeSet) (made node : ℕ) (slots : List Slot) → made ≤ length slots → 0 < length (slots_with node (live_slots live made slots))
    → (left : List Slot) → left ≡ slots_without node (live_slots live made slots) → length left < length slots
left_few live made node slots within some left e =
    omega (arith, ap length e, fewer (λ s. holds s.scope node) (live_slots live made slots) some, from_few (holds live) 0 (take made slots), length-take-le made slots within, within)

-- the slots that were gathered
found_is : (g : Over) (c : goal.After-before-3 g) → c.before-3.result.now ≡ slots_with c.args.node (live_slots c.args.places.live c.args.places.made c.args.slots.now)
found_is g c = gathered_with c.args.at.now c.args.places.live c.places_of-held.result c.args.places.made c.args.node c.args.slots.now c.requires.held c.places_of-held.ensures c.before-2.ensures c.gather-count.ensures.list c.before-3.ensures

pub places_of-held-requires : goal.places_of-held-requires
places_of-held-requires g c = c.requires.node

pub before-requires : goal.before-requires
before-requires g c = c.requires.made

pub gather-count-requires-clause-within : goal.gather-count-requires-clause-within
gather-count-requires-clause-within g c = front_holds c.args.places.made c.args.slots.now c.before-2.result.now c.before-2.ensures c.requires.made c.places_of-held.result (λ k t. c.requires.board.within k ((c.places_of-held.ensures k c.args.places.live).0 t).0)

pub gather-count-requires-clause-few : goal.gather-count-requires-clause-few
gather-count-requires-clause-few g c = front_few c.args.places.made c.args.slots.now c.before-2.result.now c.before-2.ensures c.requires.made MOST_NODES c.requires.slots

pub gather-count-requires-clause-room : goal.gather-count-requires-clause-room
gather-count-requires-clause-room g c = front_room c.args.places.made c.args.slots.now c.before-2.result.now c.before-2.ensures c.requires.made c.args.joined.now c.requires.joined

pub before-requires-2 : goal.before-requires-2
before-requires-2 g c = found_within c.args.places.made c.args.slots.now c.before-2.result.now c.before-2.ensures c.requires.made c.gather-count.new.found (c.gather-count.auto.found ∙ c.requires.joined) c.gather-count.result c.gather-count.ensures.few

pub join_out-slot-requires-clause-few : goal.join_out-slot-requires-clause-few
join_out-slot-requires-clause-few g c = found_few c.args.places.made c.args.slots.now c.before-2.result.now c.before-2.ensures c.requires.made c.gather-count.new.found (c.gather-count.auto.found ∙ c.requires.joined) c.gather-count.result c.gather-count.ensures.few c.before-3.result.now c.before-3.ensures MOST_NODES c.requires.slots

pub join_out-slot-requires-clause-some : goal.join_out-slot-requires-clause-some
join_out-slot-requires-clause-some g c =
    subst (λ (l : List Slot). 0 < length l) (sym (found_is g c)) c.requires.join.some

pub join_out-slot-requires-clause-live : goal.join_out-slot-requires-clause-live
join_out-slot-requires-clause-live g c =
    let slots = live_slots c.args.places.live c.args.places.made c.args.slots.now in
    subst (λ (l : List Slot). All (IsLiveSlot c.args.play.now.diagram.now.nodes c.args.work.now.cells) l) (sym (found_is g c))
    (all_filter (IsLiveSlot c.args.play.now.diagram.now.nodes c.args.work.now.cells) (λ s. holds s.scope c.args.node) slots c.requires.join.live)

pub join_out-slot-requires-clause-hold : goal.join_out-slot-requires-clause-hold
join_out-slot-requires-clause-hold g c =
    let slots = live_slots c.args.places.live c.args.places.made c.args.slots.now in
    subst (λ (l : List Slot). All (λ s. IsIn s.scope c.args.node) l) (sym (found_is g c)) (all_pass (λ s. holds s.scope c.args.node) slots)

pub join_out-slot-requires-clause-fits : goal.join_out-slot-requires-clause-fits
join_out-slot-requires-clause-fits g c =
    subst (λ (l : List Slot). JoinOfFits g.C.Cell.ring c.args.play.now.diagram.now.nodes c.args.node l c.args.work.now) (sym (found_is g c)) c.requires.join.fits

pub join_out-slot-requires-clause-room : goal.join_out-slot-requires-clause-room
join_out-slot-requires-clause-room g c =
    subst (λ (l : List Slot). HasSpareForJoin g.C.Cell.ring c.args.play.now.diagram.now.nodes c.args.node l c.args.work.now) (sym (found_is g c)) c.requires.join.room

pub put_slot-requires-clause-board : goal.put_slot-requires-clause-board
put_slot-requires-clause-board g c = record { same = c.requires.board.same; apart = c.requires.board.apart; filed = c.requires.board.filed; within = λ k t. c.requires.board.within k ((c.difference.ensures k).0 t).0 }

pub put_slot-requires-clause-made : goal.put_slot-requires-clause-made
put_slot-requires-clause-made g c = c.requires.made

pub put_slot-requires-clause-few : goal.put_slot-requires-clause-few
put_slot-requires-clause-few g c =
    left_few c.args.places.live c.args.places.made c.args.node c.args.slots.now c.requires.made c.requires.join.some (live_slots c.difference.result c.args.places.made c.args.slots.now)
    (left_slots c.args.at.now c.args.places.live c.places_of-held.result c.args.places.made c.args.node c.args.slots.now c.requires.held c.places_of-held.ensures c.difference.result c.difference.ensures)

pub put_slot-requires-clause-slots : goal.put_slot-requires-clause-slots
put_slot-requires-clause-slots g c = c.requires.slots

pub put_slot-requires-clause-spare : goal.put_slot-requires-clause-spare
put_slot-requires-clause-spare g c = c.gather-count.auto.found ∙ c.requires.joined

pub returns-clause-board : goal.returns-clause-board
returns-clause-board g c = c.put_slot.ensures.board

pub returns-clause-made : goal.returns-clause-made
returns-clause-made g c = c.put_slot.ensures.made

pub returns-clause-step : goal.returns-clause-step
returns-clause-step g c =
    let is = gathered_with c.args.at.now c.args.places.live c.places_of-held.result c.args.places.made c.args.node c.args.slots.now c.requires.held c.places_of-held.ensures c.before-2.ensures c.gather-count.ensures.list c.before-3.ensures in
    record {
      slot = c.join_out-slot.result;
      appends = subst (λ (l : List Slot). AppendsJoin g.C.Cell.ring c.args.play.now.diagram.now.nodes c.args.node l c.args.work.now c.join_out-slot.new.self c.join_out-slot.result) is c.join_out-slot.ensures;
      slots = c.put_slot.ensures.live ∙ ap (λ (s : List Slot). s ++ c.join_out-slot.result ∷ []) (left_slots c.args.at.now c.args.places.live c.places_of-held.result c.args.places.made c.args.node c.args.slots.now c.requires.held c.places_of-held.ensures c.difference.result c.difference.ensures);
    }

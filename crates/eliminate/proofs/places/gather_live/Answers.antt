use Rattle.std.proofs.Common.{◌∙◌, take, refl}
use Rattle.node_sets.specs.declared.sets.TheConstants.{MOST_NODES}
use Rattle.node_sets.specs.Sets.{holds}
use Rattle.eliminate.proofs.Bounds.{front_holds, front_few, front_room, count_within, gathered}
use Rattle.eliminate.proofs.places.gather_live.Goals as goal

-- the slots made come first, and no live place is beyond them
pub before-requires : goal.before-requires
before-requires c = c.requires.made

pub gather-requires-clause-within : goal.gather-requires-clause-within
gather-requires-clause-within c = front_holds c.args.places.now.made c.args.slots.now c.before-2.result.now c.before-2.ensures c.requires.made c.args.places.now.live c.requires.within

pub gather-requires-clause-few : goal.gather-requires-clause-few
gather-requires-clause-few c = front_few c.args.places.now.made c.args.slots.now c.before-2.result.now c.before-2.ensures c.requires.made MOST_NODES c.requires.few

pub gather-requires-clause-room : goal.gather-requires-clause-room
gather-requires-clause-room c = front_room c.args.places.now.made c.args.slots.now c.before-2.result.now c.before-2.ensures c.requires.made c.args.found.now c.requires.room

pub returns-clause-list : goal.returns-clause-list
returns-clause-list c =
    let list = take c.gather.result c.gather.new.found in
    gathered (holds c.args.places.now.live) c.args.places.now.made c.args.slots.now c.before-2.result.now list list c.before-2.ensures c.gather.ensures.list refl

pub returns-clause-few : goal.returns-clause-few
returns-clause-few c = count_within c.args.places.now.made c.args.slots.now c.before-2.result.now c.before-2.ensures c.requires.made c.gather.new.found (c.gather.auto.found ∙ c.requires.room) c.gather.result c.gather.ensures.few

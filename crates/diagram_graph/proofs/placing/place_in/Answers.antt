use Rattle.std.proofs.Common.{arith}
use Rattle.diagram_graph.proofs.Placings.{in_within, ready_can, free_remains}
use Rattle.diagram_graph.proofs.Trails.{round_same}
use Rattle.diagram_graph.proofs.Rings.{cycle_of}
use Rattle.diagram_graph.proofs.placing.place_in.Goals as goal

pub place-requires-clause-needs : goal.place-requires-clause-needs
place-requires-clause-needs g c v e n = let l = in_within c.args.items.now e (c.requires.needs v e n) in let m = c.requires.items_len in omega arith

pub returns-in_ok-find_round-in-Some : goal.returns-in_ok-find_round-in-Some
returns-in_ok-find_round-in-Some g c =
    let items = c.args.items.now in
    let lists = g.N.Needs.lists c.args.needs.now in
    let order = c.in_ok-order.order.items in
    let same = c.in_ok-order.ensures.marks in
    cycle_of lists items _ c.requires.needs (record {
      placed = order;
      placing = c.in_ok-order.ensures.placing;
      stuck = λ v can. c.in_ok-order.ensures.stuck v ((ready_can lists items _ order same v).1 can);
      round = round_same _ _ lists (free_remains items _ order same) _ c.in_ok-find_round-in-Some.ensures;
    })

pub place-requires-clause-items_len : goal.place-requires-clause-items_len
place-requires-clause-items_len g c = c.requires.items_len

pub place-requires-clause-placed_len : goal.place-requires-clause-placed_len
place-requires-clause-placed_len g c = c.requires.placed_len

pub place-requires-clause-none : goal.place-requires-clause-none
place-requires-clause-none g c = c.requires.none

pub first_free-requires : goal.first_free-requires
first_free-requires g c = omega (arith, c.place.auto.placed, c.requires.placed_len, c.requires.items_len)

pub find_round-requires-clause-items_len : goal.find_round-requires-clause-items_len
find_round-requires-clause-items_len g c = c.requires.items_len

pub find_round-requires-clause-placed_len : goal.find_round-requires-clause-placed_len
find_round-requires-clause-placed_len g c = omega (arith, c.place.auto.placed, c.requires.placed_len)

pub find_round-requires-clause-needs : goal.find_round-requires-clause-needs
find_round-requires-clause-needs g c = c.requires.needs

pub find_round-requires-clause-start : goal.find_round-requires-clause-start
find_round-requires-clause-start g c = c.in-Some.ensures

pub find_round-requires-clause-stuck : goal.find_round-requires-clause-stuck
find_round-requires-clause-stuck g c = c.in_ok-order.ensures.stuck

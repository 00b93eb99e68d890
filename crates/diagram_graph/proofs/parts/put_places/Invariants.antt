use Rattle.std.proofs.Common.{◌≡◌, ◌++◌, map, take, drop, slice_index}
use Rattle.diagram_graph.proofs.parts.put_places.Given as goal

-- the numbers so far have their places over them
abbrev pub invariant-loop-i : goal.invariant-loop-i
invariant-loop-i l = l.numbers ≡ map (slice_index l.places) (take l.i l.fn.numbers) ++ drop l.i l.fn.numbers

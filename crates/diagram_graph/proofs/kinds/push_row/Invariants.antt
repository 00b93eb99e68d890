use Rattle.std.proofs.Common.{◌≡◌, ◌++◌, map, pos}
use Rattle.maid_model.specs.Profiles.{pure_row}
use Rattle.diagram_graph.proofs.kinds.push_row.Given as goal

-- the weights of the states so far
abbrev pub invariant-loop-state : goal.invariant-loop-state
invariant-loop-state l = l.cells.items ≡ l.fn.cells.items ++ map pos (pure_row l.state l.choice)

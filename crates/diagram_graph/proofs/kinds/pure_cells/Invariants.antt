use Rattle.std.proofs.Common.{◌≡◌, map, pos, take}
use Rattle.std.specs.List.{flat_map}
use Rattle.maid_model.specs.declared.answers.Row.{Row}
use Rattle.maid_model.specs.Profiles.{pure_row}
use Rattle.diagram_graph.proofs.kinds.pure_cells.Given as goal

-- the cells of the rows so far
abbrev pub invariant-loop-row : goal.invariant-loop-row
invariant-loop-row l = l.cells.items ≡ map pos (flat_map (pure_row l.states) (map (λ (r : Row). r.choice) (take l.row-index l.rows)))

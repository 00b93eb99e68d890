use Rattle.std.proofs.Common.{◌≡◌, flat_map, map, take}
use Rattle.maid_model.specs.Profiles.{pure_row}
use Rattle.maid_model.proofs.profiles.Rule.pure.Given as goal

-- the rows so far
abbrev pub invariant-loop-row : goal.invariant-loop-row
invariant-loop-row l = l.weights.items ≡ flat_map (pure_row l.states) (map (λ row. row.choice) (take l.row-index l.rows))

use Rattle.std.proofs.Common.{◌≡◌, flat_map, take}
use Rattle.maid_model.specs.Profiles.{pure_row}
use Rattle.pure_search.proofs.following.rule_taking.Given as goal

-- the weights of the rows so far
abbrev pub invariant-loop-choice : goal.invariant-loop-choice
invariant-loop-choice l = l.weights.items ≡ flat_map (pure_row l.states) (take l.choice-index l.choices)

use Rattle.std.proofs.Common.{◌≡◌, ◌++◌}
use Rattle.maid_model.specs.Profiles.{pure_row}
use Rattle.pure_search.proofs.following.push_row.Given as goal

-- the weights of the states so far
abbrev pub invariant-loop-state : goal.invariant-loop-state
invariant-loop-state l = l.weights.items ≡ l.fn.weights.items ++ pure_row l.state l.choice

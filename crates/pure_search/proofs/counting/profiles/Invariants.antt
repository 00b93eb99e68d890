use Rattle.std.proofs.Common.{◌≡◌, length, take}
use Rattle.maid_model.specs.Bounds.{stopped}
use Rattle.maid_model.specs.Worlds.{worlds}
use Rattle.pure_search.proofs.counting.profiles.Given as goal

-- the lists of choices in the rows so far
abbrev pub invariant-loop-choices : goal.invariant-loop-choices
invariant-loop-choices l = l.count ≡ stopped (length (worlds (take l.choices-index l.counts)))

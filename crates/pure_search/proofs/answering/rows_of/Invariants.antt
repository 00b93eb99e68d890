use Rattle.std.proofs.Common.{◌≡◌, map, take}
use Rattle.pure_search.specs.Games.{unpriced}
use Rattle.pure_search.proofs.answering.rows_of.Given as goal

-- the rows so far
abbrev pub invariant-loop-choice : goal.invariant-loop-choice
invariant-loop-choice l = l.rows.items ≡ map unpriced (take l.choice-index l.choices)

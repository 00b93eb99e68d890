use Rattle.pure_search.specs.Games.{AreGreatest}
use Rattle.pure_search.proofs.marks.greatest_entries.Given as goal

-- the greatest of the entries so far
abbrev pub invariant-loop-place : goal.invariant-loop-place
invariant-loop-place l = AreGreatest l.keys l.gains l.place l.best.items

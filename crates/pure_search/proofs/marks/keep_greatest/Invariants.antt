use Rattle.pure_search.proofs.Entries.{KeptSoFar}
use Rattle.pure_search.proofs.marks.keep_greatest.Given as goal

-- the marks so far
abbrev pub invariant-loop-place : goal.invariant-loop-place
invariant-loop-place l = KeptSoFar l.keys l.gains l.fn.marks l.marks l.place

use Rattle.maid_model.proofs.Next.{NextSoFar}
use Rattle.pure_search.proofs.odometer.next_choices.Given as goal

-- the places from this one on are set back
abbrev pub invariant-loop-place : goal.invariant-loop-place
invariant-loop-place l = NextSoFar l.counts l.fn.choices l.choices l.place

abbrev pub decreases-loop-place : goal.decreases-loop-place
decreases-loop-place l = l.place

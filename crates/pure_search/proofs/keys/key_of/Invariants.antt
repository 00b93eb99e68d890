use Rattle.std.proofs.Common.{◌≡◌, drop}
use Rattle.pure_search.specs.Games.{key_from}
use Rattle.pure_search.proofs.keys.key_of.Given as goal

-- the digits so far and those still to come are all
abbrev pub invariant-loop-place : goal.invariant-loop-place
invariant-loop-place l = key_from l.agent l.key (drop l.place l.counts) (drop l.place l.owners) (drop l.place l.choices) ≡ key_from l.agent 0 l.counts l.owners l.choices

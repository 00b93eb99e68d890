use Rattle.std.proofs.Common.{◌≡◌, take}
use Rattle.reach_laws.specs.Equilibria.{choice_counts}
use Rattle.pure_search.proofs.games.choice_counts.Given as goal

-- the counts so far
abbrev pub invariant-loop-v : goal.invariant-loop-v
invariant-loop-v l = l.list.items ≡ choice_counts l.diagram.nodes (take l.v-index l.decisions)

use Rattle.std.proofs.Common.{◌≡◌, take}
use Rattle.reach_laws.specs.Equilibria.{choice_owners}
use Rattle.pure_search.proofs.games.choice_owners.Given as goal

-- the owners so far
abbrev pub invariant-loop-v : goal.invariant-loop-v
invariant-loop-v l = l.list.items ≡ choice_owners l.diagram.nodes (take l.v-index l.decisions)

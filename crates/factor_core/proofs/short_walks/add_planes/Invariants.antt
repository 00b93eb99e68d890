use Rattle.std.proofs.Common.{[], ◌∷◌}
use Rattle.factor_core.proofs.Walking.{HasReached}
use Rattle.factor_core.proofs.short_walks.add_planes.Given as goal

abbrev pub invariant-loop : goal.invariant-loop
invariant-loop g l = HasReached g.C.Cell.ring l.cells l.outer (l.axis ∷ (l.inner ∷ [])) l.strides l.places l.fn.out l.fn.at l.counter l.here l.place l.out

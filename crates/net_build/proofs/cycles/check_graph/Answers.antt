-- The cycle that is found is a ring of nodes, the first of which needs the next.
use Rattle.std.proofs.Common.{refl, arith}
use Rattle.diagram_graph.specs.Cycles.{lists_in}
use Rattle.net_build.specs.Linking.{graph_steps}
use Rattle.net_build.proofs.OutOfMemory.{out_of_memory}
use Rattle.net_build.proofs.cycles.check_graph.Goals as goal

pub first_cycle-requires : goal.first_cycle-requires
first_cycle-requires c = c.requires.known

pub returns-in_err-cycle : goal.returns-in_err-cycle
returns-in_err-cycle c = out_of_memory (graph_steps c.args.heads.now (lists_in c.args.parents.now)) _ c.from_residual.ensures

pub cycle_fault-requires-clause-some : goal.cycle_fault-requires-clause-some
cycle_fault-requires-clause-some c = (rw c.in-Some.is at c.in_ok-cycle.ensures.ring).some

pub returns-in-Some : goal.returns-in-Some
returns-in-Some c = rw c.cycle_fault.ensures (c.in-Some.cycle.items, rw c.in-Some.is at c.in_ok-cycle.ensures.cycle, refl)

pub returns-in-None : goal.returns-in-None
returns-in-None c = rw c.in-None.is at c.in_ok-cycle.ensures.cycle

pub cycle_fault-requires-clause-within : goal.cycle_fault-requires-clause-within
cycle_fault-requires-clause-within c = omega (arith, c.requires.len, c.requires.known _ _ (rw c.in-Some.is at c.in_ok-cycle.ensures.ring).closes)

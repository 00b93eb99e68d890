use Rattle.std.proofs.Common.{◌-◌, length}
use Rattle.std.specs.List.{range_with_len}
use Rattle.net_build.specs.Linking.{missing_at, missing_steps, borrowed_trees}
use Rattle.first_fault.specs.Passes.{each}
use Rattle.first_fault.proofs.Leading.{Leads}
use Rattle.net_build.proofs.potentials.check_tables.Given as goal

-- what the nodes still to come find, the whole pass finds
abbrev pub invariant-loop-node : goal.invariant-loop-node
invariant-loop-node l = Leads (each (missing_at l.heads (borrowed_trees l.potentials)) (range_with_len l.node (length l.heads - l.node))) (missing_steps l.heads (borrowed_trees l.potentials))

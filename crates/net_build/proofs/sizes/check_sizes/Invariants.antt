use Rattle.std.proofs.Common.{◌≡◌, ℕ, ◌-◌, ◌<◌, ◌≤◌, length}
use Rattle.std.specs.List.{range_with_len}
use Rattle.net_build.specs.Linking.{rules_before, size_steps_at, size_steps}
use Rattle.net_build.specs.Lists.{numbers_of_lists}
use Rattle.first_fault.specs.Passes.{each}
use Rattle.net_build.specs.Stages.{cells_of_head}
use Rattle.first_fault.proofs.Leading.{Leads}
use Rattle.net_build.proofs.sizes.check_sizes.Given as goal

-- the limits hold of the nodes so far, and what those still to come find, the whole pass finds
abbrev pub invariant-loop-node : goal.invariant-loop-node
invariant-loop-node l = record {
  sum : l.rules ≡ rules_before l.heads (numbers_of_lists l.parents) l.node;
  few : l.rules ≤ 262144;
  cells : (v : ℕ) → v < l.node → cells_of_head l.heads (numbers_of_lists l.parents) v ≤ 65536;
  lead : Leads (each (size_steps_at l.heads (numbers_of_lists l.parents)) (range_with_len l.node (length l.heads - l.node))) (size_steps l.heads (numbers_of_lists l.parents));
}

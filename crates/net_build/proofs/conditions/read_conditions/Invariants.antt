use Rattle.std.proofs.Common.{◌≡◌, map, take}
use Rattle.net_build.specs.Linking.{node_named, condition_steps, conditions_steps}
use Rattle.net_build.proofs.LinkLemmas.{Behind}
use Rattle.first_fault.proofs.Leading.{Leads}
use Rattle.net_build.proofs.conditions.read_conditions.Given as goal

-- the nodes of the names so far, and what the names still to come find, the whole pass finds
abbrev pub invariant-loop-place : goal.invariant-loop-place
invariant-loop-place l = record {
  nodes : l.list.items ≡ map (node_named l.text l.names) (take l.place l.conditions);
  lead : Leads (Behind (condition_steps l.text l.names l.heads) l.conditions l.place) (conditions_steps l.text l.names l.heads l.conditions);
}

use Rattle.std.proofs.Common.{◌≡◌, [], map, take}
use Rattle.maid_model.specs.Names.{list_of}
use Rattle.first_fault.specs.Passes.{each_after}
use Rattle.first_fault.proofs.Leading.{Leads}
use Rattle.net_build.specs.Blocks.{place_among, with_sights}
use Rattle.net_build.specs.Table.{sight_row}
use Rattle.net_build.proofs.LinkLemmas.{Behind}
use Rattle.net_build.proofs.owners.number_owners.Given as goal

-- the agents with the names so far, their numbers, and what the names still to come find, the whole
-- pass finds
abbrev pub invariant-loop-name : goal.invariant-loop-name
invariant-loop-name l = record {
  agents : list_of l.agents.items ≡ with_sights (list_of l.initial.agents.items) (take l.name-index (list_of l.names));
  numbers : l.numbers.items ≡ map (place_among (list_of l.agents.items)) (take l.name-index (list_of l.names));
  lead : Leads (Behind (sight_row (list_of l.initial.agents.items) l.at) (list_of l.names) l.name-index) (each_after (sight_row (list_of l.initial.agents.items) l.at) [] (list_of l.names));
}

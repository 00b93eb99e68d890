use Rattle.std.proofs.Common.{◌≡◌, [], map, take}
use Rattle.net_lexer.specs.Token.{text_value}
use Rattle.first_fault.specs.Passes.{each_after}
use Rattle.first_fault.proofs.Leading.{Leads}
use Rattle.net_build.specs.Table.{repeated_agent_row}
use Rattle.net_build.proofs.LinkLemmas.{Behind}
use Rattle.net_build.proofs.owner_names.see_agents.Given as goal

-- the names so far have been seen, and what those still to come find, the whole pass finds
abbrev pub invariant-loop-place : goal.invariant-loop-place
invariant-loop-place l = record {
  seen : l.seen ≡ map (text_value l.text) (take l.place l.agents);
  lead : Leads (Behind (repeated_agent_row l.text) l.agents l.place) (each_after (repeated_agent_row l.text) [] l.agents);
}

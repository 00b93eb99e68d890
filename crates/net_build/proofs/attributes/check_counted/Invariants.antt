use Rattle.std.proofs.Common.{[], filter}
use Rattle.net_build.specs.Blocks.{is_counted, word_of}
use Rattle.first_fault.specs.Passes.{each_after}
use Rattle.net_build.specs.Table.{repeated_row}
use Rattle.first_fault.proofs.Leading.{Leads, AfterPass}
use Rattle.net_build.proofs.attributes.check_counted.Given as goal

-- what the attributes still to come find, the whole pass finds
abbrev pub invariant-loop-place : goal.invariant-loop-place
invariant-loop-place l = Leads (AfterPass (repeated_row l.text) (λ a. is_counted l.kind (word_of l.text a)) l.attributes l.place) (each_after (repeated_row l.text) [] (filter (λ a. is_counted l.kind (word_of l.text a)) l.attributes))

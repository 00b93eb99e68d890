use Rattle.first_fault.specs.Passes.{each}
use Rattle.net_build.specs.Table.{number_row}
use Rattle.first_fault.proofs.Leading.{Leads}
use Rattle.first_fault.proofs.Items.{EachFrom}
use Rattle.net_build.proofs.numbers.check_numbers.Given as goal

abbrev pub invariant-loop-token : goal.invariant-loop-token
invariant-loop-token l = Leads (EachFrom number_row l.tokens l.token-index) (each number_row l.tokens)

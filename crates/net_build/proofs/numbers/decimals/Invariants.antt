use Rattle.std.proofs.Common.{take, map}
use Rattle.net_lexer.specs.Token.{token_bytes}
use Rattle.first_fault.specs.Passes.{each}
use Rattle.net_build.specs.Scaling.{AreDecimals}
use Rattle.net_build.specs.Table.{length_row}
use Rattle.first_fault.proofs.Leading.{Leads}
use Rattle.first_fault.proofs.Items.{EachFrom}
use Rattle.net_build.proofs.numbers.decimals.Given as goal

-- the decimals of the numbers so far, and the rows of those to come
abbrev pub invariant-loop-token : goal.invariant-loop-token
invariant-loop-token l = record {
  lead : Leads (EachFrom (length_row l.text) l.tokens l.token-index) (each (length_row l.text) l.tokens);
  are : AreDecimals (map (token_bytes l.text) (take l.token-index l.tokens)) l.decimals.items;
}

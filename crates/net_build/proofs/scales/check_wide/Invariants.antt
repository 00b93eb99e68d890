use Rattle.std.proofs.Common.{ℕ, List, map}
use Rattle.net_lexer.specs.Token.{token_bytes}
use Rattle.first_fault.specs.Passes.{each}
use Rattle.net_build.specs.Scaling.{AreDecimals}
use Rattle.net_build.specs.Table.{wide_row}
use Rattle.first_fault.proofs.Leading.{Leads}
use Rattle.first_fault.proofs.Items.{EachFrom}
use Rattle.net_build.proofs.scales.check_wide.Given as goal

abbrev pub invariant-loop-place : goal.invariant-loop-place
invariant-loop-place l = (text : List ℕ) → AreDecimals (map (token_bytes text) l.tokens) l.decimals → Leads (EachFrom (wide_row text l.scale) l.tokens l.place) (each (wide_row text l.scale) l.tokens)

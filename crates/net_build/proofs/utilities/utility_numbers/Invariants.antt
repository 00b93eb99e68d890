use Rattle.std.proofs.Common.{◌≡◌, take}
use Rattle.net_build.specs.TableParts.{block_values}
use Rattle.net_build.proofs.utilities.utility_numbers.Given as goal

-- the numbers of the blocks so far
abbrev pub invariant-loop-block : goal.invariant-loop-block
invariant-loop-block l = l.tokens.items ≡ block_values l.text l.nodes (take l.block-index l.syntax)

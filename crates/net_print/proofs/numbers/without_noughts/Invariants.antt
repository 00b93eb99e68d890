use Rattle.std.proofs.Common.{◌≡◌, ◌≤◌}
use Rattle.net_print.specs.Printed.{size_text}
use Rattle.net_print.proofs.numbers.without_noughts.Given as goal

-- the same text, with no more decimals
abbrev pub invariant-loop-decimals : goal.invariant-loop-decimals
invariant-loop-decimals l = (size_text l.decimals l.size ≡ size_text l.fn.decimals l.fn.size) × (l.decimals ≤ l.fn.decimals)

abbrev pub decreases-loop-decimals : goal.decreases-loop-decimals
decreases-loop-decimals l = l.decimals

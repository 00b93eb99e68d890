use Rattle.std.proofs.Common.{◌≡◌, ◌++◌, replicate}
use Rattle.net_print.proofs.numbers.push_noughts.Given as goal

-- the noughts so far
abbrev pub invariant-loop-place : goal.invariant-loop-place
invariant-loop-place l = l.out.items ≡ l.fn.out.items ++ replicate l._place 48

use Rattle.std.proofs.Common.{◌≡◌, ◌++◌, pos, map, take}
use Rattle.weight_scale.proofs.rows.push_whole.Given as goal

abbrev pub invariant-loop-number : goal.invariant-loop-number
invariant-loop-number l = l.weights.items ≡ l.fn.weights.items ++ map (λ x. pos x) (take l.number-index l.row)

use Rattle.std.proofs.Common.{◌≡◌, ◌<◌, ◌+◌}
use Rattle.whole_num.specs.Fractions.{fraction_order}
use Rattle.whole_num.proofs.comparing.compare_parts.Given as goal

abbrev pub invariant-parts : goal.invariant-parts
invariant-parts l = (0 < l.b) × (0 < l.d) × (fraction_order l.a l.b l.c l.d ≡ fraction_order l.fn.a l.fn.b l.fn.c l.fn.d)

abbrev pub decreases-parts : goal.decreases-parts
decreases-parts l = l.b + l.d

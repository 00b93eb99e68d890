use Rattle.std.proofs.Common.{◌<◌, ◌↔◌, ℕ}
use Rattle.node_sets.specs.Sets.{IsIn}
use Rattle.eliminate.proofs.places.numbers_below.Given as goal

abbrev pub invariant-loop-k : goal.invariant-loop-k
invariant-loop-k l = (x : ℕ) → IsIn l.set x ↔ x < l.k

use Rattle.std.proofs.Common.{◌<◌, ℕ}
use Rattle.node_sets.specs.Sets.{IsIn}
use Rattle.size_precheck.specs.Classes.{class_at}
use Rattle.size_precheck.proofs.classes.find_next.Given as goal

-- the classes so far have no node
abbrev pub invariant-loop-class : goal.invariant-loop-class
invariant-loop-class l = (k : ℕ) → k < l.class-index → (w : ℕ) → IsIn (class_at l.classes k).nodes w → ⊥

use Rattle.std.proofs.Common.{◌-◌, ◌<◌, ◌≤◌, ℕ, length}
use Rattle.size_precheck.specs.Classes.{class_at}
use Rattle.size_precheck.proofs.classes.find_place.Given as goal

-- the classes so far have fewer cells
abbrev pub invariant-classes : goal.invariant-classes
invariant-classes l = record {
  end : l.place ≤ length l.classes;
  before : (i : ℕ) → i < l.place → (class_at l.classes i).cells < l.cells;
}

abbrev pub decreases-classes : goal.decreases-classes
decreases-classes l = length l.classes - l.place

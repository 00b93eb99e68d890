-- Steps along arcs, or back.
use Rattle.std.specs.Prelude.{◌↔◌, ℕ, List}
use Rattle.node_sets.specs.declared.paths.Way.{Way}
use Rattle.node_sets.specs.declared.paths.Way.TheVariants.{Down, Up}
use Rattle.node_sets.specs.declared.sets.NodeSet.{NodeSet}
use Rattle.node_sets.specs.Sets.{IsIn}
use Rattle.node_sets.specs.Paths.{ParentArc, LeadsFrom}

-- one arc along, or one arc back
abbrev pub Step : (ℕ → List ℕ) → Way → ℕ → ℕ → Type 0
Step parents Down a b = ParentArc parents a b
Step parents Up a b = ParentArc parents b a

-- one step leads to v from a node of the set
abbrev pub StepsFrom : (ℕ → List ℕ) → Way → (ℕ → Type 0) → ℕ → Type 0
StepsFrom parents way Set v = (u : ℕ) × Set u × Step parents way u v

-- the later set has exactly the nodes to which steps lead from the earlier one
abbrev pub AreReachedAlong : (ℕ → List ℕ) → Way → NodeSet → NodeSet → Type 0
AreReachedAlong parents way before after =
    (v : ℕ) → IsIn after v ↔ LeadsFrom (Step parents way) (IsIn before) v

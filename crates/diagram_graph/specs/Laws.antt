-- Laws of the cycles of parents.
use Rattle.std.specs.Prelude.{◌≡◌, ◌⊎◌, ℕ, ◌<◌, List, length}
use Rattle.maid_model.specs.Graph.{IsAcyclic}
use Rattle.diagram_graph.specs.Cycles.{ListedArc, IsParentCycle}

-- where lists of parents have a parent cycle, some node descends from itself
abbrev pub CycleLeadsBack : Type 0
CycleLeadsBack = (lists : List (List ℕ)) (cycle : List ℕ) → IsParentCycle lists cycle
    → IsAcyclic (ListedArc lists) → ⊥

-- lists of parents have one parent cycle at most
abbrev pub OneCycle : Type 0
OneCycle = (lists : List (List ℕ)) (cycle other : List ℕ) → IsParentCycle lists cycle
    → IsParentCycle lists other → cycle ≡ other

-- and where each parent has a list, they have no cycle or a parent cycle
abbrev pub CycleOrNone : Type 0
CycleOrNone = (lists : List (List ℕ)) → ((u v : ℕ) → ListedArc lists u v → u < length lists)
    → IsAcyclic (ListedArc lists) ⊎ ((cycle : List ℕ) × IsParentCycle lists cycle)

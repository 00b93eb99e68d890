-- The first cycle of lists of parents.
use Rattle.std.specs.Prelude.{ℕ, ◌<◌, List, map, Vec, length, Option, IfSome, MatchOption}
use Rattle.std.specs.declared.alloc.Global.{Global}
use Rattle.diagram_graph.specs.Needs.{NeedsItem}
use Rattle.diagram_graph.specs.Rounds.{IsFirstCycle, IsRingOfNeeds}
use Rattle.maid_model.specs.Graph.{Arc, IsAcyclic}
use Rattle.maid_model.specs.Placing.{IsOrder}
use Rattle.maid_model.specs.Views.{NodeView}

-- all nodes, each time the first in text whose parents all stand before it
abbrev pub IsNodeOrder : List NodeView → List ℕ → Type 0
IsNodeOrder nodes order = IsOrder (λ v. v < length nodes) (λ v p. Arc nodes p v) order

-- the lists as plain lists
abbrev pub lists_in : List (Vec ℕ Global) → List (List ℕ)
lists_in rows = map (λ row. row.items) rows

-- an arc leads from u to v: u stands in v's list
abbrev pub ListedArc : List (List ℕ) → ℕ → ℕ → Type 0
ListedArc lists u v = NeedsItem lists v u

-- Nodes without remaining parents are taken away until none is left to take; the cycle starts at
-- the first remaining node, goes each time to its first remaining parent, and is the list from the
-- first visit of the node that comes twice.
abbrev pub IsParentCycle : List (List ℕ) → List ℕ → Type 0
IsParentCycle lists cycle = IsFirstCycle (λ v. v < length lists) lists cycle

-- a cycle of lists of parents, and none only where their graph has none
abbrev pub TellsCycle : List (List ℕ) → Option (Vec ℕ Global) → Type 0
TellsCycle lists found =
    MatchOption found (IsAcyclic (ListedArc lists)) (λ cycle. IsParentCycle lists cycle.items)

-- a cycle that is found is a ring: each of its nodes has the next one in its list
abbrev pub IsRingOfParents : List (List ℕ) → Option (Vec ℕ Global) → Type 0
IsRingOfParents lists found =
    IfSome found (λ cycle. IsRingOfNeeds (NeedsItem lists) cycle.items)

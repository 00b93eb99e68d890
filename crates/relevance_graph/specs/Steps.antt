-- What the steps of finding a relevance graph promise one another. Only private functions, the
-- invariant of private fields and what is kept of a search cite this file.
use Rattle.std.specs.Prelude.{◌≡◌, ◌↔◌, ◌<◌, ℕ, List, length, Contains}
use Rattle.maid_model.specs.Views.{NodeView}
use Rattle.maid_model.specs.Nodes.{IsDecision}
use Rattle.maid_model.specs.Graph.{Arc}
use Rattle.maid_model.specs.Relevance.{IsLive, IsInFamily, IsGoal, ReliesOn}
use Rattle.maid_model.specs.Walks.{IsReachedFromParent}
use Rattle.node_sets.specs.Sets.{IsIn}
use Rattle.bayes_ball.specs.declared.marks.Marks.{Marks}
use Rattle.diagram_graph.specs.Needs.{needs_of}
use Rattle.relevance_graph.specs.Views.{IsRising}

-- a decision of two states or more
abbrev pub IsLiveDecision : List NodeView → ℕ → Type 0
IsLiveDecision nodes v = IsDecision nodes v × IsLive nodes v

-- given d and its parents an active walk leads from an extra parent of e to a goal of d
abbrev pub LeadsToGoal : List NodeView → ℕ → ℕ → Type 0
LeadsToGoal nodes d e = (goal : ℕ) × IsGoal nodes d goal
    × IsReachedFromParent (Arc nodes) (IsLive nodes) (IsInFamily (Arc nodes) d) (length nodes) e
    goal

-- the marks tell from which nodes' extra parents an active walk leads to a goal of d
abbrev pub IsSearchedFor : List NodeView → ℕ → Marks → Type 0
IsSearchedFor nodes d marks =
    (e : ℕ) → e < length nodes → IsIn marks.parents_reached e ↔ LeadsToGoal nodes d e

-- the numbers below n with the property P, in rising order
pub record ListsBelow (P : ℕ → Type 0) (n : ℕ) (list : List ℕ) : Type 0 where
  pub members : (v : ℕ) → Contains list v ↔ (P v × (v < n))
  pub rising : IsRising list

-- the decisions on which d relies, in text order
abbrev pub ListsReliance : List NodeView → ℕ → List ℕ → Type 0
ListsReliance nodes d list = ListsBelow (ReliesOn nodes d) (length nodes) list

-- for each of the first n nodes those that it relies on, in text order
pub record TellsReliance (nodes : List NodeView) (n : ℕ) (lists : List (List ℕ)) : Type 0 where
  pub count : length lists ≡ n
  pub each : (d : ℕ) → d < n → ListsReliance nodes d (needs_of lists d)

-- for each node those that it relies on
abbrev pub TellsAllReliance : List NodeView → List (List ℕ) → Type 0
TellsAllReliance nodes lists = TellsReliance nodes (length nodes) lists

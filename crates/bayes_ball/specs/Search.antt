-- What a search is asked, and what its marks tell.
use Rattle.std.specs.Prelude.{ℕ, List, length, ◌≡◌, ◌<◌, ◌↔◌}
use Rattle.node_sets.specs.declared.sets.NodeSet.{NodeSet}
use Rattle.node_sets.specs.Sets.{IsIn}
use Rattle.maid_model.specs.Views.{NodeView}
use Rattle.maid_model.specs.Graph.{Arc}
use Rattle.maid_model.specs.Relevance.{IsLive, IsInFamily, IsGoal}
use Rattle.maid_model.specs.Walks.{IsReached, IsReachedFromParent}
use Rattle.bayes_ball.specs.declared.marks.Marks.{Marks}
use Rattle.bayes_ball.specs.declared.search.Start.{Start}
use Rattle.bayes_ball.specs.declared.search.Start.TheVariants.{Node, ParentOf}

-- the start is live, and a node to start from is not given
abbrev pub CanStart : List NodeView → NodeSet → Start → Type 0
CanStart nodes given (Node x) = IsLive nodes x × (IsIn given x → ⊥)
CanStart nodes given (ParentOf x) = IsLive nodes x

-- a search may start at each node of the set
abbrev pub CanStartAtAll : List NodeView → NodeSet → NodeSet → Type 0
CanStartAtAll nodes given starts = (u : ℕ) → IsIn starts u → CanStart nodes given (Node u)

-- an active walk leads to v from the start; an extra parent has the first number that no node has
abbrev pub IsReachedBy : List NodeView → NodeSet → Start → ℕ → Type 0
IsReachedBy nodes given (Node x) v = IsReached (Arc nodes) (IsLive nodes) (IsIn given) x v
IsReachedBy nodes given (ParentOf x) v =
    IsReachedFromParent (Arc nodes) (IsLive nodes) (IsIn given) (length nodes) x v

-- the nodes to which active walks lead from the start
abbrev pub AreReachedFrom : List NodeView → NodeSet → Start → NodeSet → Type 0
AreReachedFrom nodes given start marked =
    (v : ℕ) → v < length nodes → IsIn marked v ↔ IsReachedBy nodes given start v

-- where the start is a node: the nodes of which an extra parent has an active walk to it
abbrev pub AreParentsReachedFrom : List NodeView → NodeSet → Start → NodeSet → Type 0
AreParentsReachedFrom nodes given start marked = (u v : ℕ) → start ≡ Node u → v < length nodes
    → IsIn marked v ↔ IsReachedBy nodes given (ParentOf v) u

-- what the marks of a search from the start tell
pub record TellsReach (nodes : List NodeView) (given : NodeSet) (start : Start) (marks : Marks) :
    Type 0 where
  pub reached : AreReachedFrom nodes given start marks.reached
  pub parents : AreParentsReachedFrom nodes given start marks.parents_reached

-- the nodes to which active walks lead from some of the starts
abbrev pub AreReachedFromAny : List NodeView → NodeSet → NodeSet → NodeSet → Type 0
AreReachedFromAny nodes given starts marked = (v : ℕ) → v < length nodes
    → IsIn marked v ↔ ((u : ℕ) × IsIn starts u × IsReachedBy nodes given (Node u) v)

-- the nodes of which an extra parent has an active walk to some of the starts
abbrev pub AreParentsReachedFromAny : List NodeView → NodeSet → NodeSet → NodeSet → Type 0
AreParentsReachedFromAny nodes given starts marked = (v : ℕ) → v < length nodes
    → IsIn marked v ↔ ((u : ℕ) × IsIn starts u × IsReachedBy nodes given (ParentOf v) u)

-- what the marks of a search from some of the starts tell
pub record TellsReachFromAny (nodes : List NodeView) (given starts : NodeSet) (marks : Marks) :
    Type 0 where
  pub reached : AreReachedFromAny nodes given starts marks.reached
  pub parents : AreParentsReachedFromAny nodes given starts marks.parents_reached

-- given d and its parents, an active walk leads from v to a goal of d
abbrev pub ReachesGoal : List NodeView → ℕ → ℕ → Type 0
ReachesGoal nodes d v = (goal : ℕ) × IsGoal nodes d goal
    × IsReached (Arc nodes) (IsLive nodes) (IsInFamily (Arc nodes) d) v goal

-- so it is with each node of the set
abbrev pub AllReachGoals : List NodeView → ℕ → NodeSet → Type 0
AllReachGoals nodes d set = (v : ℕ) → IsIn set v → ReachesGoal nodes d v

-- what the marks of a search from the goals of d tell: from which nodes, and from which nodes'
-- extra parents, an active walk leads to a goal of d given d and its parents
pub record TellsWalksToGoals (nodes : List NodeView) (d : ℕ) (marks : Marks) : Type 0 where
  pub reached : (v : ℕ) → v < length nodes → IsIn marks.reached v ↔ ReachesGoal nodes d v
  pub parents : (v : ℕ) → v < length nodes
      → IsIn marks.parents_reached v ↔ ((goal : ℕ) × IsGoal nodes d goal
      × IsReachedFromParent (Arc nodes) (IsLive nodes) (IsInFamily (Arc nodes) d) (length nodes) v
      goal)

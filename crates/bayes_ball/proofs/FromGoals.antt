-- What a search from the goals of a decision finds.
use Rattle.std.proofs.Common.{◌≡◌, ℕ, List, [], ◌∷◌, length, ◌↔◌, inl, inr, subst}
use Rattle.maid_model.specs.declared.diagrams.Kind.TheVariants.{Utility}
use Rattle.maid_model.specs.Views.{NodeView}
use Rattle.maid_model.specs.Nodes.{IsDecision, node_at}
use Rattle.maid_model.specs.Graph.{Arc, IsGraph}
use Rattle.maid_model.specs.Relevance.{IsLive, IsInFamily, IsGoal}
use Rattle.maid_model.specs.Walks.{IsActive, IsReached, WithArc, WithNode}
use Rattle.node_sets.specs.declared.sets.NodeSet.{NodeSet}
use Rattle.node_sets.specs.Sets.{IsIn}
use Rattle.bayes_ball.specs.declared.marks.Marks.{Marks}
use Rattle.bayes_ball.specs.Search.{ReachesGoal, TellsReachFromAny, TellsWalksToGoals}
use Rattle.bayes_ball.proofs.Searching.{same_fact}
use Rattle.bayes_ball.proofs.Turning.{reached_turn}

-- active walks given one set of nodes are active walks given any other with the same members

active_same : (Arc : ℕ → ℕ → Type 0) (Live P Q : ℕ → Type 0) → ((x : ℕ) → P x ↔ Q x) → (walk : List ℕ) → IsActive Arc Live P walk → IsActive Arc Live Q walk
active_same Arc Live P Q f [] h = h
active_same Arc Live P Q f (x ∷ []) h = h
active_same Arc Live P Q f (x ∷ (y ∷ [])) h = h
active_same Arc Live P Q f (x ∷ (y ∷ (z ∷ rest))) h =
    (h.0, h.1, ((λ m. (f y).0 (h.2.0 m)), (λ q. h.2.1 ((f y).1 q))), active_same Arc Live P Q f (y ∷ (z ∷ rest)) h.3)

reached_same : (Arc : ℕ → ℕ → Type 0) (Live P Q : ℕ → Type 0) → ((x : ℕ) → P x ↔ Q x) → (from to : ℕ) → IsReached Arc Live P from to → IsReached Arc Live Q from to
reached_same Arc Live P Q f from to h = record { rest = h.rest; active = active_same Arc Live P Q f (from ∷ h.rest) h.active; ends = h.ends }

-- a goal is neither the decision nor one of its parents
pub goal_free : (nodes : List NodeView) (d u : ℕ) → IsGraph nodes → IsDecision nodes d → IsGoal nodes d u → IsInFamily (Arc nodes) d u → ⊥
goal_free nodes d u graph decision goal (inl e) = let k : (node_at nodes d).kind ≡ Utility = subst (λ x. (node_at nodes x).kind ≡ Utility) e goal.kind in let m = decision.kind in cc
goal_free nodes d u graph decision goal (inr arc) = graph.no_utility_parent u d arc goal.kind

pub goal_live : (nodes : List NodeView) (d u : ℕ) → IsGoal nodes d u → IsLive nodes u
goal_live nodes d u goal = record { within = goal.within; states = inl goal.kind }

-- walks from the goals to v, given the family, are walks from v to a goal
pub walks_to_goals : (nodes : List NodeView) (d : ℕ) (given : NodeSet) (Start : ℕ → Type 0) → ((v : ℕ) → Start v ↔ IsGoal nodes d v) → ((v : ℕ) → IsIn given v ↔ IsInFamily (Arc nodes) d v) →
    (v : ℕ) → ((u : ℕ) × Start u × IsReached (Arc nodes) (IsLive nodes) (IsIn given) u v) ↔ ReachesGoal nodes d v
walks_to_goals nodes d given Start goals fixed v = (
  (λ h. (h.0, (goals h.0).0 h.1, reached_same (Arc nodes) (IsLive nodes) (IsIn given) (IsInFamily (Arc nodes) d) fixed v h.0 (turn h.0 v h.2))),
  (λ h. (h.0, (goals h.0).1 h.1, turn v h.0 (reached_same (Arc nodes) (IsLive nodes) (IsInFamily (Arc nodes) d) (IsIn given) (λ x. ((fixed x).1, (fixed x).0)) v h.0 h.2))),
)
  where
    turn : (from to : ℕ) → IsReached (Arc nodes) (IsLive nodes) (IsIn given) from to → IsReached (Arc nodes) (IsLive nodes) (IsIn given) to from
    turn = reached_turn (Arc nodes) (IsLive nodes) (IsIn given)

-- a search from all goals, given the family, tells which walks lead to a goal
pub search_tells : (nodes : List NodeView) (d : ℕ) (starts given : NodeSet) (marks : Marks) → ((v : ℕ) → IsIn starts v ↔ IsGoal nodes d v) → ((v : ℕ) → IsIn given v ↔ IsInFamily (Arc nodes) d v) →
    TellsReachFromAny nodes given starts marks → TellsWalksToGoals nodes d marks
search_tells nodes d starts given marks goals fixed search = record {
  reached = λ v within. same_fact (search.reached v within) (walks_to_goals nodes d given (IsIn starts) goals fixed v);
  parents = λ v within.
      let told = search.parents v within in
      let A = WithArc (Arc nodes) (length nodes) v in
      let L = WithNode (IsLive nodes) (length nodes) in (
        (λ m. let h = told.0 m in (h.0, (goals h.0).0 h.1, reached_same A L (IsIn given) (IsInFamily (Arc nodes) d) fixed (length nodes) h.0 h.2)),
        (λ h. told.1 (h.0, (goals h.0).1 h.1, reached_same A L (IsInFamily (Arc nodes) d) (IsIn given) (λ x. ((fixed x).1, (fixed x).0)) (length nodes) h.0 h.2)),
      );
}

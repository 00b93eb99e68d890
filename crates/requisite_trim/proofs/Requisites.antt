-- What a search from the goals of a decision tells of its parents.
use Rattle.std.proofs.Common.{◌≢◌, ◌<◌, ℕ, List, length, inl, inr}
use Rattle.std.specs.Prelude.{◌↔◌}
use Rattle.maid_model.specs.Views.{NodeView}
use Rattle.maid_model.specs.Graph.{Arc}
use Rattle.maid_model.specs.Relevance.{IsLive, IsInFamily, IsInFamilyBut, IsRequisite}
use Rattle.node_sets.specs.Sets.{IsIn}
use Rattle.bayes_ball.proofs.Searching.{same_fact}
use Rattle.bayes_ball.proofs.Turning.{first_live}
use Rattle.bayes_ball.specs.Search.{ReachesGoal, TellsWalksToGoals}
use Rattle.bayes_ball.specs.declared.marks.Marks.{Marks}
use Rattle.requisite_trim.proofs.Cutting.{reached_either}

-- but for x the search is given what is given when x is asked about
module _ (nodes : List NodeView) (d x y : ℕ) where
  to_other : y ≢ x → IsInFamily (Arc nodes) d y → IsInFamilyBut (Arc nodes) d x y
  to_other n (inl e) = inl e
  to_other n (inr a) = inr (a, n)

  of_other : IsInFamilyBut (Arc nodes) d x y → IsInFamily (Arc nodes) d y
  of_other (inl e) = inl e
  of_other (inr a) = inr a.0

-- a walk leads from x to a goal exactly where x would be a requisite parent
pub goal_reached : (nodes : List NodeView) (d x : ℕ) → ReachesGoal nodes d x ↔ IsRequisite nodes d x
goal_reached nodes d x =
    let F = IsInFamily (Arc nodes) d in
    let B = IsInFamilyBut (Arc nodes) d x in (
      (λ h. record {
        live = first_live (Arc nodes) (IsLive nodes) F x h.2.rest h.2.active;
        goal = h.0;
        is_goal = h.1;
        walk = reached_either (Arc nodes) (IsLive nodes) F B x (λ y n. (to_other nodes d x y n, of_other nodes d x y)) h.0 h.2;
      }),
      (λ r. (r.goal, r.is_goal, reached_either (Arc nodes) (IsLive nodes) B F x (λ y n. (of_other nodes d x y, to_other nodes d x y n)) r.goal r.walk)),
    )

-- so a search from all goals tells
pub requisites_told : (nodes : List NodeView) (d : ℕ) (marks : Marks) → TellsWalksToGoals nodes d marks
    → (x : ℕ) → x < length nodes → IsIn marks.reached x ↔ IsRequisite nodes d x
requisites_told nodes d marks search x within = same_fact (search.reached x within) (goal_reached nodes d x)

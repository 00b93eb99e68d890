-- The steps of a search whose goals are found on the way, and which ends as soon as each of some
-- nodes is marked.
use Rattle.std.specs.Prelude.{◌≡◌, ℕ, ◌<◌, ◌⊎◌, ◌↔◌, Bool, true, false, List}
use Rattle.node_sets.specs.declared.sets.NodeSet.{NodeSet}
use Rattle.node_sets.specs.Paths.{LeadsFrom}
use Rattle.node_sets.specs.Sets.{IsIn, room}
use Rattle.maid_model.specs.Views.{NodeView}
use Rattle.maid_model.specs.Graph.{Arc}
use Rattle.maid_model.specs.Nodes.{IsUtilityOf}
use Rattle.bayes_ball.specs.Spread.{HandOn}

-- each node of the set has a mark
abbrev pub AreAllMarked : NodeSet → NodeSet → NodeSet → Type 0
AreAllMarked set down up = (v : ℕ) → IsIn set v → IsIn down v ⊎ IsIn up v

-- v is a utility of the agent, and new among the nodes below
abbrev pub IsFoundGoal : List NodeView → ℕ → NodeSet → NodeSet → ℕ → Type 0
IsFoundGoal nodes agent below below' v =
    IsIn below' v × (IsIn below v → ⊥) × IsUtilityOf nodes agent v

-- one wave along all arcs, from the nodes below that had not been followed; the utilities of the
-- agent that it finds are marked, and `went` tells whether there were any nodes to follow
pub record FindsGoals
    (nodes : List NodeView) (agent : ℕ) (below followed up below' followed' up' : NodeSet)
    (went : Bool) : Type 0 where
  pub kept : (v : ℕ) → IsIn below v → IsIn below' v
  pub led : (v : ℕ) → IsIn below' v → LeadsFrom (Arc nodes) (IsIn below) v
  pub handed : HandOn (Arc nodes) followed below → HandOn (Arc nodes) followed' below'
  pub all : (v : ℕ) → IsIn below v → IsIn followed' v
  pub marked : (v : ℕ) → IsIn up' v ↔ (IsIn up v ⊎ IsFoundGoal nodes agent below below' v)
  pub fewer : went ≡ true → room followed' < room followed
  pub same : went ≡ false → (below' ≡ below) × (followed' ≡ followed) × (up' ≡ up)

-- Which decisions a decision relies on (Koller and Milch 2003, s-reachability), and which of its
-- parents it needs (Lauritzen and Nilsson 2001).
use Rattle.std.specs.Prelude.{◌≡◌, ◌≢◌, ◌⊎◌, ℕ, ◌<◌, List, length}
use Rattle.maid_model.specs.declared.diagrams.Kind.TheVariants.{Utility}
use Rattle.maid_model.specs.Views.{NodeView}
use Rattle.maid_model.specs.Nodes.{IsDecision, Owns, agent_of, node_at, states_of}
use Rattle.maid_model.specs.Graph.{Arc, Descends}
use Rattle.maid_model.specs.Walks.{IsReached, IsReachedFromParent}

-- a utility, or a node of two states or more
pub record IsLive (nodes : List NodeView) (v : ℕ) : Type 0 where
  pub within : v < length nodes
  pub states : ((node_at nodes v).kind ≡ Utility) ⊎ (1 < states_of nodes v)

-- d and its parents
abbrev pub IsInFamily : (ℕ → ℕ → Type 0) → ℕ → ℕ → Type 0
IsInFamily Arc d x = (x ≡ d) ⊎ Arc x d

-- a utility of d's agent that descends from d
pub record IsGoal (nodes : List NodeView) (d u : ℕ) : Type 0 where
  pub within : u < length nodes
  pub kind : (node_at nodes u).kind ≡ Utility
  pub owner : Owns nodes (agent_of nodes d) u
  pub below : Descends (Arc nodes) d u

-- d relies on e: both are decisions of two states or more, and given d and its parents an active
-- walk leads from an extra parent of e to a goal of d
pub record ReliesOn (nodes : List NodeView) (d e : ℕ) : Type 0 where
  pub apart : d ≢ e
  pub from_decision : IsDecision nodes d
  pub on_decision : IsDecision nodes e
  pub from_live : IsLive nodes d
  pub on_live : IsLive nodes e
  pub goal : ℕ
  pub is_goal : IsGoal nodes d goal
  pub walk : IsReachedFromParent (Arc nodes) (IsLive nodes) (IsInFamily (Arc nodes) d)
      (length nodes) e goal

-- d and its parents other than x
abbrev pub IsInFamilyBut : (ℕ → ℕ → Type 0) → ℕ → ℕ → ℕ → Type 0
IsInFamilyBut Arc d x y = (y ≡ d) ⊎ (Arc y d × (y ≢ x))

-- the parent x of d is requisite: it is live, and given d and its other parents an active walk
-- leads from x to a goal of d
pub record IsRequisite (nodes : List NodeView) (d x : ℕ) : Type 0 where
  pub live : IsLive nodes x
  pub goal : ℕ
  pub is_goal : IsGoal nodes d goal
  pub walk : IsReached (Arc nodes) (IsLive nodes) (IsInFamilyBut (Arc nodes) d x) x goal

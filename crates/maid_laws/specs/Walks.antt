-- Laws of active walks.
use Rattle.std.specs.Prelude.{◌≡◌, ℕ, Bool, false, List}
use Rattle.maid_model.specs.Nodes.{IsUtility}
use Rattle.maid_model.specs.Views.{NodeView}
use Rattle.maid_model.specs.Graph.{Arc, Descends, IsGraph}
use Rattle.maid_model.specs.Walks.{IsReached}
use Rattle.maid_model.specs.Relevance.{IsLive}
use Rattle.maid_laws.specs.Separation.{IsFixedBy, Matters, HasWalk}

-- An active walk may be read from either end.
abbrev pub WalksTurn : Type 0
WalksTurn = (nodes : List NodeView) (fixed : ℕ → Bool) (x y : ℕ)
    → IsReached (Arc nodes) (IsLive nodes) (IsFixedBy fixed) x y
    → IsReached (Arc nodes) (IsLive nodes) (IsFixedBy fixed) y x

-- Where no fixed node descends from d, an active walk leads from an extra parent of each child of d
-- that matters.
abbrev pub ChildrenJoin : Type 0
ChildrenJoin = (nodes : List NodeView) (fixed : ℕ → Bool) (goal d v : ℕ) → IsGraph nodes
    → IsUtility nodes goal → ((x : ℕ) → Descends (Arc nodes) d x → fixed x ≡ false) → Arc nodes d v
    → Matters nodes fixed goal v → HasWalk nodes fixed goal v

-- Which decisions don't see x, and the limits of one decision's rule. Only private functions cite
-- it.
use Rattle.std.specs.Prelude.{◌≡◌, ℕ, ◌≤◌, Bool, ◌&&◌, not, ◌==◌, if◌then◌else◌, List, [], ◌∷◌, ◌++◌, length, Option, MatchOption}
use Rattle.std.specs.List.{list_any}
use Rattle.maid_model.specs.declared.limits.TheConstants.{MOST_CELLS, MOST_PARENTS}
use Rattle.maid_model.specs.Nodes.{IsDecision, is_decision, node_at, parents_of}
use Rattle.maid_model.specs.Views.{NodeView}
use Rattle.diagram_graph.specs.Room.{cells_at, rule_cells_at}

-- v is a decision that doesn't see x
abbrev pub adds : List NodeView → ℕ → ℕ → Bool
adds nodes x v =
    is_decision (node_at nodes v).kind && not (list_any (λ u. u == x) (node_at nodes v).parents)

-- the parents, and x behind them where it is added
abbrev pub parents_with : Bool → List ℕ → ℕ → List ℕ
parents_with added parents x = if added then parents ++ x ∷ [] else parents

-- if v is a decision, its parents and the cells of its rule are not too many
pub record KeepsOwnRule (nodes : List NodeView) (v : ℕ) : Type 0 where
  pub parents : IsDecision nodes v → length (parents_of nodes v) ≤ MOST_PARENTS
  pub cells : IsDecision nodes v → cells_at nodes v ≤ MOST_CELLS

-- they are not, and these are the cells that v adds to those of all rules
pub record HasOwnCells (nodes : List NodeView) (v cells : ℕ) : Type 0 where
  pub keeps : KeepsOwnRule nodes v
  pub is : cells ≡ rule_cells_at nodes v
  pub few : cells ≤ MOST_CELLS

-- those cells, or nothing where they or v's parents are too many
abbrev pub TellsOwnCells : List NodeView → ℕ → Option ℕ → Type 0
TellsOwnCells nodes v told = MatchOption told (KeepsOwnRule nodes v → ⊥) (HasOwnCells nodes v)

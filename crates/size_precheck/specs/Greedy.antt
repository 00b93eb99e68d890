-- The order in which a plan eliminates its nodes: each time the one whose joined set has fewest
-- cells (Koller and Friedman 2009, greedy elimination by weight).
use Rattle.std.specs.Prelude.{ℕ, ◌<◌, ◌≤◌, Bool, List, [], filter, take, length, slice_index, Contains}
use Rattle.std.specs.List.{list_any}
use Rattle.maid_model.specs.Placing.{Remains}
use Rattle.maid_model.specs.Views.{NodeView}
use Rattle.ring_sums.specs.Tables.{scopes_of, scopes_after}
use Rattle.plan_sums.specs.Plans.{PlanView, mass_cells, eliminated_nodes, first_tables}
use Rattle.size_precheck.specs.Counts.{counted_cells}

-- the scopes of a plan's first tables; they are the same for every kind of cell and for all rules
abbrev pub first_scopes : List NodeView → PlanView → List (ℕ → Bool)
first_scopes nodes plan = scopes_of (first_tables mass_cells nodes [] plan)

-- the scopes that hold v
abbrev pub holding : ℕ → List (ℕ → Bool) → List (ℕ → Bool)
holding v scopes = filter (λ s. s v) scopes

-- v's joined set: the nodes of all scopes that hold v
abbrev pub joined_set : ℕ → List (ℕ → Bool) → ℕ → Bool
joined_set v scopes u = list_any (λ s. s u) (holding v scopes)

-- the cells of v's joined set after these steps
abbrev pub joined_cells : List NodeView → List (ℕ → Bool) → List ℕ → ℕ → ℕ
joined_cells nodes scopes steps v = counted_cells nodes (joined_set v (scopes_after steps scopes))

-- of the items that remain after these steps v is taken next: no joined set of one that remains has
-- fewer cells than v's, and none of one before v in text has as few
pub record IsNext
    (nodes : List NodeView) (Item : ℕ → Type 0) (scopes : List (ℕ → Bool)) (steps : List ℕ) (v : ℕ)
    : Type 0 where
  pub remains : Remains Item steps v
  pub fewest : (w : ℕ) → Remains Item steps w
      → joined_cells nodes scopes steps v ≤ joined_cells nodes scopes steps w
  pub first : (w : ℕ) → Remains Item steps w → w < v
      → joined_cells nodes scopes steps v < joined_cells nodes scopes steps w

-- each step takes the next after those before it, and no item remains
pub record IsGreedy
    (nodes : List NodeView) (Item : ℕ → Type 0) (scopes : List (ℕ → Bool)) (steps : List ℕ) : Type 0
  where
    pub each :
        (k : ℕ) → k < length steps → IsNext nodes Item scopes (take k steps) (slice_index steps k)
    pub complete : (v : ℕ) → Remains Item steps v → ⊥

-- the order in which the plan eliminates its nodes
abbrev pub IsGreedyOrder : List NodeView → PlanView → List ℕ → Type 0
IsGreedyOrder nodes plan steps =
    IsGreedy nodes (Contains (eliminated_nodes nodes plan)) (first_scopes nodes plan) steps

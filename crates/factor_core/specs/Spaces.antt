-- What joins over the cells so far require, and how cells and a slot are laid out behind them. Only
-- private contracts cite this file.
use Rattle.std.specs.Global.{Vec}
use Rattle.std.specs.Prelude.{◌≡◌, ℕ, take, vec_capacity, vec_len, ◌^◌, ◌<◌, ◌≤◌, List, All, length}
use Rattle.cell_rings.specs.Rings.{Ring}
use Rattle.node_sets.specs.declared.sets.NodeSet.{NodeSet}
use Rattle.factor_core.specs.declared.slots.Slot.{Slot}
use Rattle.factor_core.specs.Tables.{AreCounts, LiesIn, RoomToJoin, RoomToMultiply, size_of}

-- what a join of these slots over the cells so far requires
pub record CanJoinIn {C : Type 0}
    (r : Ring C) (cells : List C) (counts : List ℕ) (slots : List Slot) (x : ℕ) : Type 0 where
  pub are_counts : AreCounts counts
  pub node : x < length counts
  pub live : All (LiesIn counts (length cells)) slots
  pub small : All (λ s. size_of counts s.scope ≤ 2 ^ 32) slots
  pub fits : RoomToJoin r cells counts slots x

-- what a product of these slots over the cells so far requires
pub record CanMultiplyIn {C : Type 0}
    (r : Ring C) (cells : List C) (counts : List ℕ) (slots : List Slot) : Type 0 where
  pub are_counts : AreCounts counts
  pub live : All (LiesIn counts (length cells)) slots
  pub small : All (λ s. size_of counts s.scope ≤ 2 ^ 32) slots
  pub fits : RoomToMultiply r cells counts slots

-- cells were written up to that place: those that stood there stay, and no more were written than
-- asked for
pub record IsBlankedTo {C : Type 0} (end : ℕ) (before after : Vec C) : Type 0 where
  pub first : (n : ℕ) → n ≤ vec_len before → take n after.items ≡ take n before.items
  pub far : end ≤ vec_len after
  pub no_further : (room : ℕ) → vec_len before ≤ room → end ≤ room → vec_len after ≤ room
  pub capacity : vec_capacity before ≤ vec_capacity after

-- a slot over the nodes that starts there
pub record IsSlotAt (counts : List ℕ) (nodes : NodeSet) (at : ℕ) (slot : Slot) : Type 0 where
  pub start : slot.start ≡ at
  pub scope : slot.scope ≡ nodes
  pub size : slot.len ≡ size_of counts slot.scope

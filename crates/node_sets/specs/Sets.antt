-- Sets of node numbers: what they hold, and how they grow.
use Rattle.std.specs.Prelude.{◌≡◌, ℕ, zero, suc, ◌+◌, ◌/◌, ◌%◌, ◌<◌, ◌≤◌, ◌⊎◌, ◌↔◌, ◌==◌, Option, MatchOption, Bool, true, false, slice_index, [], if◌then◌else◌}
use Rattle.std.specs.Int.{bit_at}
use Rattle.node_sets.specs.declared.sets.NodeSet.{NodeSet}
use Rattle.node_sets.specs.declared.sets.TheConstants.{MOST_NODES}

-- the set holds v, as a test: bit v of its words
unfoldable pub holds : NodeSet → ℕ → Bool
holds set v = bit_at (slice_index set.words (v / 64)) (v % 64) == 1

-- v is in the set
abbrev pub IsIn : NodeSet → ℕ → Type 0
IsIn set v = holds set v ≡ true

-- v is the first node of the set that does not stand before `from`
pub record IsFirstFrom (set : NodeSet) (from v : ℕ) : Type 0 where
  pub not_before : from ≤ v
  pub small : v < MOST_NODES
  pub inside : IsIn set v
  pub first : (w : ℕ) → from ≤ w → w < v → IsIn set w → ⊥

-- the set has no node from that number on
abbrev pub HasNoneFrom : NodeSet → ℕ → Type 0
HasNoneFrom set from = (v : ℕ) → from ≤ v → IsIn set v → ⊥

-- the node is the first of the set from one number on, and below another
abbrev pub IsFirstBetween : NodeSet → ℕ → ℕ → ℕ → Type 0
IsFirstBetween set from end v = IsFirstFrom set from v × (v < end)

-- the set has no node from one number on and below another
abbrev pub HasNoneBetween : NodeSet → ℕ → ℕ → Type 0
HasNoneBetween set from end = (v : ℕ) → from ≤ v → v < end → IsIn set v → ⊥

-- the first node of the set from one number on and below another, and none only where it has none
abbrev pub TellsFirstBetween : NodeSet → ℕ → ℕ → Option ℕ → Type 0
TellsFirstBetween set from end found =
    MatchOption found (HasNoneBetween set from end) (IsFirstBetween set from end)

-- how many numbers below n are not in the set
unfoldable pub missing_below : NodeSet → ℕ → ℕ
missing_below set zero = 0
missing_below set (suc n) = (if holds set n then 0 else 1) + missing_below set n

-- how many nodes a set can still gain
abbrev pub room : NodeSet → ℕ
room set = missing_below set MOST_NODES

-- the set gains exactly the numbers with the property Add; `changed` tells whether that is any
pub record Adds (Add : ℕ → Type 0) (before after : NodeSet) (changed : Bool) : Type 0 where
  pub all : (x : ℕ) → IsIn after x ↔ (IsIn before x ⊎ Add x)
  pub same : changed ≡ false → after ≡ before
  pub fewer : changed ≡ true → room after < room before

-- the set of no words, which holds nothing
abbrev pub no_nodes : NodeSet
no_nodes = record { words = [] }

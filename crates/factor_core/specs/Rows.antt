-- The rows of strides that a walk begins with. Only private contracts cite this file.
use Rattle.std.specs.Prelude.{◌≡◌, ℕ, ◌+◌, ◌*◌, ◌<◌, ◌≤◌, ltb, if◌then◌else◌, Bool, true, List, map, take, drop, length, slice_index}
use Rattle.node_sets.specs.declared.sets.NodeSet.{NodeSet}
use Rattle.factor_core.specs.declared.slots.Slot.{Slot}
use Rattle.factor_core.specs.Scopes.{united}
use Rattle.factor_core.specs.Tables.{size_onward, stride_row, stride_rows, listed, node_count, with_extra}

-- how many cells each slot has over its nodes from v on
abbrev pub sizes_from : List ℕ → List Slot → ℕ → List ℕ
sizes_from counts slots v = map (λ s. size_onward counts s.scope v) slots

-- the row has the slots' strides at the node
abbrev pub HasStrideRow : List ℕ → List Slot → List ℕ → ℕ → ℕ → Type 0
HasStrideRow counts slots strides row v =
    take (length slots) (drop (row * length slots) strides) ≡ stride_row counts slots v

-- the row of the i-th node, where one more node has the row `at`
abbrev pub row_beside : ℕ → ℕ → ℕ
row_beside at i = if ltb i at then i else i + 1

-- the nodes of some scope in ascending order, among them those of the slots from `low` on and below
-- `high`
pub record HasNodes (counts : List ℕ) (slots : List Slot) (low high : ℕ) (nodes : List ℕ) : Type 0 where
  pub scope : ℕ → Bool
  pub listing : nodes ≡ listed scope 0 (length counts)
  pub among : (v : ℕ) → low ≤ v → v < high → united slots v ≡ true → scope v ≡ true

-- the rows of those of the nodes that are from `low` on and below `high` have their strides
abbrev pub HaveRows :
    List ℕ → List Slot → List ℕ → ℕ → ℕ → ℕ → List ℕ → Type 0
HaveRows counts slots strides at low high nodes = (i : ℕ) → i < length nodes
    → low ≤ slice_index nodes i → slice_index nodes i < high
    → HasStrideRow counts slots strides (row_beside at i) (slice_index nodes i)

-- rows stay that have a node's strides, where these may not be another's
abbrev pub KeepRows :
    List ℕ → List Slot → List ℕ → List ℕ → (ℕ → ℕ → Type 0) → Type 0
KeepRows counts slots before after May = (r v : ℕ)
    → May r v → HasStrideRow counts slots before r v → HasStrideRow counts slots after r v

-- if the row is one of the nodes', it is v's
abbrev pub MayBeOf : ℕ → List ℕ → ℕ → ℕ → Type 0
MayBeOf at nodes r v =
    (i : ℕ) → i < length nodes → r ≡ row_beside at i → v ≡ slice_index nodes i

-- the first n rows are those of these nodes
abbrev pub AreRowsOf : List ℕ → List Slot → List ℕ → ℕ → List ℕ → Type 0
AreRowsOf counts slots nodes n strides =
    take (n * length slots) strides ≡ stride_rows (stride_row counts slots) nodes

-- so they are with the node put at that place among them
abbrev pub AreRowsWith : List ℕ → List Slot → ℕ → ℕ → List ℕ → List ℕ → Type 0
AreRowsWith counts slots at node kept strides =
    AreRowsOf counts slots (with_extra at node kept) (length kept + 1) strides

-- there is room for a row of each of the scope's nodes, and for one row more
abbrev pub HasRoomForRows : List ℕ → NodeSet → List Slot → List ℕ → Type 0
HasRoomForRows counts scope slots strides =
    (node_count counts scope + 1) * length slots ≤ length strides

-- the first ones tell how many cells each slot has over its nodes from v on
abbrev pub AreSizesFrom : List ℕ → List Slot → ℕ → List ℕ → Type 0
AreSizesFrom counts slots v sizes = take (length slots) sizes ≡ sizes_from counts slots v

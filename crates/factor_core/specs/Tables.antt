-- Places of cells over a list of counts, and joins as walks see them. Only private contracts cite
-- this file.
use Rattle.std.specs.Prelude.{◌≡◌, ℕ, zero, suc, ◌+◌, ◌-◌, ◌*◌, ◌<◌, ◌≤◌, ◌==◌, if◌then◌else◌, Bool, false, List, [], ◌∷◌, ◌++◌, ◌^◌, map, take, drop, All, length, slice_index, slice_index_or}
use Rattle.cell_rings.specs.Rings.{Ring, mass_ring}
use Rattle.cell_rings.specs.Sums.{ring_sum, cell_at, product_at, sizes_of, ProductFits}
use Rattle.node_sets.specs.declared.sets.NodeSet.{NodeSet}
use Rattle.factor_core.specs.declared.slots.Slot.{Slot}
use Rattle.node_sets.specs.Sets.{holds}
use Rattle.factor_core.specs.Scopes.{united_but, united}
use Rattle.finite_sums.specs.Sums.{World, InRange, with_state}
use Rattle.factor_core.specs.Walks.{shifted}
use Rattle.factor_core.specs.declared.walks.Axis.{Axis}

-- how many cells a table has over those of the k nodes from v on that the scope holds
abbrev pub size_from : (ℕ → ℕ) → (ℕ → Bool) → ℕ → ℕ → ℕ
size_from count h v zero = 1
size_from count h v (suc k) = (if h v then count v else 1) * size_from count h (suc v) k

-- the place of the world's cell in such a table, the first node slowest
abbrev pub place_from : (ℕ → ℕ) → (ℕ → Bool) → World → ℕ → ℕ → ℕ
place_from count h w v zero = 0
place_from count h w v (suc k) =
    (if h v then w v * size_from count h (suc v) k else 0) + place_from count h w (suc v) k

-- how far apart the cells of neighbouring states of v stand in a table over n nodes, and 0 where
-- the scope lacks v
abbrev pub stride_of : (ℕ → ℕ) → ℕ → (ℕ → Bool) → ℕ → ℕ
stride_of count n h v = if h v then size_from count h (suc v) (n - suc v) else 0

-- the axes of the nodes, with these strides of the result
abbrev pub axes_of : (ℕ → ℕ) → (ℕ → ℕ) → List ℕ → List Axis
axes_of count out vs = map (λ v. record { states = count v; out = out v }) vs

-- the rows of the nodes one after another
abbrev pub stride_rows : (ℕ → List ℕ) → List ℕ → List ℕ
stride_rows row [] = []
stride_rows row (v ∷ vs) = row v ++ stride_rows row vs

-- the operands' places in the world
abbrev pub moved : (ℕ → List ℕ) → List ℕ → World → List ℕ → List ℕ
moved row [] w places = places
moved row (v ∷ vs) w places = moved row vs w (shifted (w v) (row v) places)

-- how far the result's place moves in the world
abbrev pub out_place : (ℕ → ℕ) → List ℕ → World → ℕ
out_place out [] w = 0
out_place out (v ∷ vs) w = w v * out v + out_place out vs w

-- how many cells the result has over the nodes but x
abbrev pub kept_size : (ℕ → ℕ) → ℕ → List ℕ → ℕ
kept_size count x [] = 1
kept_size count x (v ∷ vs) = (if v == x then 1 else count v) * kept_size count x vs

-- how many states the node has; a number that no node has counts as one state
abbrev pub states_in : List ℕ → ℕ → ℕ
states_in counts v = slice_index_or counts v 1

-- the counts of states of the nodes
pub record AreCounts (counts : List ℕ) : Type 0 where
  pub few : length counts ≤ 256
  pub some : (v : ℕ) → 0 < states_in counts v
  pub small : (v : ℕ) → states_in counts v ≤ 256

-- those of the k nodes from v on that the scope holds
abbrev pub listed : (ℕ → Bool) → ℕ → ℕ → List ℕ
listed h v zero = []
listed h v (suc k) = (if h v then v ∷ [] else []) ++ listed h (suc v) k

-- how many nodes the scope has
abbrev pub node_count : List ℕ → NodeSet → ℕ
node_count counts scope = length (listed (holds scope) 0 (length counts))

-- x put behind the first k of the list
abbrev pub with_extra : {A : Type 0} → ℕ → A → List A → List A
with_extra k x xs = take k xs ++ x ∷ drop k xs

-- the strides of the slots at the node
abbrev pub stride_row : List ℕ → List Slot → ℕ → List ℕ
stride_row counts slots v =
    map (λ s. stride_of (states_in counts) (length counts) (holds s.scope) v) slots

-- where the slots start
abbrev pub starts_of : List Slot → List ℕ
starts_of slots = map (λ s. s.start) slots

-- the size of a table of that scope
abbrev pub size_of : List ℕ → NodeSet → ℕ
size_of counts scope = size_from (states_in counts) (holds scope) 0 (length counts)

-- the size of a table over those of its nodes that are from v on
abbrev pub size_onward : List ℕ → NodeSet → ℕ → ℕ
size_onward counts scope v = size_from (states_in counts) (holds scope) v (length counts - v)

-- the place of the world's cell in a table of that scope
abbrev pub place_of : List ℕ → NodeSet → World → ℕ
place_of counts scope w = place_from (states_in counts) (holds scope) w 0 (length counts)

-- from `start` on the cells are those of f over the scope
abbrev pub HasTableAt :
    {C : Type 0} → Ring C → List ℕ → NodeSet → ℕ → List C → (World → C) → Type 0
HasTableAt r counts scope start cells f = (w : World) → InRange (states_in counts) w
    → cell_at r cells (start + place_of counts scope w) ≡ f w

-- how far the place moves from one state of a node to the next, which is 0 for a node that the
-- scope lacks
abbrev pub stride_over : List ℕ → NodeSet → ℕ → ℕ
stride_over counts scope v = stride_of (states_in counts) (length counts) (holds scope) v

-- the axes are those of the nodes, with the strides of a table of that scope
abbrev pub AreAxesOf : List ℕ → NodeSet → List ℕ → List Axis → Type 0
AreAxesOf counts scope nodes axes =
    take (length nodes) axes ≡ axes_of (states_in counts) (stride_over counts scope) nodes

-- the places of the slots' cells in the world
abbrev pub places_in : List ℕ → List Slot → World → List ℕ
places_in counts slots w = map (λ s. s.start + place_of counts s.scope w) slots

-- a cell of a join: the sum over the states of x of the product of the slots' cells
abbrev pub join_cell : {C : Type 0} → Ring C → List C → List ℕ → List Slot → ℕ → World → C
join_cell r cells counts slots x w = ring_sum r (states_in counts x) (λ s.
    product_at r cells (places_in counts slots (with_state w x s)))

-- the result has the join's cell at each place over the scope
abbrev pub HasJoin : {C : Type 0}
    → Ring C → List C → List ℕ → List Slot → ℕ → NodeSet → List C → Type 0
HasJoin r cells counts slots x scope out = (w : World) → InRange (states_in counts) w
    → cell_at r out (place_of counts scope w) ≡ join_cell r cells counts slots x w

-- a cell of a product: the product of the slots' cells
abbrev pub product_cell : {C : Type 0} → Ring C → List C → List ℕ → List Slot → World → C
product_cell r cells counts slots w = product_at r cells (places_in counts slots w)

-- from `start` on the cells are the join's of slots that stand before
abbrev pub HasJoinAt : {C : Type 0} → Ring C → List ℕ → List Slot → ℕ → NodeSet → ℕ
    → List C → List C → Type 0
HasJoinAt r counts slots x scope start before after =
    HasTableAt r counts scope start after (join_cell r (take start before) counts slots x)

-- from `start` on the cells are the product's of slots that stand before
abbrev pub HasProductAt : {C : Type 0} → Ring C → List ℕ → List Slot → NodeSet → ℕ
    → List C → List C → Type 0
HasProductAt r counts slots scope start before after =
    HasTableAt r counts scope start after (product_cell r (take start before) counts slots)

-- the result has the product's cell at each place over the scope
abbrev pub HasProduct : {C : Type 0}
    → Ring C → List C → List ℕ → List Slot → NodeSet → List C → Type 0
HasProduct r cells counts slots scope out = (w : World) → InRange (states_in counts) w
    → cell_at r out (place_of counts scope w) ≡ product_cell r cells counts slots w

-- the slot's nodes are below the count, and its cells lie in the workspace, as many as its scope
-- asks
pub record LiesIn (counts : List ℕ) (len : ℕ) (s : Slot) : Type 0 where
  pub known : (v : ℕ) → length counts ≤ v → holds s.scope v ≡ false
  pub size : s.len ≡ size_of counts s.scope
  pub within : s.start + s.len ≤ len

-- each product of the first factors fits, and each sum of the sizes of the products
pub record RoomToJoin {C : Type 0}
    (r : Ring C) (cells : List C) (counts : List ℕ) (slots : List Slot) (x : ℕ) : Type 0 where
  pub products :
      (w : World) → InRange (states_in counts) w → ProductFits r cells 1 (places_in counts slots w)
  pub sums : (w : World) → InRange (states_in counts) w
      → join_cell mass_ring (sizes_of r cells) counts slots x w ≤ r.most

-- the scope of a join: below the count of nodes it holds those of the slots but x
pub record IsJoinScope (counts : List ℕ) (slots : List Slot) (x : ℕ) (scope : NodeSet) : Type 0 where
  pub within : (v : ℕ) → v < length counts → holds scope v ≡ united_but slots x v

-- what a join requires
pub record CanJoin {C : Type 0}
    (r : Ring C) (cells : List C) (counts : List ℕ) (slots : List Slot) (x : ℕ) (scope : NodeSet)
    (out : List C) : Type 0 where
  pub are_counts : AreCounts counts
  pub node : x < length counts
  pub live : All (LiesIn counts (length cells)) slots
  pub small : All (λ s. size_of counts s.scope ≤ 2 ^ 32) slots
  pub is_joined : IsJoinScope counts slots x scope
  pub few_cells : length cells ≤ 2 ^ 32
  pub size : length out ≡ size_of counts scope
  pub short_out : length out ≤ 2 ^ 32
  pub nought : (p : ℕ) → cell_at r out p ≡ r.nought
  pub fits : RoomToJoin r cells counts slots x

-- each product of the first factors fits, and the whole product
pub record RoomToMultiply {C : Type 0}
    (r : Ring C) (cells : List C) (counts : List ℕ) (slots : List Slot) : Type 0 where
  pub products :
      (w : World) → InRange (states_in counts) w → ProductFits r cells 1 (places_in counts slots w)
  pub whole : (w : World) → InRange (states_in counts) w
      → product_cell mass_ring (sizes_of r cells) counts slots w ≤ r.most

-- the scope of a product: it holds the nodes of the slots, and no number beyond the count of nodes
pub record IsUnion (counts : List ℕ) (slots : List Slot) (scope : NodeSet) : Type 0 where
  pub within : (v : ℕ) → v < length counts → holds scope v ≡ united slots v
  pub beyond : holds scope (length counts) ≡ false

-- what a product requires
pub record CanMultiply {C : Type 0}
    (r : Ring C) (cells : List C) (counts : List ℕ) (slots : List Slot) (scope : NodeSet)
    (out : List C) : Type 0 where
  pub are_counts : AreCounts counts
  pub live : All (LiesIn counts (length cells)) slots
  pub small : All (λ s. size_of counts s.scope ≤ 2 ^ 32) slots
  pub is_union : IsUnion counts slots scope
  pub few_cells : length cells ≤ 2 ^ 32
  pub size : length out ≡ size_of counts scope
  pub short_out : length out ≤ 2 ^ 32
  pub nought : (p : ℕ) → cell_at r out p ≡ r.nought
  pub fits : RoomToMultiply r cells counts slots

-- the states are those that the world gives to the scope's nodes, the lowest node first
pub record GivesStates (counts : List ℕ) (scope : NodeSet) (w : World) (states : List ℕ) : Type 0 where
  pub state : (i : ℕ) → i < length (listed (holds scope) 0 (length counts))
      → w (slice_index (listed (holds scope) 0 (length counts)) i) ≡ slice_index states i

-- the place is that of the cell of every world that gives them
abbrev pub IsPlaceAt : List ℕ → NodeSet → List ℕ → ℕ → Type 0
IsPlaceAt counts scope states place =
    (w : World) → GivesStates counts scope w states → place ≡ place_of counts scope w

-- one state in range for each node of the scope
pub record AreScopeStates (counts : List ℕ) (scope : NodeSet) (states : List ℕ) : Type 0 where
  pub count : length states ≡ length (listed (holds scope) 0 (length counts))
  pub within : (i : ℕ) → i < length states
      → slice_index states i
      < states_in counts (slice_index (listed (holds scope) 0 (length counts)) i)

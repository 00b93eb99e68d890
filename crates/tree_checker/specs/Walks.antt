-- What a walk down a list of nodes adds up: over all ways to give states to the nodes of the list.
use Rattle.std.specs.Prelude.{◌≡◌, ◌≢◌, true, ℕ, ◌+◌, ◌*◌, ◌^◌, ◌<◌, ◌≤◌, List, [], ◌∷◌, length, slice_index, slice_index_or, slice_set, ℤ, pos, ◌+ℤ◌, ◌*ℤ◌, nat_abs, Option, None, Some, ◌==◌, if◌then◌else◌}
use Rattle.std.specs.Global.{Vec}
use Rattle.diagram_graph.specs.Cycles.{lists_in}
use Rattle.diagram_graph.specs.Room.{cells_at}
use Rattle.finite_sums.specs.Members.{Among}
use Rattle.finite_sums.specs.Sums.{World, nat_product_over, nat_sum_over, product_over, sum_each, sum_over, with_state}
use Rattle.maid_model.specs.declared.diagrams.Kind.TheVariants.{Decision, Utility}
use Rattle.maid_model.specs.Bounds.{HasRoomForWeight}
use Rattle.maid_model.specs.Diagrams.{IsDiagram, greatest_number}
use Rattle.maid_model.specs.Gains.{base_mass, base_total, greatest_abs, greatest_utility, sum_worlds, table_without, weight_without}
use Rattle.maid_model.specs.Nodes.{is_utility, node_at, parents_of, rows_of, states_of}
use Rattle.maid_model.specs.Private.{MarksUtilities, marked_utility, marked_value}
use Rattle.maid_model.specs.Profiles.{IsProfile}
use Rattle.maid_model.specs.Tables.{cell_of, row_from, row_of, table_by, weights_of}
use Rattle.maid_model.specs.Views.{DiagramView, NodeView, RuleView}
use Rattle.maid_model.specs.Worlds.{world_of}
use Rattle.node_sets.specs.declared.sets.NodeSet.{NodeSet}
use Rattle.node_sets.specs.Sets.{holds}
use Rattle.tree_checker.specs.declared.settings.Before.{Before}
use Rattle.tree_checker.specs.declared.settings.Last.{Last}
use Rattle.tree_checker.specs.declared.settings.Places.{Places}
use Rattle.tree_checker.specs.declared.walks.CellSums.{CellSums}

-- nodes none of which stands again later, or has a later one as a parent
abbrev pub IsDownward : List NodeView → List ℕ → Type 0
IsDownward nodes [] = Unit {0}
IsDownward nodes (v ∷ vs) = (v < length nodes)
    × ((u : ℕ) → Among u vs → (v ≢ u) × (Among u (parents_of nodes v) → ⊥)) × IsDownward nodes vs

-- v's factor where the cell is picked, but 1 at the decision d
abbrev pub factor_at : List NodeView → List RuleView → ℕ → ℕ → ℕ → ℤ
factor_at nodes p d v cell = if v == d
    then pos 1
    else table_by (node_at nodes v).kind (node_at nodes v).cells (weights_of p v) cell

-- the same by the weights of v's rule
abbrev pub factor_by_weights : List NodeView → List ℕ → ℕ → ℕ → ℕ → ℤ
factor_by_weights nodes weights d v cell =
    if v == d then pos 1 else table_by (node_at nodes v).kind (node_at nodes v).cells weights cell

-- v's factor at each of its cells
pub record ListsFactors
    (nodes : List NodeView) (p : List RuleView) (d v : ℕ) (list : List ℕ) : Type 0 where
  pub count : length list ≡ rows_of nodes v * states_of nodes v
  pub factor : (c : ℕ) → c < rows_of nodes v * states_of nodes v
      → pos (slice_index list c) ≡ factor_at nodes p d v c

-- the factors of each node
pub record HoldsFactors
    (nodes : List NodeView) (p : List RuleView) (d : ℕ) (lists : List (List ℕ)) : Type 0 where
  pub count : length lists ≡ length nodes
  pub lists_each : (v : ℕ) → v < length nodes → ListsFactors nodes p d v (slice_index_or lists v [])

-- the list that the code holds has v's factors
abbrev pub HasFactors : List NodeView → List RuleView → ℕ → ℕ → Vec ℕ → Type 0
HasFactors nodes p d v list = ListsFactors nodes p d v list.items

-- the lists that the code holds have the factors of all nodes
abbrev pub HasAllFactors : List NodeView → List RuleView → ℕ → Vec (Vec ℕ) → Type 0
HasAllFactors nodes p d all = HoldsFactors nodes p d (lists_in all.items)

-- the cell of the row in v, if v is marked
abbrev pub value_at : List NodeView → NodeSet → ℕ → ℕ → ℤ
value_at nodes marks v row =
    if holds marks v then slice_index_or (node_at nodes v).cells row (pos 0) else pos 0

-- how many rows further u's row is for each further state of v
abbrev pub row_step : List NodeView → ℕ → ℕ → ℕ
row_step nodes u v =
    row_from (states_of nodes) (λ x. if x == v then 1 else 0) 0 (parents_of nodes u)

-- how many cells further u's cell is
abbrev pub cell_step : List NodeView → ℕ → ℕ → ℕ
cell_step nodes u v = row_step nodes u v * states_of nodes u + (if u == v then 1 else 0)

-- the product so far times the factors of the listed nodes, without the rule of the decision d
abbrev pub weight_with : List NodeView → List RuleView → ℕ → List ℕ → ℕ → World → ℤ
weight_with nodes p d vs product w =
    pos product *ℤ product_over (λ v. table_without nodes p d v w) vs

-- the utilities so far and the marked ones among the listed nodes
abbrev pub utility_with : List NodeView → NodeSet → List ℕ → ℤ → World → ℤ
utility_with nodes marks vs utility w = utility +ℤ sum_each (λ v. marked_value nodes marks v w) vs

-- the same in a world of a list of states
abbrev pub utility_in : List NodeView → NodeSet → List ℕ → ℤ → List ℕ → ℤ
utility_in nodes marks vs utility world = utility_with nodes marks vs utility (world_of world)

-- the sum of weight times utilities over the states of the listed nodes, in the worlds that pick
-- the cell c of d
abbrev pub gain_with : List NodeView → List RuleView → ℕ → NodeSet → List ℕ → ℕ → ℤ → ℕ → World → ℤ
gain_with nodes p d marks vs product utility c w = sum_over (states_of nodes) vs
    (λ w.
    if cell_of nodes d w == c
    then weight_with nodes p d vs product w *ℤ utility_with nodes marks vs utility w
    else pos 0) w

-- the sum of the weights of those worlds
abbrev pub mass_with : List NodeView → List RuleView → ℕ → List ℕ → ℕ → ℕ → World → ℤ
mass_with nodes p d vs product c w = sum_over (states_of nodes) vs
    (λ w. if cell_of nodes d w == c then weight_with nodes p d vs product w else pos 0) w

-- what one world with this weight adds to the cell c of d, with the marked utilities among the
-- listed nodes
abbrev pub world_gain : List NodeView → ℕ → NodeSet → List ℕ → ℕ → ℤ → ℕ → World → ℤ
world_gain nodes d marks vs product utility c w =
    if cell_of nodes d w == c then pos product *ℤ utility_with nodes marks vs utility w else pos 0

-- what one world adds to the mass of the cell c
abbrev pub world_mass : List NodeView → ℕ → ℕ → ℕ → World → ℤ
world_mass nodes d product c w = if cell_of nodes d w == c then pos product else pos 0

-- the utilities so far and the value in the row
abbrev pub with_value : ℤ → List ℤ → ℕ → ℤ
with_value utility values row = utility +ℤ slice_index_or values row (pos 0)

-- the gains, where that cell's is raised by x
abbrev pub gains_raised : List ℤ → ℕ → ℤ → List ℤ
gains_raised gains cell x = slice_set gains cell (slice_index_or gains cell (pos 0) +ℤ x)

-- and the masses, by the weight
abbrev pub masses_raised : List ℕ → ℕ → ℕ → List ℕ
masses_raised masses cell weight = slice_set masses cell (slice_index masses cell + weight)

-- the gain of that cell rises by x, and no other
abbrev pub AddsGainAt : ℕ → ℤ → List ℤ → List ℤ → Type 0
AddsGainAt cell x before after = (c : ℕ) → slice_index_or after c (pos 0)
    ≡ slice_index_or before c (pos 0) +ℤ (if cell == c then x else pos 0)

-- by those utilities at that weight
abbrev pub AddsWeighedAt : ℕ → ℕ → ℤ → List ℤ → List ℤ → Type 0
AddsWeighedAt cell weight utility before after =
    AddsGainAt cell (pos weight *ℤ utility) before after

-- the mass of that cell rises by the weight, and no other
abbrev pub AddsMassAt : ℕ → ℕ → List ℕ → List ℕ → Type 0
AddsMassAt cell weight before after = (c : ℕ) → pos (slice_index after c)
    ≡ pos (slice_index before c) +ℤ (if cell == c then pos weight else pos 0)

-- the gain of that cell has room for those utilities at that weight
abbrev pub GainFits : List ℤ → ℕ → ℕ → ℤ → Type 0
GainFits gains cell weight utility =
    nat_abs (slice_index_or gains cell (pos 0)) + weight * nat_abs utility ≤ greatest_number

-- it is so where v is a decision
abbrev pub WhereDecision : List NodeView → ℕ → Type 0 → Type 0
WhereDecision nodes v So = (node_at nodes v).kind ≡ Decision → So

-- where v is a decision, the list has a weight for each of its cells
abbrev pub HasCellsWhereDecision : List NodeView → ℕ → List ℕ → Type 0
HasCellsWhereDecision nodes v weights = WhereDecision nodes v (length weights ≡ cells_at nodes v)

-- each place of the list has a node of the diagram
abbrev pub AreNodes : List NodeView → List ℕ → Type 0
AreNodes nodes vs = (k : ℕ) → k < length vs → slice_index_or vs k 0 < length nodes

-- each of the nodes is a utility
abbrev pub AreUtilities : List NodeView → List ℕ → Type 0
AreUtilities nodes vs = (k : ℕ) → k < length vs → (node_at nodes (slice_index vs k)).kind ≡ Utility

-- what a walk looks at is right
pub record IsWalkSetting
    (d : DiagramView) (p : List RuleView) (lists : List (List ℕ)) (marks : NodeSet) (out : ℕ)
    : Type 0 where
  pub diagram : IsDiagram d
  pub profile : IsProfile d.nodes p
  pub factors : HoldsFactors d.nodes p out lists
  pub marked : MarksUtilities d.nodes marks
  pub decision : out ≤ length d.nodes

-- the places of a world in the factors of v, in the rows of u and in the cells of the decision
-- `out`, with v in its first state
pub record ArePlaces (nodes : List NodeView) (out v u : ℕ) (w : World) (places : Places) : Type 0
  where
    pub factor : places.factor ≡ cell_of nodes v (with_state w v 0)
    pub row : places.row ≡ row_of nodes u (with_state w v 0)
    pub cell : places.cell ≡ cell_of nodes out (with_state w v 0)

-- the places that so many states further on have, with these steps
abbrev pub places_further : Places → Places → ℕ → Places
places_further places steps states = record {
  factor = places.factor + states * steps.factor;
  row = places.row + states * steps.row;
  cell = places.cell + states * steps.cell;
}

-- a node that weighs something, and how far apart its states put those places
pub record IsWeighedBefore (nodes : List NodeView) (out v u : ℕ) (before : Before) : Type 0 where
  pub weighs : (node_at nodes before.node).kind ≢ Utility
  pub factor : before.steps.factor ≡ cell_step nodes v before.node
  pub row : before.steps.row ≡ row_step nodes u before.node
  pub cell : before.steps.cell ≡ cell_step nodes out before.node

-- there is no such node, or it is one
abbrev pub MayBeBefore : List NodeView → ℕ → ℕ → ℕ → Option Before → Type 0
MayBeBefore nodes out v u None = Unit {0}
MayBeBefore nodes out v u (Some before) = IsWeighedBefore nodes out v u before

-- a node that weighs something, with a marked utility after it
pub record IsLast (nodes : List NodeView) (out : ℕ) (marks : NodeSet) (last : Last) : Type 0 where
  pub weighs : (node_at nodes last.node).kind ≢ Utility
  pub utility : (node_at nodes last.utility).kind ≡ Utility
  pub marked : holds marks last.utility ≡ true
  pub row : last.row_step ≡ row_step nodes last.utility last.node
  pub cell : last.cell_step ≡ cell_step nodes out last.node
  pub before : MayBeBefore nodes out last.node last.utility last.before

-- the nodes, and before them that one if there is one
abbrev pub with_before : Option Before → List ℕ → List ℕ
with_before None vs = vs
with_before (Some before) vs = before.node ∷ vs

-- the last weighing node and its utility
abbrev pub last_two : Last → List ℕ
last_two last = last.node ∷ last.utility ∷ []

-- these, with the weighing node before them if there is one
abbrev pub last_nodes : Last → List ℕ
last_nodes last = with_before last.before (last_two last)

-- the nodes with which a walk ends: utilities alone, or the last weighing nodes with their utility
abbrev pub ending : Option Last → List ℕ → List ℕ
ending None tail = tail
ending (Some last) tail = last_nodes last

-- the nodes with which a walk ends are right
abbrev pub IsEnding : List NodeView → ℕ → NodeSet → Option Last → List ℕ → Type 0
IsEnding nodes out marks None tail = AreUtilities nodes tail
IsEnding nodes out marks (Some last) tail = IsLast nodes out marks last

-- the sum of weight times utilities over all worlds that pick the cell c of d
abbrev pub cell_gain : List NodeView → List RuleView → ℕ → NodeSet → ℕ → ℤ
cell_gain nodes p d marks c = sum_worlds nodes (λ w.
    if cell_of nodes d w == c
    then weight_without nodes p d w *ℤ marked_utility nodes marks w
    else pos 0)

-- the sum of the weights of those worlds
abbrev pub cell_mass : List NodeView → List RuleView → ℕ → ℕ → ℤ
cell_mass nodes p d c =
    sum_worlds nodes (λ w. if cell_of nodes d w == c then weight_without nodes p d w else pos 0)

-- the gain and the mass of each cell, each with room
pub record ListsCells
    (d : DiagramView) (p : List RuleView) (v : ℕ) (marks : NodeSet) (gains : List ℤ)
    (masses : List ℕ) : Type 0 where
  pub gain_count : length gains ≡ rows_of d.nodes v * states_of d.nodes v
  pub mass_count : length masses ≡ rows_of d.nodes v * states_of d.nodes v
  pub gain : (c : ℕ) → slice_index_or gains c (pos 0) ≡ cell_gain d.nodes p v marks c
  pub mass : (c : ℕ) → pos (slice_index masses c) ≡ cell_mass d.nodes p v c
  pub gain_small : (c : ℕ) → nat_abs (slice_index_or gains c (pos 0)) ≤ greatest_number
  pub mass_small : (c : ℕ) → slice_index masses c * 10 ^ d.decimals ≤ greatest_number

-- so the two lists do
abbrev pub HoldsCells : DiagramView → List RuleView → ℕ → NodeSet → CellSums → Type 0
HoldsCells d p v marks sums = ListsCells d p v marks sums.gains.items sums.masses.items

-- the greatest absolute value of a utility, and 0 elsewhere
abbrev pub greatest_at : List NodeView → ℕ → ℕ
greatest_at nodes v =
    if is_utility (node_at nodes v).kind then greatest_abs (node_at nodes v).cells else 0

-- the utilities so far and the greatest of the listed nodes come to a number
abbrev pub HasRoomForUtilities : List NodeView → List ℕ → ℤ → Type 0
HasRoomForUtilities nodes vs utility =
    nat_abs utility + nat_sum_over (greatest_at nodes) vs ≤ greatest_number

-- the weight of all worlds has room, without the rule of the decision v
abbrev pub HasRoomWithout : DiagramView → List RuleView → ℕ → Type 0
HasRoomWithout d p v = HasRoomForWeight d (base_mass d.nodes p v)

-- the product so far times the totals of the listed nodes
abbrev pub mass_left : List NodeView → List RuleView → ℕ → List ℕ → ℕ → ℕ
mass_left nodes p d vs product = product * nat_product_over (base_total nodes p d) vs

-- what the listed nodes can still add fits
pub record HasRoomToWalk
    (nodes : List NodeView) (p : List RuleView) (d : ℕ) (vs : List ℕ) (product : ℕ) (sum : ℤ)
    (gains : List ℤ) (masses : List ℕ) : Type 0 where
  pub gain : (c : ℕ) → nat_abs (slice_index_or gains c (pos 0))
      + mass_left nodes p d vs product * greatest_utility nodes ≤ greatest_number
  pub mass : (c : ℕ) → slice_index masses c + mass_left nodes p d vs product ≤ greatest_number
  pub utility : nat_abs sum + nat_sum_over (greatest_at nodes) vs ≤ greatest_utility nodes
  pub most : greatest_utility nodes ≤ greatest_number

-- one world can be added with this weight and the utilities of the listed nodes
pub record CanAddWorld
    (nodes : List NodeView) (vs : List ℕ) (product : ℕ) (sum : ℤ) (gains : List ℤ) (masses : List ℕ)
    : Type 0 where
  pub gain : (c : ℕ) → nat_abs (slice_index_or gains c (pos 0)) + product * greatest_utility nodes
      ≤ greatest_number
  pub mass : (c : ℕ) → slice_index masses c + product ≤ greatest_number
  pub utility : nat_abs sum + nat_sum_over (greatest_at nodes) vs ≤ greatest_utility nodes
  pub most : greatest_utility nodes ≤ greatest_number

-- What a walk finds in its setting, and what it adds to the gains and masses of the cells.
use Rattle.std.specs.Prelude.{◌≡◌, ℕ, ◌*◌, List, ◌++◌, slice_index, slice_index_or, ℤ, pos, ◌+ℤ◌}
use Rattle.diagram_graph.specs.Cycles.{lists_in}
use Rattle.finite_sums.specs.Sums.{World}
use Rattle.maid_model.specs.Nodes.{rows_of, states_of}
use Rattle.maid_model.specs.Worlds.{world_of}
use Rattle.tree_checker.specs.Walks.{HasRoomToWalk, CanAddWorld, IsWalkSetting, gain_with, mass_with, world_gain, world_mass, ArePlaces, IsDownward, IsEnding, IsLast, ending, last_nodes, last_two}
use Rattle.tree_checker.specs.declared.settings.Setting.{Setting}
use Rattle.tree_checker.specs.declared.settings.Last.{Last}
use Rattle.tree_checker.specs.declared.settings.Places.{Places}

-- what the setting has is right
abbrev pub HoldsWalkSetting : Setting → Type 0
HoldsWalkSetting s =
    IsWalkSetting s.diagram.now s.profile.now (lists_in s.factors.now) s.marks.now s.left_out

-- so many are the cells of the decision left out
abbrev pub IsCellCount : Setting → ℕ → Type 0
IsCellCount s n =
    n ≡ rows_of s.diagram.now.nodes s.left_out * states_of s.diagram.now.nodes s.left_out

-- what the listed nodes can still add fits
abbrev pub HasRoomIn : Setting → List ℕ → ℕ → ℤ → List ℤ → List ℕ → Type 0
HasRoomIn s vs product sum gains masses =
    HasRoomToWalk s.diagram.now.nodes s.profile.now s.left_out vs product sum gains masses

-- each cell's gain rises by weight times utilities, summed over the states of the listed nodes,
-- where the others have those of the world
abbrev pub AddsGains : Setting → List ℕ → ℕ → ℤ → List ℕ → List ℤ → List ℤ → Type 0
AddsGains s vs product utility world before after = (c : ℕ) → slice_index_or after c (pos 0)
    ≡ slice_index_or before c (pos 0)
    +ℤ gain_with s.diagram.now.nodes s.profile.now s.left_out s.marks.now vs product utility c
    (world_of world)

-- and each cell's mass by their weights
abbrev pub AddsMasses : Setting → List ℕ → ℕ → List ℕ → List ℕ → List ℕ → Type 0
AddsMasses s vs product world before after = (c : ℕ) → pos (slice_index after c)
    ≡ pos (slice_index before c)
    +ℤ mass_with s.diagram.now.nodes s.profile.now s.left_out vs product c (world_of world)

-- ---- the notions of walks in a setting
-- a node that weighs something, with a utility of the setting's marks after it
abbrev pub IsLastIn : Setting → Last → Type 0
IsLastIn s last = IsLast s.diagram.now.nodes s.left_out s.marks.now last

-- the places of a world with that one in its first state
abbrev pub ArePlacesIn : Setting → Last → World → Places → Type 0
ArePlacesIn s last w places = ArePlaces s.diagram.now.nodes s.left_out last.node last.utility w places

-- nodes none of which stands again later, or has a later one as a parent
abbrev pub IsDownwardIn : Setting → List ℕ → Type 0
IsDownwardIn s vs = IsDownward s.diagram.now.nodes vs

-- the nodes with which its walks end
abbrev pub ending_of : Setting → List ℕ
ending_of s = ending s.last s.tail.now

-- those nodes are right: utilities alone, or the last weighing nodes with their utility
abbrev pub HasEnding : Setting → Type 0
HasEnding s = IsEnding s.diagram.now.nodes s.left_out s.marks.now s.last s.tail.now

-- ---- what the steps of a walk add, and the room that they need
-- the nodes that a walk goes down from this order on
abbrev pub walked : Setting → List ℕ → List ℕ
walked s order = order ++ ending_of s

-- each cell's gain rises by what a walk down the order adds
abbrev pub GainsDown : Setting → List ℕ → ℕ → ℤ → List ℕ → List ℤ → List ℤ → Type 0
GainsDown s order product utility world before after =
    AddsGains s (walked s order) product utility world before after

-- each cell's mass rises by what it adds
abbrev pub MassesDown : Setting → List ℕ → ℕ → List ℕ → List ℕ → List ℕ → Type 0
MassesDown s order product world before after =
    AddsMasses s (walked s order) product world before after

-- what it can still add fits
abbrev pub HasRoomDown : Setting → List ℕ → ℕ → ℤ → List ℤ → List ℕ → Type 0
HasRoomDown s order product utility gains masses =
    HasRoomIn s (walked s order) product utility gains masses

-- each cell's gain rises by what the ending adds
abbrev pub GainsByEnding : Setting → ℕ → ℤ → List ℕ → List ℤ → List ℤ → Type 0
GainsByEnding s product utility world before after =
    AddsGains s (ending_of s) product utility world before after

-- each cell's mass rises by what the ending adds
abbrev pub MassesByEnding : Setting → ℕ → List ℕ → List ℕ → List ℕ → Type 0
MassesByEnding s product world before after = AddsMasses s (ending_of s) product world before after

-- what the ending can still add fits
abbrev pub HasRoomToEnd : Setting → ℕ → ℤ → List ℤ → List ℕ → Type 0
HasRoomToEnd s product utility gains masses =
    HasRoomIn s (ending_of s) product utility gains masses

-- each cell's gain rises by what the last weighing nodes add, one or two of them, with their
-- utility
abbrev pub GainsByLast : Setting → Last → ℕ → ℤ → List ℕ → List ℤ → List ℤ → Type 0
GainsByLast s last product utility world before after =
    AddsGains s (last_nodes last) product utility world before after

-- each cell's mass rises by what they add
abbrev pub MassesByLast : Setting → Last → ℕ → List ℕ → List ℕ → List ℕ → Type 0
MassesByLast s last product world before after =
    AddsMasses s (last_nodes last) product world before after

-- what they can still add fits
abbrev pub HasRoomForLast : Setting → Last → ℕ → ℤ → List ℤ → List ℕ → Type 0
HasRoomForLast s last product utility gains masses =
    HasRoomIn s (last_nodes last) product utility gains masses

-- each cell's gain rises by what the last of them alone adds, with that utility
abbrev pub GainsByOne : Setting → Last → ℕ → ℤ → List ℕ → List ℤ → List ℤ → Type 0
GainsByOne s last product utility world before after =
    AddsGains s (last_two last) product utility world before after

-- each cell's mass rises by what it adds
abbrev pub MassesByOne : Setting → Last → ℕ → List ℕ → List ℕ → List ℕ → Type 0
MassesByOne s last product world before after =
    AddsMasses s (last_two last) product world before after

-- ---- what one world adds, with the marked utilities of the setting's tail
-- each cell's gain rises by that
abbrev pub AddsWorldGain : Setting → ℕ → ℤ → List ℕ → List ℤ → List ℤ → Type 0
AddsWorldGain s product utility world before after = (c : ℕ) → slice_index_or after c (pos 0)
    ≡ slice_index_or before c (pos 0)
    +ℤ world_gain s.diagram.now.nodes s.left_out s.marks.now s.tail.now product utility c
    (world_of world)

-- each cell's mass rises by the world's weight
abbrev pub AddsWorldMass : Setting → ℕ → List ℕ → List ℕ → List ℕ → Type 0
AddsWorldMass s product world before after = (c : ℕ) → pos (slice_index after c)
    ≡ pos (slice_index before c)
    +ℤ world_mass s.diagram.now.nodes s.left_out product c (world_of world)

-- it can be added
abbrev pub HasRoomForWorld : Setting → ℕ → ℤ → List ℤ → List ℕ → Type 0
HasRoomForWorld s product utility gains masses =
    CanAddWorld s.diagram.now.nodes s.tail.now product utility gains masses

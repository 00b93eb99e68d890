use Rattle.std.proofs.Common.{◌≡◌, ◌<◌, drop}
use Rattle.maid_model.specs.Nodes.{rows_under, states_of}
use Rattle.app_forms.specs.Given.{shows}
use Rattle.app_forms.proofs.forms.given.shows.Given as goal

-- `below` counts the rows under the parents still to come, and `rest` is the row among those
abbrev pub invariant-loop-parent : goal.invariant-loop-parent
invariant-loop-parent l =
    (l.below ≡ rows_under (states_of l.diagram.nodes) (drop l.parent-index l.parents))
    × (l.rest < l.below)
    × (shows (states_of l.diagram.nodes) l.parents l.number l.place.node l.place.state ≡ shows (states_of l.diagram.nodes) (drop l.parent-index l.parents) l.rest l.place.node l.place.state)

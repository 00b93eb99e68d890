use Rattle.std.proofs.Common.{◌≡◌, length}
use Rattle.maid_model.specs.Worlds.{worlds_from}
use Rattle.pure_search.specs.Following.{FollowsChoices}
use Rattle.pure_search.specs.Games.{counts_for}
use Rattle.pure_search.proofs.Tabled.{RowsToCome}
use Rattle.pure_search.proofs.tables.add_rows.Given as goal

-- the rows to come, and the sum under the choices
abbrev pub invariant-profiles : goal.invariant-profiles
invariant-profiles l = record { rows : RowsToCome l.diagram.nodes l.agent (worlds_from (counts_for l.diagram.nodes) l.fn.choices) l.fn.table l.table l.choices; under : FollowsChoices l.diagram.nodes l.agent l.choices l.sum; len : length l.before.items ≡ length (counts_for l.diagram.nodes) }

-- each turn goes on in the list
abbrev pub decreases-profiles : goal.decreases-profiles
decreases-profiles l = length (worlds_from (counts_for l.diagram.nodes) l.choices)

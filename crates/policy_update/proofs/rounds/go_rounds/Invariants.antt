use Rattle.std.proofs.Common.{◌≡◌}
use Rattle.reach_laws.specs.Updates.{IsReachedAfter}
use Rattle.policy_update.specs.Steps.{AreSettledBut, IsProfileOf}
use Rattle.policy_update.proofs.rounds.go_rounds.Given as goal

-- all rounds so far raised; all but the unsettled decisions are settled; the workspaces are as they
-- were
abbrev pub invariant-loop-raised : goal.invariant-loop-raised
invariant-loop-raised l = IsProfileOf l.diagram.nodes l.answers l.profile × AreSettledBut l.diagram.nodes l.profile l.unsettled × IsReachedAfter l.diagram.nodes l.raised l.profile × (l.spaces ≡ l.fn.spaces)

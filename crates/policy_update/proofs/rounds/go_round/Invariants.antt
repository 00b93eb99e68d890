use Rattle.std.proofs.Common.{◌≡◌, ℕ, take}
use Rattle.maid_model.specs.Nodes.{decisions_of}
use Rattle.maid_model.specs.Subgames.{OwnsAll}
use Rattle.reach_laws.specs.Updates.{IsPass}
use Rattle.policy_update.specs.Steps.{AreSettledBut, IsProfileOf}
use Rattle.policy_update.proofs.Rising.{Rises}
use Rattle.policy_update.proofs.rounds.go_round.Given as goal

-- all but the unsettled ones are settled, the decisions so far made a pass, and it is known whether
-- the profile changed; the workspaces are as they were
abbrev pub invariant-loop-place : goal.invariant-loop-place
invariant-loop-place l =
    IsProfileOf l.diagram.nodes l.answers l.profile
    × AreSettledBut l.diagram.nodes l.profile l.unsettled
    × IsPass l.diagram.nodes (take l.place (decisions_of l.diagram.nodes)) l.fn.profile l.profile
    × ((agent : ℕ) → OwnsAll l.diagram.nodes agent → Rises l.diagram.nodes agent l.raised l.fn.profile l.profile)
    × (l.spaces ≡ l.fn.spaces)

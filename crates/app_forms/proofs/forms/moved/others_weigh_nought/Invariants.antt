use Rattle.std.proofs.Common.{◌≡◌, ◌≢◌, ◌<◌, ℕ, pos}
use Rattle.reach_laws.specs.Threshold.{state_weight}
use Rattle.app_forms.proofs.forms.moved.others_weigh_nought.Given as goal

-- the other states so far weigh nought
abbrev pub invariant-loop-state : goal.invariant-loop-state
invariant-loop-state l = (s : ℕ) → s < l.state → s ≢ l.place.state → state_weight l.diagram.nodes l.place.node s l.row ≡ pos 0

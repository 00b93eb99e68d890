use Rattle.std.proofs.Common.{◌≢◌, ◌<◌, ℕ}
use Rattle.maid_model.specs.Names.{label_of}
use Rattle.app_forms.proofs.forms.chances.first_state.Given as goal

-- no state before it has the label
abbrev pub invariant-loop-state : goal.invariant-loop-state
invariant-loop-state l = (k : ℕ) → k < l.state → label_of l.names l.node k ≢ l.label

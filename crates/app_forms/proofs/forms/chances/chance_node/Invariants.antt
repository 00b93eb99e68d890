use Rattle.std.proofs.Common.{◌≢◌, ◌<◌, ℕ}
use Rattle.maid_model.specs.Names.{name_of}
use Rattle.app_forms.proofs.forms.chances.chance_node.Given as goal

-- no node before it has the name
abbrev pub invariant-loop-v : goal.invariant-loop-v
invariant-loop-v l = (k : ℕ) → k < l.v → name_of l.names k ≢ l.name

use Rattle.std.proofs.Common.{take}
use Rattle.std.specs.List.{AllZip}
use Rattle.policy_update.specs.Kept.{IsScopeOf}
use Rattle.policy_update.proofs.keeping.list_scopes.Given as goal

-- the scopes of the decisions so far
abbrev pub invariant-loop-decision : goal.invariant-loop-decision
invariant-loop-decision l = AllZip (IsScopeOf l.diagram.nodes) (take l.decision-index l.decisions) l.scopes.items

use Rattle.std.proofs.Common.{◌≡◌, map, take, replicate}
use Rattle.maid_model.specs.Answers.{no_row}
use Rattle.maid_model.specs.Nodes.{rows_of}
use Rattle.policy_update.proofs.starting.first_choices.Given as goal

-- the decisions so far
abbrev pub invariant-loop-decision : goal.invariant-loop-decision
invariant-loop-decision l = l.answers.items ≡ map (λ v. record { decision = v; rows = replicate (rows_of l.diagram.nodes v) no_row }) (take l.decision-index l.decisions)

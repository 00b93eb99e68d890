use Rattle.maid_model.proofs.Pure.{pure_at}
use Rattle.maid_model.proofs.Made.{MadeSoFar}
use Rattle.maid_model.proofs.profiles.Profile.pure.Given as goal

-- the rules of the decisions so far
abbrev pub invariant-loop-v : goal.invariant-loop-v
invariant-loop-v l = MadeSoFar l.diagram.nodes (pure_at l.diagram.nodes l.answers) l.rules.items l.v

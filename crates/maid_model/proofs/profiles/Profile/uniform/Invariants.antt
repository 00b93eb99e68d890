use Rattle.maid_model.specs.Profiles.{uniform_rule}
use Rattle.maid_model.proofs.Made.{MadeSoFar}
use Rattle.maid_model.proofs.profiles.Profile.uniform.Given as goal

-- the rules of the decisions so far
abbrev pub invariant-loop-v : goal.invariant-loop-v
invariant-loop-v l = MadeSoFar l.diagram.nodes (uniform_rule l.diagram.nodes) l.rules.items l.v

use Rattle.std.proofs.Common.{◌≡◌}
use Rattle.tree_checker.proofs.PartRules.{rules_before}
use Rattle.tree_checker.proofs.parts.rules_in_part.Given as goal

-- the rules of the kept decisions so far
abbrev pub invariant-loop-place : goal.invariant-loop-place
invariant-loop-place l = l.rules.items ≡ rules_before l.diagram.nodes l.profile l.kept l.place

use Rattle.std.proofs.Common.{◌≡◌, ◌<◌, ◌^◌, ℕ, length, get_or}
use Rattle.maid_model.specs.declared.answers.Ratio.{Ratio}
use Rattle.maid_model.specs.Answers.{IsExpectedUtility}
use Rattle.pure_search.proofs.worths.worths.Given as goal

-- the worths so far
abbrev pub invariant-loop-agent : goal.invariant-loop-agent
invariant-loop-agent l =
    (length l.gains.items ≡ l.agent)
    × ((a : ℕ) (r : Ratio) → a < l.agent → IsExpectedUtility l.diagram.nodes (10 ^ l.diagram.decimals) l.chosen a (get_or l.gains.items a r))

-- What holds of an accepted report.
use Rattle.std.specs.Prelude.{◌≡◌, ℕ}
use Rattle.maid_model.specs.Views.{DiagramView, SolvedView}
use Rattle.maid_model.specs.Subgames.{IsSubgamePerfect, IsOptimal, OwnsAll}
use Rattle.maid_model.specs.Answers.{KeepsWorth, answered}
use Rattle.maid_model.specs.Values.{PrintsOptima}
use Rattle.tree_checker.specs.declared.verdicts.Verdict.{Verdict}
use Rattle.tree_checker.specs.declared.verdicts.Verdict.TheVariants.{Accepted}

-- From no subgame start does an agent gain by other rules of its own. No profile is worth more to
-- an agent that owns all decisions, and what is printed for it is the optimum. In a row of a live
-- decision that the answered profile reaches, the printed worth is that under the profile itself.
pub record IsSound (d : DiagramView) (solved : SolvedView) : Type 0 where
  pub subgame_perfect : IsSubgamePerfect d.nodes (answered d solved)
  pub optimal : (agent : ℕ) → OwnsAll d.nodes agent → IsOptimal d.nodes (answered d solved) agent
  pub optimum : PrintsOptima d solved
  pub worth : KeepsWorth d solved

-- what is accepted is sound
abbrev pub IsSoundIfAccepted : DiagramView → SolvedView → Verdict → Type 0
IsSoundIfAccepted d solved verdict = verdict ≡ Accepted → IsSound d solved

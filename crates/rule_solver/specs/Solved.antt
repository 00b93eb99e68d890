-- What the answer's profile is.
use Rattle.std.specs.Prelude.{ℕ}
use Rattle.maid_model.specs.Answers.{answered}
use Rattle.maid_model.specs.Subgames.{IsOptimal, IsSubgamePerfect, OwnsAll}
use Rattle.maid_model.specs.Views.{DiagramView, SolvedView}

-- from no subgame start does an agent gain by other rules of its own
abbrev pub HasPerfectProfile : DiagramView → SolvedView → Type 0
HasPerfectProfile d solved = IsSubgamePerfect d.nodes (answered d solved)

-- no profile is worth more to an agent that owns all decisions
abbrev pub HasOptimalProfile : DiagramView → SolvedView → Type 0
HasOptimalProfile d solved =
    (agent : ℕ) → OwnsAll d.nodes agent → IsOptimal d.nodes (answered d solved) agent

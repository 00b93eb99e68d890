-- What holds of the answer of a diagram.
use Rattle.std.specs.Prelude.{◌≡◌, ℕ, ◌<◌, List, length, take, Contains, slice_index, pos, ◌<ℤ◌, ◌≤ℤ◌}
use Rattle.maid_model.specs.declared.answers.Ratio.{Ratio}
use Rattle.maid_model.specs.Views.{NodeView, DiagramView, RuleView, SolvedView}
use Rattle.maid_model.specs.Nodes.{IsDecision, states_of, rows_of}
use Rattle.maid_model.specs.Graph.{IsGraph}
use Rattle.maid_model.specs.Tables.{HasChanceTables}
use Rattle.maid_model.specs.Profiles.{IsProfile}
use Rattle.maid_model.specs.Gains.{gain_at, mass_at}
use Rattle.maid_model.specs.Relevance.{IsLive, ReliesOn}
use Rattle.maid_model.specs.Subgames.{IsSubgamePerfect, IsOptimal, OwnsAll}
use Rattle.maid_model.specs.Answers.{IsAnswer, IsBase, FitsDiagram, IsWorthAt, KeepsWorth, answered, answer_at}
use Rattle.maid_model.specs.Accepted.{IsAccepted}
use Rattle.maid_model.specs.Placing.{HasRelianceOrder}
use Rattle.maid_model.specs.Values.{PrintsOptima}
use Rattle.maid_laws.specs.Exchange.{IsBestInBases}

-- at each row of v in which its base has mass, no state has a greater gain against the base than
-- the answered choice
pub record HasBestChoices (d : DiagramView) (solved : SolvedView) (v : ℕ) : Type 0 where
  pub base : List RuleView
  pub is_base : IsBase d.nodes (answered d solved) v base
  pub best : (state row : ℕ) → state < states_of d.nodes v → row < rows_of d.nodes v
      → pos 0 <ℤ mass_at d.nodes base v row
      → gain_at d.nodes base v state row
      ≤ℤ gain_at d.nodes base v (answer_at solved v row).choice row

-- Answered choices that are best against the bases, in any order in which each decision stands
-- after those that it relies on, make a profile that is best in its bases.
abbrev pub ChoicesAreBest : Type 0
ChoicesAreBest = (d : DiagramView) (solved : SolvedView) → IsGraph d.nodes → HasChanceTables d.nodes
    → FitsDiagram d solved
    → ((i e : ℕ) → i < length solved.order → ReliesOn d.nodes (slice_index solved.order i) e
    → Contains (take i solved.order) e)
    → ((v : ℕ) → IsDecision d.nodes v → HasBestChoices d solved v)
    → IsBestInBases d.nodes (answered d solved)

-- The answer is best in its bases.
abbrev pub AnswersAreBest : Type 0
AnswersAreBest = (d : DiagramView) (solved : SolvedView) → IsGraph d.nodes → HasChanceTables d.nodes
    → IsAnswer d solved → IsBestInBases d.nodes (answered d solved)

-- From no subgame start does an agent gain by other rules of its own than the answered ones.
abbrev pub AnswersAreSubgamePerfect : Type 0
AnswersAreSubgamePerfect = (d : DiagramView) (solved : SolvedView) → IsGraph d.nodes
    → HasChanceTables d.nodes → IsAnswer d solved → IsSubgamePerfect d.nodes (answered d solved)

-- Where one agent owns all decisions, no profile is worth more to it than the answered one.
abbrev pub AnswersAreOptimal : Type 0
AnswersAreOptimal = (d : DiagramView) (solved : SolvedView) (agent : ℕ) → IsGraph d.nodes
    → HasChanceTables d.nodes → IsAnswer d solved → OwnsAll d.nodes agent
    → IsOptimal d.nodes (answered d solved) agent

-- Where one agent owns all decisions, the fraction printed for it is the optimum of the diagram.
abbrev pub GainsAreOptima : Type 0
GainsAreOptima = (d : DiagramView) (solved : SolvedView) → IsGraph d.nodes → HasChanceTables d.nodes
    → IsAnswer d solved → PrintsOptima d solved

-- An answer is an accepted report.
abbrev pub AnswersAreAccepted : Type 0
AnswersAreAccepted =
    (d : DiagramView) (solved : SolvedView) → IsAnswer d solved → IsAccepted d solved

-- A diagram has one answer at most: the order, the choices, the worths and the gains are all
-- settled.
abbrev pub OneAnswer : Type 0
OneAnswer =
    (d : DiagramView) (one other : SolvedView) → IsGraph d.nodes → HasChanceTables d.nodes
    → IsAnswer d one → IsAnswer d other → one ≡ other

-- Where its decisions have an order of solving it has one.
abbrev pub AnswerExists : Type 0
AnswerExists = (d : DiagramView) → IsGraph d.nodes → HasChanceTables d.nodes
    → HasRelianceOrder d.nodes → (solved : SolvedView) × IsAnswer d solved

-- Where a profile has mass in a row, so has the base of the decision in it, and what a state of a
-- live decision is worth against the base it is worth under the profile itself.
abbrev pub WorthInBase : Type 0
WorthInBase = (nodes : List NodeView) (s base : List RuleView) (v state row scale : ℕ) (w : Ratio)
    → IsGraph nodes → HasChanceTables nodes → IsProfile nodes s → IsDecision nodes v
    → IsBase nodes s v base → pos 0 <ℤ mass_at nodes s v row
    → (pos 0 <ℤ mass_at nodes base v row)
    × (IsLive nodes v → IsWorthAt nodes scale base v state row w
    → IsWorthAt nodes scale s v state row w)

-- In a row of a live decision that the answered profile reaches, the row's worth is the expected
-- utility below the decision under that profile itself.
abbrev pub WorthUnderTheProfile : Type 0
WorthUnderTheProfile = (d : DiagramView) (solved : SolvedView) → IsGraph d.nodes
    → HasChanceTables d.nodes → IsAnswer d solved → KeepsWorth d solved

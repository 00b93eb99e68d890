-- What the interval of a moved probability promises.
use Rattle.std.specs.Prelude.{◌≡◌, ℕ, ◌<◌, ◌≤◌, List, pos}
use Rattle.maid_model.specs.Answers.{IsFraction, answered}
use Rattle.maid_model.specs.Subgames.{IsSubgamePerfect}
use Rattle.maid_model.specs.Tables.{chance_total}
use Rattle.maid_model.specs.Views.{NodeView, DiagramView, SolvedView}
use Rattle.maid_model.specs.declared.answers.Ratio.{Ratio}
use Rattle.reach_laws.specs.Threshold.{state_weight, IsAtLeast, IsAtMost, IsMoved, IsSpan}
use Rattle.threshold.specs.declared.interval.Interval.{Interval}

-- the present probability in lowest terms: the state's weight over the table's total
abbrev pub TellsNow : List NodeView → ℕ → ℕ → ℕ → Interval → Type 0
TellsNow nodes x state row interval =
    IsFraction interval.now (state_weight nodes x state row) (chance_total nodes x)

-- the exact closed interval on which the answered rules hold
abbrev pub TellsSpan : DiagramView → SolvedView → ℕ → ℕ → ℕ → Interval → Type 0
TellsSpan d solved x state row interval =
    IsSpan d.nodes (answered d solved) x state row interval.low interval.high

-- at each fraction of it the answered rules are subgame-perfect in the diagram with the probability
-- moved there
abbrev pub StaysPerfect : DiagramView → SolvedView → ℕ → ℕ → ℕ → Interval → Type 0
StaysPerfect d solved x state row interval = (num den : ℕ) (moved : List NodeView) → 0 < den
    → num ≤ den → IsMoved d.nodes x state row num den moved → IsAtMost interval.low (pos num) den
    → IsAtLeast interval.high (pos num) den → IsSubgamePerfect moved (answered d solved)

-- there is no other interval with such ends
abbrev pub IsOnlySpan : DiagramView → SolvedView → ℕ → ℕ → ℕ → Interval → Type 0
IsOnlySpan d solved x state row interval = (low high : Ratio) → IsSpan d.nodes (answered d solved) x
    state row low high → (low ≡ interval.low) × (high ≡ interval.high)

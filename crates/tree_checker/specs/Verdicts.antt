-- Which lines of a report fail, and why; and the verdict, which names the first of them.
use Rattle.std.specs.Prelude.{◌≡◌, ◌⊎◌, ℕ, ◌+◌, ◌*◌, ◌^◌, ◌<◌, ◌≤◌, List, length, take, sum_by, slice_index, slice_index_or, ℤ, pos, ◌<ℤ◌, nat_abs, Some, None, IsSome}
use Rattle.maid_model.specs.declared.answers.Ratio.{Ratio}
use Rattle.maid_model.specs.declared.answers.Row.{Row}
use Rattle.maid_model.specs.Views.{NodeView, DiagramView, RuleView, AnswerView, SolvedView}
use Rattle.maid_model.specs.Nodes.{states_of, rows_of}
use Rattle.maid_model.specs.Gains.{gain_at, mass_at}
use Rattle.maid_model.specs.Answers.{IsBase, IsFraction, IsExpectedUtility, answered, answer_at}
use Rattle.maid_model.specs.Accepted.{IsReliedFirst, IsAccepted}
use Rattle.tree_checker.specs.declared.verdicts.Cause.{Cause}
use Rattle.tree_checker.specs.declared.verdicts.Cause.TheVariants.{Order, Choice, Worth, Never, Gain}
use Rattle.tree_checker.specs.declared.verdicts.Verdict.{Verdict}
use Rattle.tree_checker.specs.declared.verdicts.Verdict.TheVariants.{Accepted, Rejected}

-- how many lines an answer has: the decision's, and one for each row
abbrev pub line_count : AnswerView → ℕ
line_count answer = 1 + length answer.rows

-- The lines are counted from 1. The first is the head and the second the order; then the answers
-- stand in their order.
abbrev pub line_of_answer : SolvedView → ℕ → ℕ
line_of_answer solved place = 3 + sum_by line_count (take place solved.answers)

-- the line of a row of the answer at that place: it stands below the decision's line
abbrev pub line_of_row : SolvedView → ℕ → ℕ → ℕ
line_of_row solved place row = line_of_answer solved place + 1 + row

-- the line of an agent: it stands after all answers
abbrev pub line_of_gain : SolvedView → ℕ → ℕ
line_of_gain solved agent = 3 + sum_by line_count solved.answers + agent

-- some state has a greater gain than the choice
abbrev pub HasBetter : (ℕ → ℤ) → ℕ → ℕ → Type 0
HasBetter gain states choice = (s : ℕ) × (s < states) × (gain choice <ℤ gain s)

-- Why a row fails whose states have these gains. Never: it has mass and is marked, or has none and
-- isn't. Else Choice: it has mass, and some state has a greater gain. Else Worth: it isn't worth
-- its choice's gain over the mass and the scale.
abbrev pub FailsIn : (ℕ → ℤ) → ℕ → ℤ → ℕ → Row → Cause → Type 0
FailsIn gain states mass scale r Never =
    ((pos 0 <ℤ mass) × (r.worth ≡ None)) ⊎ ((mass ≡ pos 0) × IsSome r.worth)
FailsIn gain states mass scale r Choice =
    (pos 0 <ℤ mass) × IsSome r.worth × HasBetter gain states r.choice
FailsIn gain states mass scale r Worth =
    (pos 0 <ℤ mass) × (HasBetter gain states r.choice → ⊥)
    × ((w : Ratio) × (r.worth ≡ Some w) × (IsFraction w (gain r.choice) (nat_abs mass * scale) → ⊥))
FailsIn gain states mass scale r Order = ⊥
FailsIn gain states mass scale r Gain = ⊥

-- the row of d fails against the base
abbrev pub FailsRow : List NodeView → ℕ → List RuleView → ℕ → ℕ → Row → Cause → Type 0
FailsRow nodes decimals base d row r cause = FailsIn (λ s. gain_at nodes base d s row)
    (states_of nodes d) (mass_at nodes base d row) (10 ^ decimals) r cause

-- the row fails of the decision at that place of the order, against the decision's base in the
-- answered rules
pub record FailsAtRow
    (d : DiagramView) (solved : SolvedView) (place row : ℕ) (cause : Cause) : Type 0 where
  pub place_within : place < length solved.order
  pub row_within : row < rows_of d.nodes (slice_index solved.order place)
  pub base : List RuleView
  pub is_base : IsBase d.nodes (answered d solved) (slice_index solved.order place) base
  pub fails : FailsRow d.nodes d.decimals base (slice_index solved.order place) row
      (answer_at solved (slice_index solved.order place) row) cause

-- what stands for a gain that there is not
abbrev pub no_gain : Ratio
no_gain = record { num = pos 0; den = 1 }

-- what is printed for the agent isn't what the answered rules are worth to it
pub record FailsAtAgent (d : DiagramView) (solved : SolvedView) (agent : ℕ) : Type 0 where
  pub within : agent < d.agents
  pub fails : IsExpectedUtility d.nodes (10 ^ d.decimals) (answered d solved) agent
      (slice_index_or solved.gains agent no_gain) → ⊥

-- the line is that of a row which fails for the cause
abbrev pub FailsInRows : DiagramView → SolvedView → ℕ → Cause → Type 0
FailsInRows d solved line cause = (place : ℕ) × (row : ℕ) × (line ≡ line_of_row solved place row)
    × FailsAtRow d solved place row cause

-- The line fails for the cause: the second for the order, a row's for its choice, worth or mark, an
-- agent's for its gain.
abbrev pub FailsLine : DiagramView → SolvedView → ℕ → Cause → Type 0
FailsLine d solved line Order = (line ≡ 2) × (IsReliedFirst d.nodes solved.order → ⊥)
FailsLine d solved line Choice = FailsInRows d solved line Choice
FailsLine d solved line Worth = FailsInRows d solved line Worth
FailsLine d solved line Never = FailsInRows d solved line Never
FailsLine d solved line Gain =
    (agent : ℕ) × (line ≡ line_of_gain solved agent) × FailsAtAgent d solved agent

-- the line fails for the cause, and no line before it fails
pub record FailsAtFirst
    (d : DiagramView) (solved : SolvedView) (line : ℕ) (cause : Cause) : Type 0 where
  pub fails : FailsLine d solved line cause
  pub first : (other : ℕ) (why : Cause) → FailsLine d solved other why → line ≤ other

-- The verdict on what a report shows: it is accepted, or names the first line that fails and the
-- cause.
abbrev pub IsVerdict : DiagramView → SolvedView → Verdict → Type 0
IsVerdict d solved Accepted = IsAccepted d solved
IsVerdict d solved (Rejected line cause) = FailsAtFirst d solved line cause

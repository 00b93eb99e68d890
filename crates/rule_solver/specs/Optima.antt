-- What is chosen at decisions, without what it is worth. Only private functions cite it.
use Rattle.std.specs.Prelude.{◌≡◌, ◌<◌, ℕ, List, All, map, length, slice_index_or, ℤ, ◌≤ℤ◌, IfSome}
use Rattle.maid_model.specs.declared.answers.Row.{Row}
use Rattle.maid_model.specs.Answers.{FitsAnswer, IsBase, IsReduced, no_row, pure_profile}
use Rattle.maid_model.specs.Gains.{gain_at}
use Rattle.maid_model.specs.Nodes.{rows_of, states_of}
use Rattle.maid_model.specs.Views.{NodeView, RuleView, AnswerView}

-- so many rows, in each of which no state has a greater gain than the choice
pub record ChoosesRows (gain : ℕ → ℕ → ℤ) (states number : ℕ) (rows : List Row) : Type 0 where
  pub count : length rows ≡ number
  pub best : (state row : ℕ) → state < states → row < number
      → gain state row ≤ℤ gain (slice_index_or rows row no_row).choice row
  pub choices : All (λ r. r.choice < states) rows
  pub worths : All (λ r. IfSome r.worth IsReduced) rows

-- a row for each choice of the parents' states, best against the base
abbrev pub IsChosenBy : List NodeView → List RuleView → ℕ → List Row → Type 0
IsChosenBy nodes base d rows =
    ChoosesRows (gain_at nodes base d) (states_of nodes d) (rows_of nodes d) rows

-- the rows chosen at d, against the base of d in s
pub record IsChosenAt (nodes : List NodeView) (s : List RuleView) (d : ℕ) (rows : List Row) : Type 0
  where
    pub base : List RuleView
    pub is_base : IsBase nodes s d base
    pub chosen : IsChosenBy nodes base d rows

-- the rows of the list's decisions are chosen in its order, each against its base in the chosen
-- rules
pub record ChoosesAll
    (nodes : List NodeView) (placed : List ℕ) (answers : List AnswerView) : Type 0 where
  pub follow : map (λ a. a.decision) answers ≡ placed
  pub fits : All (FitsAnswer nodes) answers
  pub each : All (λ a. IsChosenAt nodes (pure_profile nodes answers) a.decision a.rows) answers

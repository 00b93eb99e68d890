-- What is answered at a decision against a base, and at the decisions of a list. Only private
-- functions cite it.
use Rattle.std.specs.Global.{Vec}
use Rattle.std.specs.Prelude.{◌≡◌, ◌<◌, ℕ, List, All, map, length, slice_index_or, IfSome}
use Rattle.maid_model.specs.declared.answers.Row.{Row}
use Rattle.maid_model.specs.Views.{NodeView, DiagramView, RuleView, AnswerView}
use Rattle.maid_model.specs.Nodes.{states_of, rows_of}
use Rattle.maid_model.specs.Answers.{FitsAnswer, IsAnswerAt, IsAnswerRow, IsReduced, no_row, pure_profile}

-- a row for each choice of the parents' states, each answered against the base, with choices in
-- range and worths in lowest terms
pub record IsAnsweredBy
    (nodes : List NodeView) (decimals : ℕ) (base : List RuleView) (d : ℕ) (rows : List Row) : Type 0
  where
    pub count : length rows ≡ rows_of nodes d
    pub each : (row : ℕ) → row < rows_of nodes d
        → IsAnswerRow nodes decimals base d row (slice_index_or rows row no_row)
    pub choices : All (λ r. r.choice < states_of nodes d) rows
    pub worths : All (λ r. IfSome r.worth IsReduced) rows

-- the decisions of the list are answered in its order, each against its base in the answered rules
pub record AnswersAll
    (nodes : List NodeView) (decimals : ℕ) (placed : List ℕ) (answers : List AnswerView) : Type 0
  where
    pub follow : map (λ a. a.decision) answers ≡ placed
    pub fits : All (FitsAnswer nodes) answers
    pub each :
        All (λ a. IsAnswerAt nodes decimals (pure_profile nodes answers) a.decision a.rows) answers

-- so the program has the rows
abbrev pub AreRowsAgainst : DiagramView → List RuleView → ℕ → Vec Row → Type 0
AreRowsAgainst d base decision rows = IsAnsweredBy d.nodes d.decimals base decision rows.items

-- and the answers
abbrev pub AreAnswersInOrder : DiagramView → List ℕ → Vec AnswerView → Type 0
AreAnswersInOrder d placed answers = AnswersAll d.nodes d.decimals placed answers.items

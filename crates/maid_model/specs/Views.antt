-- Nodes, diagrams, rules and answers as contracts see them: records of plain lists and numbers.
use Rattle.std.specs.Prelude.{ℕ, ℤ, List}
use Rattle.maid_model.specs.declared.diagrams.Kind.{Kind}
use Rattle.maid_model.specs.declared.answers.Row.{Row}
use Rattle.maid_model.specs.declared.answers.Ratio.{Ratio}

-- a node's kind, the number of its first owner, its further owners in written order, the count of
-- its states, its parents in order and its table
pub record NodeView : Type 0 where
  pub kind : Kind
  pub owner : ℕ
  pub more : List ℕ
  pub states : ℕ
  pub parents : List ℕ
  pub cells : List ℤ

-- the nodes by number, how many agents there are, and the power of ten by which utilities are
-- scaled
pub record DiagramView : Type 0 where
  pub nodes : List NodeView
  pub agents : ℕ
  pub decimals : ℕ

-- the diagram of these nodes, so many agents and that power of ten
abbrev pub diagram_of : List NodeView → ℕ → ℕ → DiagramView
diagram_of nodes agents decimals =
    record { nodes = nodes; agents = agents; decimals = decimals }

-- a decision's rule: for each row of its parents' states one weight a state, and what each row adds
-- up to
pub record RuleView : Type 0 where
  pub decision : ℕ
  pub total : ℕ
  pub weights : List ℕ

-- what is answered at a decision, row by row
pub record AnswerView : Type 0 where
  pub decision : ℕ
  pub rows : List Row

-- the order of solving, the answers in that order, and what the plan is worth to each agent
pub record SolvedView : Type 0 where
  pub order : List ℕ
  pub answers : List AnswerView
  pub gains : List Ratio

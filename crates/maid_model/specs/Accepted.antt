-- A finished report that is accepted: the order is one of solving, each row is best against its
-- base and worth what it says, and so is each agent's gain.
use Rattle.std.specs.Prelude.{◌≡◌, ℕ, ◌<◌, List, length, take, Contains, slice_index, slice_index_or, pos, ◌≤ℤ◌, ◌<ℤ◌, None}
use Rattle.maid_model.specs.declared.answers.Row.{Row}
use Rattle.maid_model.specs.Views.{NodeView, DiagramView, RuleView, SolvedView}
use Rattle.maid_model.specs.Nodes.{IsDecision, states_of, rows_of}
use Rattle.maid_model.specs.Gains.{gain_at, mass_at}
use Rattle.maid_model.specs.Relevance.{ReliesOn}
use Rattle.maid_model.specs.Answers.{IsBase, HasWorth, IsGains, FitsDiagram, pure_profile, rows_at, no_row}

-- each decision of the order stands after those that it relies on
abbrev pub IsReliedFirst : List NodeView → List ℕ → Type 0
IsReliedFirst nodes order = (i e : ℕ) → i < length order → ReliesOn nodes (slice_index order i) e
    → Contains (take i order) e

-- A row with mass against the base isn't marked as never reached, no state has a greater gain than
-- its choice, and it is worth its gain over the mass. A row without mass is marked.
pub record IsAcceptedRow
    (nodes : List NodeView) (decimals : ℕ) (base : List RuleView) (d row : ℕ) (r : Row) : Type 0
  where
    pub best : pos 0 <ℤ mass_at nodes base d row → (s : ℕ) → s < states_of nodes d
        → gain_at nodes base d s row ≤ℤ gain_at nodes base d r.choice row
    pub worth : pos 0 <ℤ mass_at nodes base d row → HasWorth nodes decimals base d row r
    pub never : mass_at nodes base d row ≡ pos 0 → r.worth ≡ None

-- the rows of d, against the base of d in the report's own rules s
pub record IsAcceptedAt
    (nodes : List NodeView) (decimals : ℕ) (s : List RuleView) (d : ℕ) (rows : List Row) : Type 0
  where
    pub base : List RuleView
    pub is_base : IsBase nodes s d base
    pub each : (row : ℕ) → row < rows_of nodes d
        → IsAcceptedRow nodes decimals base d row (slice_index_or rows row no_row)

-- what a report shows is accepted
pub record IsAccepted (d : DiagramView) (solved : SolvedView) : Type 0 where
  pub fits : FitsDiagram d solved
  pub order : IsReliedFirst d.nodes solved.order
  pub rows : (v : ℕ) → IsDecision d.nodes v
      → IsAcceptedAt d.nodes d.decimals (pure_profile d.nodes solved.answers) v
      (rows_at solved.answers v)
  pub gains : IsGains d (pure_profile d.nodes solved.answers) solved.gains

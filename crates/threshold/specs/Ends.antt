-- The two diagrams in which the probability is 0 and 1. Only private functions cite it.
use Rattle.std.specs.Prelude.{◌≡◌, ℕ, ◌<◌, ◌≤◌, List, pos, ◌<ℤ◌}
use Rattle.first_fault.specs.Passes.{Pass}
use Rattle.maid_model.specs.Diagrams.{greatest_number}
use Rattle.maid_model.specs.Scopes.{KeepsScopedBounds}
use Rattle.maid_model.specs.Tables.{chance_total}
use Rattle.maid_model.specs.Views.{NodeView, DiagramView}
use Rattle.reach_laws.specs.Threshold.{IsMoved, others_weight}
use Rattle.threshold.specs.Faults.{FaultView, IsCommonMultiple, span_pass}
use Rattle.threshold.specs.declared.ends.Totals.{Totals}
use Rattle.threshold.specs.declared.weights.Place.{Place}

-- the refusals at the place
abbrev pub place_pass : DiagramView → Place → Pass FaultView
place_pass d place = span_pass d place.node place.state place.row

-- the table's total, what the other states of the row weigh, which is above nought, and their least
-- common multiple, within the range of totals
pub record AreTotals (nodes : List NodeView) (place : Place) (totals : Totals) : Type 0 where
  pub table : totals.table ≡ chance_total nodes place.node
  pub others : pos totals.others ≡ others_weight nodes place.node place.state place.row
  pub some : 0 < totals.others
  pub common : IsCommonMultiple nodes place.node place.state place.row totals.common
  pub positive : 0 < totals.common
  pub small : totals.common ≤ greatest_number

-- the diagram in which the probability is 0 or 1, with that total
pub record IsEnd
    (d : DiagramView) (place : Place) (num whole : ℕ) (end : DiagramView) : Type 0 where
  pub moved : IsMoved d.nodes place.node place.state place.row num 1 end.nodes
  pub total : chance_total end.nodes place.node ≡ whole
  pub agents : end.agents ≡ d.agents
  pub decimals : end.decimals ≡ d.decimals

-- both, with one total
pub record AreEnds (d : DiagramView) (place : Place) (nought one : DiagramView) : Type 0 where
  pub some : pos 0 <ℤ others_weight d.nodes place.node place.state place.row
  pub total : ℕ
  pub at_nought : IsEnd d place 0 total nought
  pub at_one : IsEnd d place 1 total one
  pub bound_nought : KeepsScopedBounds nought
  pub bound_one : KeepsScopedBounds one

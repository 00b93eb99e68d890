-- What refuses the question how far a probability may move, and the lines that say so.
use Rattle.std.specs.Prelude.{◌≡◌, ℕ, ◌-◌, ◌<◌, ◌≤◌, List, Option, None, Some}
use Rattle.first_fault.specs.Passes.{over}
use Rattle.maid_model.specs.Names.{NamesView}
use Rattle.maid_model.specs.Nodes.{rows_of}
use Rattle.maid_model.specs.Views.{DiagramView}
use Rattle.threshold.specs.Faults.{OthersWeighNought, IsCommonMultiple, WeightBound, total_pass}
use Rattle.app_forms.specs.Lines.{bound_line, no_other_state_line, unknown_row_line}

-- the node's table has the row of that number, counted from 1
pub record HasRow (d : DiagramView) (x row : ℕ) : Type 0 where
  pub some : 0 < row
  pub within : row ≤ rows_of d.nodes x

-- it has not, which is told
pub record TellsUnknownRow (d : DiagramView) (x row : ℕ) (told : List ℕ) : Type 0 where
  pub unknown : HasRow d x row → ⊥
  pub says : told ≡ unknown_row_line row

-- all other states of the row weigh nought, which is told
pub record TellsNoOthers (d : DiagramView) (x state row : ℕ) (name told : List ℕ) : Type 0 where
  pub nought : OthersWeighNought d.nodes x state (row - 1)
  pub says : told ≡ no_other_state_line name

-- the common multiple is within the range of totals, and with it in the place of x's total the
-- weight bound is kept
abbrev pub KeepsMovedBound : DiagramView → ℕ → ℕ → ℕ → Type 0
KeepsMovedBound d x state row =
    over (IsCommonMultiple d.nodes x state (row - 1)) (total_pass d x) None

-- the common multiple is out of range, or the weight bound is passed, and it is told where
pub record TellsMovedBound
    (d : DiagramView) (x state row : ℕ) (names : NamesView) (told : List ℕ) : Type 0 where
  pub at : Option ℕ
  pub passes :
      over (IsCommonMultiple d.nodes x state (row - 1)) (total_pass d x) (Some (WeightBound at))
  pub says : told ≡ bound_line names at

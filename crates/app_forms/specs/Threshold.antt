-- What `threshold` writes: how far one probability may move.
use Rattle.std.specs.Prelude.{◌≡◌, ℕ, ◌-◌, ◌<◌, List, [], ◌∷◌, ◌++◌, codes, decimal}
use Rattle.first_fault.specs.Passes.{Pass, ◌▸◌}
use Rattle.maid_model.specs.declared.diagrams.Kind.TheVariants.{Chance}
use Rattle.maid_model.specs.Names.{NamesView, label_of, name_of}
use Rattle.maid_model.specs.Nodes.{node_at, states_of}
use Rattle.maid_model.specs.Reports.{line, quoted, ratio_text}
use Rattle.maid_model.specs.Views.{DiagramView, SolvedView}
use Rattle.threshold.specs.Faults.{OthersWeighNought}
use Rattle.threshold.specs.Intervals.{TellsNow, TellsSpan, IsOnlySpan, StaysPerfect}
use Rattle.threshold.specs.declared.interval.Interval.{Interval}
use Rattle.app_forms.specs.Chances.{IsStatePlace}
use Rattle.app_forms.specs.declared.forms.chances.StatePlace.{StatePlace}
use Rattle.app_forms.specs.Moved.{HasRow, KeepsMovedBound, TellsMovedBound, TellsNoOthers, TellsUnknownRow}
use Rattle.app_forms.specs.Outcome.{Refused}
use Rattle.app_forms.specs.Solve.{IsSolution, IsSolvable, solver_stages}
use Rattle.app_forms.specs.Stages.{Stage, stage, name_stages, text_fault, unknown_row, no_others, moved_bound}
use Rattle.app_forms.specs.Tasks.{Task, text_task}
use Rattle.app_forms.specs.declared.status.Status.TheVariants.{UnknownRow, NoOthers, WeightBound}
use Rattle.std.specs.Global.{Vec}

-- the node, the row's number from 1, the state, its probability there, and the ends of the interval
abbrev pub threshold_text : NamesView → ℕ → ℕ → ℕ → Interval → List ℕ
threshold_text names x state row interval = line (codes "maidsolve threshold 1")
    ++ line (name_of names x ++ codes " row " ++ decimal row ++ codes ": "
    ++ quoted (label_of names x state) ++ codes " = " ++ ratio_text interval.now
    ++ codes " from " ++ ratio_text interval.low ++ codes " to " ++ ratio_text interval.high)

-- The exact closed interval in which the answer's rules hold; inside they are subgame-perfect in
-- the changed diagram.
pub record HasThreshold
    (node : List ℕ) (row : ℕ) (state : List ℕ) (d : DiagramView) (names : NamesView)
    (printed : List ℕ) : Type 0 where
  pub place : StatePlace
  pub is_place : IsStatePlace d names node state place
  pub solved : SolvedView
  pub solution : IsSolution d solved
  pub interval : Interval
  pub now : TellsNow d.nodes place.node place.state (row - 1) interval
  pub span : TellsSpan d solved place.node place.state (row - 1) interval
  pub only : IsOnlySpan d solved place.node place.state (row - 1) interval
  pub subgame_perfect : StaysPerfect d solved place.node place.state (row - 1) interval
  pub is : printed ≡ threshold_text names place.node place.state row interval

-- the diagram has the state and the row with another state of weight, the solver answers it, and
-- the changed diagrams keep the weight bound
pub record CanBeMoved
    (node : List ℕ) (row : ℕ) (state : List ℕ) (d : DiagramView) (names : NamesView) : Type 0 where
  pub place : StatePlace
  pub is_place : IsStatePlace d names node state place
  pub has_row : HasRow d place.node row
  pub others : OthersWeighNought d.nodes place.node place.state (row - 1) → ⊥
  pub solvable : IsSolvable d
  pub bound : KeepsMovedBound d place.node place.state row

-- the text's fault, an unknown node, state or row, and a row without other states
abbrev pub place_stages : List ℕ → ℕ → List ℕ → List Stage
place_stages node row state = text_fault ∷ name_stages node state ++ unknown_row node row state
    ∷ no_others node row state ∷ []

-- these, then the solver's stages, then the weight bound of the changed diagrams, and else the
-- interval
abbrev pub moving : List ℕ → ℕ → List ℕ → Task
moving node row state = text_task
    (place_stages node row state ++ solver_stages ++ moved_bound node row state ∷ [])
    (HasThreshold node row state)

-- a chance node, one of its states and one of its rows, in which another state has weight
pub record IsCellPlace (d : DiagramView) (place : StatePlace) (row : ℕ) : Type 0 where
  pub kind : (node_at d.nodes place.node).kind ≡ Chance
  pub state : place.state < states_of d.nodes place.node
  pub has_row : HasRow d place.node row
  pub others : OthersWeighNought d.nodes place.node place.state (row - 1) → ⊥

-- what the stages of the row find there
abbrev pub row_pass : DiagramView → StatePlace → ℕ → List ℕ → Pass Refused
row_pass d place row name =
    stage UnknownRow (HasRow d place.node row) (TellsUnknownRow d place.node row)
    ▸ stage NoOthers (OthersWeighNought d.nodes place.node place.state (row - 1) → ⊥)
    (TellsNoOthers d place.node place.state row name)

-- and what that of the changed diagrams finds
abbrev pub moved_pass : DiagramView → NamesView → StatePlace → ℕ → Pass Refused
moved_pass d names place row =
    stage WeightBound (KeepsMovedBound d place.node place.state row)
    (TellsMovedBound d place.node place.state row names)

-- ---- of a row counted from 1
-- the interval is the only one on which the answer's rules stay best
abbrev pub IsOnlySpanAt : DiagramView → SolvedView → StatePlace → ℕ → Interval → Type 0
IsOnlySpanAt d solved place row interval =
    IsOnlySpan d solved place.node place.state (row - 1) interval

-- inside the interval the answer's rules stay subgame-perfect
abbrev pub StaysPerfectAt : DiagramView → SolvedView → StatePlace → ℕ → Interval → Type 0
StaysPerfectAt d solved place row interval =
    StaysPerfect d solved place.node place.state (row - 1) interval

-- the text of the bytes is that of the interval
abbrev pub IsThresholdText : NamesView → StatePlace → ℕ → Interval → Vec ℕ → Type 0
IsThresholdText names place row interval text =
    text.items ≡ threshold_text names place.node place.state row interval

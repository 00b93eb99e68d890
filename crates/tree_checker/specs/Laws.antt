-- Laws of verdicts.
use Rattle.std.specs.Prelude.{◌≡◌}
use Rattle.maid_model.specs.Views.{DiagramView, SolvedView}
use Rattle.maid_model.specs.Graph.{IsGraph}
use Rattle.maid_model.specs.Tables.{HasChanceTables}
use Rattle.maid_model.specs.Answers.{FitsDiagram}
use Rattle.maid_model.specs.Accepted.{IsAccepted}
use Rattle.tree_checker.specs.declared.verdicts.Verdict.{Verdict}
use Rattle.tree_checker.specs.Verdicts.{IsVerdict}
use Rattle.tree_checker.specs.Sound.{IsSound}

-- What a report can show has one verdict at most: so what is accepted isn't rejected, and only one
-- line is named.
abbrev pub OneVerdict : Type 0
OneVerdict =
    (d : DiagramView) (solved : SolvedView) (one other : Verdict) → FitsDiagram d solved
    → IsVerdict d solved one → IsVerdict d solved other → one ≡ other

-- Whatever is accepted is subgame-perfect.
abbrev pub AcceptedIsSound : Type 0
AcceptedIsSound = (d : DiagramView) (solved : SolvedView) → IsGraph d.nodes
    → HasChanceTables d.nodes → IsAccepted d solved → IsSound d solved

-- What `solve` writes: the report of the diagram's answer.
use Rattle.std.specs.Prelude.{◌≡◌, ℕ, List, [], ◌∷◌}
use Rattle.maid_model.specs.Answers.{IsAnswer, KeepsWorth, answered}
use Rattle.maid_model.specs.Names.{NamesView}
use Rattle.maid_model.specs.Placing.{HasRelianceOrder}
use Rattle.maid_model.specs.Reports.{report}
use Rattle.maid_model.specs.Scopes.{KeepsScopedBounds}
use Rattle.maid_model.specs.Subgames.{IsSubgamePerfect, IsOptimal, OwnsAll}
use Rattle.maid_model.specs.Values.{PrintsOptima}
use Rattle.maid_model.specs.Views.{DiagramView, SolvedView}
use Rattle.rule_solver.specs.Faults.{IsSmallEnough}
use Rattle.app_forms.specs.Stages.{Stage, text_fault, relevance_cycle, weight_bound, too_large}
use Rattle.app_forms.specs.Tasks.{Task, text_task}

-- The answer of the diagram, by definition and by what holds of it: its profile is subgame-perfect;
-- for an agent that owns all decisions no profile is worth more, and its printed fraction is the
-- optimum; and in a row of a live decision that the plan reaches the printed worth is that under
-- the plan.
pub record IsSolution (d : DiagramView) (solved : SolvedView) : Type 0 where
  pub is_answer : IsAnswer d solved
  pub subgame_perfect : IsSubgamePerfect d.nodes (answered d solved)
  pub optimal : (agent : ℕ) → OwnsAll d.nodes agent → IsOptimal d.nodes (answered d solved) agent
  pub optimum : PrintsOptima d solved
  pub worth : KeepsWorth d solved

-- the report of the answer
pub record HasReport (d : DiagramView) (names : NamesView) (printed : List ℕ) : Type 0 where
  pub solved : SolvedView
  pub solution : IsSolution d solved
  pub is_report : printed ≡ report d names solved

-- the diagram has an order of solving, keeps the weight bound in each scope, and its run keeps the
-- limits of cells and work
pub record IsSolvable (d : DiagramView) : Type 0 where
  pub order : HasRelianceOrder d.nodes
  pub bound : KeepsScopedBounds d
  pub small : IsSmallEnough d

-- why the solver refuses a diagram: its relevance cycle, the weight bound or too large a run
abbrev pub solver_stages : List Stage
solver_stages = relevance_cycle ∷ weight_bound ∷ too_large ∷ []

-- the text's fault, and then the solver's
abbrev pub solving_stages : List Stage
solving_stages = text_fault ∷ solver_stages

-- the first of them that applies, and else the report
abbrev pub solving : Task
solving = text_task solving_stages HasReport

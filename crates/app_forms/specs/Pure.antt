-- What `pure` writes: the first pure equilibrium.
use Rattle.std.specs.Prelude.{◌≡◌, ℕ, List, [], ◌∷◌, ◌++◌, codes}
use Rattle.app_lines.specs.Choices.{choice_lines}
use Rattle.maid_model.specs.Names.{NamesView}
use Rattle.maid_model.specs.Reports.{line, gain_lines}
use Rattle.maid_model.specs.Scopes.{KeepsScopedBounds}
use Rattle.maid_model.specs.Views.{DiagramView}
use Rattle.pure_search.specs.Faults.{IsSmall}
use Rattle.pure_search.specs.Found.{PureView, IsPureFound, IsStable}
use Rattle.app_forms.specs.Stages.{Stage, HasPureEquilibrium, text_fault, weight_bound, too_many_profiles, no_equilibrium}
use Rattle.app_forms.specs.Tasks.{Task, text_task}

-- the choices decision by decision, and what they are worth to each agent
abbrev pub pure_text : DiagramView → NamesView → PureView → List ℕ
pure_text d names found = line (codes "maidsolve pure 1")
    ++ choice_lines d.nodes names found.answers ++ gain_lines names 0 found.gains

-- the first pure equilibrium in text order, from which no agent gains by its own rules, pure or
-- mixed
pub record HasPure (d : DiagramView) (names : NamesView) (printed : List ℕ) : Type 0 where
  pub found : PureView
  pub is_found : IsPureFound d found
  pub stable : IsStable d found
  pub is : printed ≡ pure_text d names found

-- the diagram keeps the weight bound in each scope, its profiles and worlds can be listed, and one
-- of the profiles is an equilibrium
pub record HasFirstPure (d : DiagramView) : Type 0 where
  pub bound : KeepsScopedBounds d
  pub small : IsSmall d
  pub some : HasPureEquilibrium d

-- the weight bound, too many profiles or worlds, and no equilibrium
abbrev pub search_stages : List Stage
search_stages = weight_bound ∷ too_many_profiles ∷ no_equilibrium ∷ []

-- the text's fault, these stages, and else the equilibrium
abbrev pub searching : Task
searching = text_task (text_fault ∷ search_stages) HasPure

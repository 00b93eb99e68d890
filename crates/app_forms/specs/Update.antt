-- What `update` writes: the choices that no round of updating changes.
use Rattle.std.specs.Prelude.{◌≡◌, ℕ, List, [], ◌∷◌, ◌++◌, codes, decimal}
use Rattle.app_lines.specs.Choices.{choice_lines}
use Rattle.maid_model.specs.Names.{NamesView}
use Rattle.maid_model.specs.Reports.{line, gain_lines}
use Rattle.maid_model.specs.Scopes.{KeepsScopedBounds}
use Rattle.maid_model.specs.Views.{DiagramView}
use Rattle.policy_update.specs.Faults.{HasTwoOwners, IsSmallEnoughForUpdate, update_fault, update_pass}
use Rattle.policy_update.specs.Updated.{UpdatedView, IsUpdateOf, IsLocallyOptimal, RoundsRaise}
use Rattle.app_forms.specs.Stages.{Stage, AllRoundsRaise, text_fault, several_owners, weight_bound, update_too_large, rounds_spent}
use Rattle.app_forms.specs.Tasks.{Task, text_task}
use Rattle.first_fault.specs.Answers.{IsFaultOrNoMemory}
use Rattle.policy_update.specs.declared.faults.UpdateFault.{UpdateFault}

-- how many rounds raised, the choices decision by decision, and what they are worth to each agent
abbrev pub update_text : DiagramView → NamesView → UpdatedView → List ℕ
update_text d names updated =
    line (codes "maidsolve update 1") ++ line (codes "rounds " ++ decimal updated.rounds)
    ++ choice_lines d.nodes names updated.answers ++ gain_lines names 0 updated.gains

-- The choices before the first round that does not raise. No other rule of any one decision is
-- worth more, and each round that raises makes the expected utility greater.
pub record HasUpdate (d : DiagramView) (names : NamesView) (printed : List ℕ) : Type 0 where
  pub updated : UpdatedView
  pub is_update : IsUpdateOf d updated
  pub local : IsLocallyOptimal d updated
  pub rises : RoundsRaise d.nodes
  pub is : printed ≡ update_text d names updated

-- the diagram's decisions have one owner, it keeps the weight bound in each scope, updating keeps
-- the limits of cells and work, and one of the rounds does not raise
pub record CanBeUpdated (d : DiagramView) : Type 0 where
  pub one_owner : HasTwoOwners d.nodes → ⊥
  pub bound : KeepsScopedBounds d
  pub small : IsSmallEnoughForUpdate d
  pub settles : AllRoundsRaise d → ⊥

-- a second owner, the weight bound, too large a run, and rounds that all raise
abbrev pub update_stages : List Stage
update_stages = several_owners ∷ weight_bound ∷ update_too_large ∷ rounds_spent ∷ []

-- the text's fault, these stages, and else the result
abbrev pub updating : Task
updating = text_task (text_fault ∷ update_stages) HasUpdate

-- why the diagram is not updated in so many rounds, or that memory ran out
abbrev pub IsUpdateFault : DiagramView → ℕ → UpdateFault → Type 0
IsUpdateFault d rounds fault = IsFaultOrNoMemory update_fault (update_pass d rounds) fault

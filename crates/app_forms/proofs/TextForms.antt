-- A form with one text: the text's fault comes first, and what comes of the diagram then comes of
-- the text.
use Rattle.std.proofs.Common.{◌≡◌, ℕ, List, [], ◌∷◌, ◌++◌, Result, Err, refl}
use Rattle.first_fault.specs.Outcomes.{refusals as refusals_of}
use Rattle.maid_model.specs.Names.{NamesView}
use Rattle.maid_model.specs.Views.{DiagramView}
use Rattle.app_forms.specs.Answers.{Answers}
use Rattle.app_forms.specs.Asking.{agent_stages}
use Rattle.app_forms.specs.Diagrams.{IsDiagramOf}
use Rattle.app_forms.specs.Form.{task_by, text_request}
use Rattle.app_forms.specs.Given.{evidence_stages}
use Rattle.app_forms.specs.Outcome.{Written, Refused}
use Rattle.app_forms.specs.Pure.{search_stages}
use Rattle.app_forms.specs.Reading.{TellsFor, TellsOf, TellsTextFault, comes_for}
use Rattle.app_forms.specs.Refusal.{refused_as}
use Rattle.app_forms.specs.Request.{file_name}
use Rattle.app_forms.specs.Solve.{solver_stages}
use Rattle.app_forms.specs.Stages.{Stage, name_stages, text_fault}
use Rattle.app_forms.specs.Update.{update_stages}
use Rattle.app_forms.specs.declared.forms.TextForm.{TextForm}
use Rattle.app_forms.specs.declared.forms.TextForm.TheVariants.{Solve, Graph, Print, Trim, Pure, Update, Info, Control, Given, Threshold, Demo}
use Rattle.app_forms.specs.declared.refusal.Refusal.{Refusal}
use Rattle.app_forms.proofs.Moving.{late_stages, row_stages}
use Rattle.app_forms.proofs.Refusals.{found_too, text_refused}

-- the stages of each form begin with the text's fault
begins : (form : TextForm) → (later : List Stage) × ((task_by form).stages ≡ text_fault ∷ later)
begins (Solve file) = (solver_stages, refl)
begins (Graph file) = ([], refl)
begins (Print file) = ([], refl)
begins (Trim file) = ([], refl)
begins (Pure file) = (search_stages, refl)
begins (Update file) = (update_stages, refl)
begins (Info file agent) = (agent_stages agent.now, refl)
begins (Control file agent) = (agent_stages agent.now, refl)
begins (Given file node state) = (name_stages node.now state.now ++ evidence_stages node.now state.now, refl)
begins (Threshold file node row state) = (name_stages node.now state.now ++ row_stages node.now row state.now ++ late_stages node.now row state.now, refl)
begins (Demo k) = (solver_stages, refl)

module _ (form : TextForm) (bytes : List ℕ) where
  -- so bytes that stand for no diagram are refused
  pub text_told : (refusal : Refusal) → TellsTextFault (file_name (text_request form)) bytes refusal → TellsOf (Answers (text_request form) bytes) refusal
  unfolding Answers
  text_told refusal h = let begun = begins form in text_refused (task_by form) begun.0 (file_name (text_request form)) bytes refusal begun.1 h

  module _ (d : DiagramView) (names : NamesView) (is : IsDiagramOf bytes d names) where
    -- and what comes of the diagram for which they stand, comes of them
    pub answered_here : (outcome : Result Written Refused) → comes_for (task_by form) d names outcome → Answers (text_request form) bytes outcome
    unfolding Answers
    answered_here outcome h = h (file_name (text_request form)) bytes is

    pub told_here : (refusal : Refusal) → TellsFor (task_by form) d names refusal → TellsOf (Answers (text_request form) bytes) refusal
    told_here refusal h = found_too (refusals_of (comes_for (task_by form) d names)) (refusals_of (Answers (text_request form) bytes)) (λ f found. answered_here (Err f) found) (refused_as refusal) h

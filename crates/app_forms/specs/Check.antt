-- What `check` writes: the verdict on a report, which is a text of its own.
use Rattle.std.specs.Prelude.{◌≡◌, ℕ, List, [], ◌∷◌, ◌++◌, codes, decimal}
use Rattle.maid_model.specs.Names.{NamesView}
use Rattle.maid_model.specs.Reports.{line}
use Rattle.maid_model.specs.Scopes.{KeepsScopedBounds}
use Rattle.maid_model.specs.Views.{DiagramView, SolvedView}
use Rattle.report_text.specs.Reading.{IsReadAs}
use Rattle.tree_checker.specs.Sound.{IsSound}
use Rattle.tree_checker.specs.Verdicts.{IsVerdict}
use Rattle.tree_checker.specs.declared.verdicts.Cause.{Cause}
use Rattle.tree_checker.specs.declared.verdicts.Cause.TheVariants as causes
use Rattle.tree_checker.specs.declared.verdicts.Verdict.{Verdict}
use Rattle.tree_checker.specs.declared.verdicts.Verdict.TheVariants as verdicts
use Rattle.app_forms.specs.Diagrams.{of_diagram}
use Rattle.app_forms.specs.Outcome.{Written}
use Rattle.app_forms.specs.Stages.{text_fault, weight_bound, too_many_leaves, bad_line, HasFewLeaves}
use Rattle.app_forms.specs.Tasks.{Task}
use Rattle.app_forms.specs.declared.status.Status.{Status}
use Rattle.app_forms.specs.declared.status.Status.TheVariants as statuses

-- the word that tells why a report is rejected
abbrev pub cause_words : Cause → List ℕ
cause_words causes.Order = codes "order"
cause_words causes.Choice = codes "choice"
cause_words causes.Worth = codes "worth"
cause_words causes.Never = codes "never"
cause_words causes.Gain = codes "gain"

-- the line that tells a verdict
abbrev pub verdict_line : Verdict → List ℕ
verdict_line verdicts.Accepted = line (codes "accepted")
verdict_line (verdicts.Rejected at cause) =
    line (codes "rejected line " ++ decimal at ++ codes ": " ++ cause_words cause)

-- the status that a run with this verdict ends with
abbrev pub status_after : Verdict → Status
status_after verdicts.Accepted = statuses.Done
status_after (verdicts.Rejected at cause) = statuses.Rejected

-- The verdict on the report that the bytes are, by definition, and what holds of an accepted one.
pub record HasVerdict
    (d : DiagramView) (names : NamesView) (bytes : List ℕ) (output : Written) : Type 0 where
  pub solved : SolvedView
  pub is_report : IsReadAs d names bytes solved
  pub verdict : Verdict
  pub is_verdict : IsVerdict d solved verdict
  pub sound : verdict ≡ verdicts.Accepted → IsSound d solved
  pub ends : output.status ≡ status_after verdict
  pub says : output.text ≡ verdict_line verdict

-- what a diagram must keep so that a report of it is looked at
pub record CanBeChecked (d : DiagramView) : Type 0 where
  pub bound : KeepsScopedBounds d
  pub few : HasFewLeaves d

-- the stages of the diagram's file; nothing is written before the report's file is looked at
abbrev pub examining : Task
examining = record {
  stages = text_fault ∷ weight_bound ∷ too_many_leaves ∷ [];
  Gives = λ file output. ⊥;
}

-- a line with which no report of the text's diagram begins, and else the verdict on the report
abbrev pub judging : List ℕ → Task
judging text = record {
  stages = bad_line text ∷ [];
  Gives = λ file output. of_diagram text (λ d names. HasVerdict d names file.1) output;
}

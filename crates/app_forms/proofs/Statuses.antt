-- With which statuses a request ends: bytes are refused with one of bytes, and a text comes with
-- that of a run that is done or of a verdict.
use Rattle.std.proofs.Common.{◌≡◌, ◌⊎◌, inl, inr, ℕ, List, Some, Ok, Err, sym, subst}
use Rattle.first_fault.proofs.Kept.{each_only}
use Rattle.maid_io.specs.Device.{File}
use Rattle.tree_checker.specs.declared.verdicts.Verdict.{Verdict}
use Rattle.tree_checker.specs.declared.verdicts.Verdict.TheVariants as verdicts
use Rattle.app_forms.specs.Answers.{Answers, task_of}
use Rattle.app_forms.specs.Check.{status_after}
use Rattle.app_forms.specs.Laws.{IsOfBytes, IsOfText}
use Rattle.app_forms.specs.Outcome.{Written, Refused}
use Rattle.app_forms.specs.Request.{Request, solve, check, judge, graph, print, trim, pure, update, info, control, evidence, threshold, demo, file_name}
use Rattle.app_forms.specs.Stages.{Stage, text_fault, unknown_agent, relevance_cycle, weight_bound, too_large, too_many_profiles, no_equilibrium, several_owners, update_too_large, rounds_spent, unknown_node, unknown_state, below_decision, rules_given, cycle_given, bound_given, size_given, impossible, unknown_row, no_others, moved_bound, too_many_leaves, bad_line, Finds}
use Rattle.app_forms.specs.Tasks.{Task, comes_of}
use Rattle.app_forms.specs.declared.status.Status.{Status}
use Rattle.app_forms.specs.declared.status.Status.TheVariants.{Done, Rejected}

abbrev HasStatusOfBytes : Refused → Type 0
HasStatusOfBytes refusal = IsOfBytes refusal.status

-- each stage refuses with a status of bytes
finds_of_bytes : (s : Stage) (file : File) (refusal : Refused) → Finds s file (Some refusal) → HasStatusOfBytes refusal
finds_of_bytes text_fault file refusal h = subst IsOfBytes (sym h.0) tt
finds_of_bytes (unknown_agent agent) file refusal h = subst IsOfBytes (sym h.2.0) tt
finds_of_bytes relevance_cycle file refusal h = subst IsOfBytes (sym h.2.0) tt
finds_of_bytes weight_bound file refusal h = subst IsOfBytes (sym h.2.0) tt
finds_of_bytes too_large file refusal h = subst IsOfBytes (sym h.2.0) tt
finds_of_bytes too_many_profiles file refusal h = subst IsOfBytes (sym h.2.0) tt
finds_of_bytes no_equilibrium file refusal h = subst IsOfBytes (sym h.2.0) tt
finds_of_bytes several_owners file refusal h = subst IsOfBytes (sym h.2.0) tt
finds_of_bytes update_too_large file refusal h = subst IsOfBytes (sym h.2.0) tt
finds_of_bytes rounds_spent file refusal h = subst IsOfBytes (sym h.2.0) tt
finds_of_bytes (unknown_node node) file refusal h = subst IsOfBytes (sym h.2.0) tt
finds_of_bytes (unknown_state node state) file refusal h = subst IsOfBytes (sym h.2.0) tt
finds_of_bytes (below_decision node state) file refusal h = subst IsOfBytes (sym h.2.2.0) tt
finds_of_bytes (rules_given node state) file refusal h = subst IsOfBytes (sym h.2.2.0) tt
finds_of_bytes (cycle_given node state) file refusal h = subst IsOfBytes (sym h.2.2.0) tt
finds_of_bytes (bound_given node state) file refusal h = subst IsOfBytes (sym h.2.2.0) tt
finds_of_bytes (size_given node state) file refusal h = subst IsOfBytes (sym h.2.2.0) tt
finds_of_bytes (impossible node state) file refusal h = subst IsOfBytes (sym h.2.2.0) tt
finds_of_bytes (unknown_row node row state) file refusal h = subst IsOfBytes (sym h.2.2.0) tt
finds_of_bytes (no_others node row state) file refusal h = subst IsOfBytes (sym h.2.2.0) tt
finds_of_bytes (moved_bound node row state) file refusal h = subst IsOfBytes (sym h.2.2.0) tt
finds_of_bytes too_many_leaves file refusal h = subst IsOfBytes (sym h.2.0) tt
finds_of_bytes (bad_line text) file refusal h = subst IsOfBytes (sym h.2.0) tt

-- and so does a task, which refuses by its stages alone
of_stages : (task : Task) (name bytes : List ℕ) (refusal : Refused) → comes_of task name bytes (Err refusal) → HasStatusOfBytes refusal
unfolding comes_of
of_stages task name bytes refusal (inl h) = each_only HasStatusOfBytes (λ s. Finds s (name, bytes)) (λ s f found. finds_of_bytes s (name, bytes) f found) task.stages refusal h
of_stages task name bytes refusal (inr h) = absurd h.1

pub refused_as_bytes : (request : Request) (bytes : List ℕ) (refusal : Refused) → Answers request bytes (Err refusal) → IsOfBytes refusal.status
unfolding Answers
refused_as_bytes request bytes refusal h = of_stages (task_of request) (file_name request) bytes refusal h

verdict_ends : (status : Status) (verdict : Verdict) → status ≡ status_after verdict → (status ≡ Done) ⊎ (status ≡ Rejected)
verdict_ends status verdicts.Accepted e = inl e
verdict_ends status (verdicts.Rejected line cause) e = inr e

-- what each task gives is of a run that is done, or of a verdict
pub written_as_text : (request : Request) (bytes : List ℕ) (output : Written) → Answers request bytes (Ok output) → IsOfText request output.status
unfolding Answers comes_of
written_as_text (solve file) bytes output h = h.1.0
written_as_text (check file report) bytes output h = h.1
written_as_text (judge text report) bytes output h = verdict_ends output.status h.1.2.verdict h.1.2.ends
written_as_text (graph file) bytes output h = h.1.0
written_as_text (print file) bytes output h = h.1.0
written_as_text (trim file) bytes output h = h.1.0
written_as_text (evidence file node state) bytes output h = h.1.0
written_as_text (threshold file node row state) bytes output h = h.1.0
written_as_text (pure file) bytes output h = h.1.0
written_as_text (update file) bytes output h = h.1.0
written_as_text (info file agent) bytes output h = h.1.0
written_as_text (control file agent) bytes output h = h.1.0
written_as_text (demo k) bytes output h = h.1.0

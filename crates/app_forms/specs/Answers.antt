-- What comes of each request on its text's bytes: the one definition of what the program answers.
use Rattle.std.specs.Prelude.{ℕ, List, None}
use Rattle.first_fault.specs.Outcomes.{Outcomes}
use Rattle.first_fault.specs.Passes.{each}
use Rattle.maid_model.specs.Names.{NamesView}
use Rattle.maid_model.specs.Views.{DiagramView}
use Rattle.app_forms.specs.Asking.{CanBeAsked}
use Rattle.app_forms.specs.Check.{CanBeChecked, examining, judging}
use Rattle.app_forms.specs.Control.{weighing_control}
use Rattle.app_forms.specs.Demo.{summing}
use Rattle.app_forms.specs.Given.{CanBeGiven, conditioning}
use Rattle.app_forms.specs.Graph.{graphing}
use Rattle.app_forms.specs.Info.{weighing_information}
use Rattle.app_forms.specs.Outcome.{Written, Refused}
use Rattle.app_forms.specs.Print.{printing}
use Rattle.app_forms.specs.Pure.{HasFirstPure, searching}
use Rattle.app_forms.specs.Request.{Request, solve, check, judge, graph, print, trim, pure, update, info, control, evidence, threshold, demo, file_name}
use Rattle.app_forms.specs.Solve.{IsSolvable, solving}
use Rattle.app_forms.specs.Stages.{Finds}
use Rattle.app_forms.specs.Tasks.{Task, comes_of}
use Rattle.app_forms.specs.Threshold.{CanBeMoved, moving}
use Rattle.app_forms.specs.Trim.{trimming}
use Rattle.app_forms.specs.Update.{CanBeUpdated, updating}

-- the task of each form of words
abbrev pub task_of : Request → Task
task_of (solve file) = solving
task_of (check file report) = examining
task_of (judge text report) = judging text
task_of (graph file) = graphing
task_of (print file) = printing
task_of (trim file) = trimming
task_of (pure file) = searching
task_of (update file) = updating
task_of (info file agent) = weighing_information agent
task_of (control file agent) = weighing_control agent
task_of (evidence file node state) = conditioning node state
task_of (threshold file node row state) = moving node row state
task_of (demo k) = summing k

-- no stage of the request finds anything in its text's bytes
abbrev pub FindsNothing : Request → List ℕ → Type 0
FindsNothing request bytes =
    each (λ s. Finds s (file_name request, bytes)) (task_of request).stages None

-- What a diagram and its names must keep so that its text comes: `solve` and `demo` ask for an
-- order of solving, the weight bound and a run within the limits, `info` and `control` ask for the
-- agent too, `pure`, `update`, `given` and `threshold` for what their own stages look for, `check`
-- for the weight bound and few leaves, and the others for nothing. What is judged is no diagram.
abbrev pub CanAnswer : Request → DiagramView → NamesView → Type 0
CanAnswer (solve file) d names = IsSolvable d
CanAnswer (check file report) d names = CanBeChecked d
CanAnswer (judge text report) d names = ⊥
CanAnswer (graph file) d names = Unit {0}
CanAnswer (print file) d names = Unit {0}
CanAnswer (trim file) d names = Unit {0}
CanAnswer (pure file) d names = HasFirstPure d
CanAnswer (update file) d names = CanBeUpdated d
CanAnswer (info file agent) d names = CanBeAsked agent d names
CanAnswer (control file agent) d names = CanBeAsked agent d names
CanAnswer (evidence file node state) d names = CanBeGiven node state d names
CanAnswer (threshold file node row state) d names = CanBeMoved node row state d names
CanAnswer (demo k) d names = IsSolvable d

-- what comes of the request on its text's bytes: an output, or a refusal
unfoldable pub Answers : Request → List ℕ → Outcomes Written Refused
Answers request bytes = comes_of (task_of request) (file_name request) bytes

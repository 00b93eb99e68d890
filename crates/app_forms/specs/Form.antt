-- The forms of the code.
use Rattle.app_forms.specs.Answers.{task_of}
use Rattle.app_forms.specs.Request.{Request, solve, check, graph, print, trim, pure, update, info, control, evidence, threshold, demo}
use Rattle.app_forms.specs.Tasks.{Task}
use Rattle.app_forms.specs.declared.forms.Form.{Form}
use Rattle.app_forms.specs.declared.forms.Form.TheVariants.{Text, Check}
use Rattle.app_forms.specs.declared.forms.TextForm.{TextForm}
use Rattle.app_forms.specs.declared.forms.TextForm.TheVariants.{Solve, Graph, Print, Trim, Pure, Update, Info, Control, Given, Threshold, Demo}
use Rattle.std.specs.Prelude.{◌≡◌, Option}
use Rattle.std.specs.Option.{option_map}

-- the request that a form with one text stands for
abbrev pub text_request : TextForm → Request
text_request (Solve file) = solve file.now
text_request (Graph file) = graph file.now
text_request (Print file) = print file.now
text_request (Trim file) = trim file.now
text_request (Pure file) = pure file.now
text_request (Update file) = update file.now
text_request (Info file agent) = info file.now agent.now
text_request (Control file agent) = control file.now agent.now
text_request (Given file node state) = evidence file.now node.now state.now
text_request (Threshold file node row state) = threshold file.now node.now row state.now
text_request (Demo k) = demo k

-- and its task
abbrev pub task_by : TextForm → Task
task_by form = task_of (text_request form)

-- the request that a form stands for
abbrev pub request_by : Form → Request
request_by (Text form) = text_request form
request_by (Check file report) = check file.now report.now

-- the form that the words have is that of the request, and none where there is none
abbrev pub IsFormOf : Option Form → Option Request → Type 0
IsFormOf form request = option_map request_by form ≡ request

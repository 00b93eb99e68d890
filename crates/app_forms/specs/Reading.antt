-- What is given for a file's bytes, or told where they are refused.
use Rattle.std.specs.Prelude.{◌≡◌, ℕ, List, Ok, MatchResult, Result}
use Rattle.std.specs.Global.{Vec}
use Rattle.first_fault.specs.Answers.{IsFaultOrNoMemory}
use Rattle.first_fault.specs.Outcomes.{Outcomes, refusals}
use Rattle.first_fault.specs.Passes.{Pass, always, each}
use Rattle.maid_model.specs.Names.{NamesView, NamesFit, IsFirstPlace}
use Rattle.maid_model.specs.Views.{DiagramView}
use Rattle.report_text.specs.Reading.{AreTold}
use Rattle.app_forms.specs.Check.{CanBeChecked, judging}
use Rattle.app_forms.specs.Diagrams.{IsDiagramOf}
use Rattle.app_forms.specs.Lines.{fault_line}
use Rattle.app_forms.specs.Outcome.{Written, Refused, refused, done_with, written}
use Rattle.app_forms.specs.Refusal.{refused_as}
use Rattle.app_forms.specs.Solve.{IsSolution, IsSolvable}
use Rattle.app_forms.specs.Stages.{Stage, Finds, text_fault}
use Rattle.app_forms.specs.Tasks.{comes_of, Task}
use Rattle.app_forms.specs.declared.forms.asking.Asked.{Asked}
use Rattle.app_forms.specs.declared.output.Output.{Output}
use Rattle.app_forms.specs.declared.refusal.Refusal.{Refusal}
use Rattle.app_forms.specs.declared.refusal.Refusal.TheVariants as refusal_variants
use Rattle.app_forms.specs.declared.status.Status.{Status}
use Rattle.app_forms.specs.declared.status.Status.TheVariants.{TextFault}
use Rattle.app_forms.specs.declared.reading.Source.{Source}
use Rattle.net_parser.specs.Faults.{parse_fault, tree_pass}
use Rattle.net_parser.specs.Grammar.{Spells}
use Rattle.net_parser.specs.Lexemes.{lexemes}
use Rattle.net_parser.specs.Trees.{BlockTree}
use Rattle.net_parser.specs.declared.parsing.ParseFault.{ParseFault}
use Rattle.net_lexer.specs.declared.tokens.Token.{Token}
use Rattle.net_build.specs.Passes.{build_fault}
use Rattle.net_build.specs.Table.{all_passes}
use Rattle.net_build.specs.declared.faults.BuildFault.{BuildFault}

-- that status and that line, or that memory ran out
abbrev pub TellsLine : Status → List ℕ → Refusal → Type 0
TellsLine status line refusal = IsFaultOrNoMemory refused_as (always (refused status line)) refusal

-- the text's fault, or that memory ran out
abbrev pub TellsTextFault : List ℕ → List ℕ → Refusal → Type 0
TellsTextFault name bytes refusal =
    IsFaultOrNoMemory refused_as (Finds text_fault (name, bytes)) refusal

-- what the stages find in any bytes that stand for the diagram
abbrev pub found_by : DiagramView → NamesView → List Stage → Pass Refused
found_by d names stages found = (name bytes : List ℕ) → IsDiagramOf bytes d names
    → each (λ s. Finds s (name, bytes)) stages found

-- that, or that memory ran out
abbrev pub TellsFound : DiagramView → NamesView → List Stage → Refusal → Type 0
TellsFound d names stages refusal = IsFaultOrNoMemory refused_as (found_by d names stages) refusal

-- no stage of solving refuses the diagram, this is its answer, and the agent has that number in it
pub record IsAsked
    (agent : List ℕ) (d : DiagramView) (names : NamesView) (asked : Asked) : Type 0 where
  pub solvable : IsSolvable d
  pub solution : IsSolution d asked.solved
  pub is_agent : IsFirstPlace names.agents agent asked.agent

-- the bytes stand for that diagram, which a check can look at, and its names are told apart
pub record IsExamined (bytes : List ℕ) (d : DiagramView) (names : NamesView) : Type 0 where
  pub is : IsDiagramOf bytes d names
  pub fit : NamesFit d names
  pub told : AreTold names
  pub can : CanBeChecked d

-- what comes of the task on any file whose bytes stand for the diagram
abbrev pub comes_for : Task → DiagramView → NamesView → Outcomes Written Refused
comes_for task d names outcome =
    (name bytes : List ℕ) → IsDiagramOf bytes d names → comes_of task name bytes outcome

-- what comes of the second step of a check on that file, whatever text stands for the diagram
abbrev pub Judges : DiagramView → NamesView → List ℕ → List ℕ → Outcomes Written Refused
Judges d names name bytes outcome =
    (text : List ℕ) → IsDiagramOf text d names → comes_of (judging text) name bytes outcome

-- this text does, and the run is done
abbrev pub Finishes : Outcomes Written Refused → Vec ℕ → Type 0
Finishes Comes text = Comes (Ok (done_with text.items))

-- this text comes of the task on the diagram, and the run is done
abbrev pub Prints : Task → DiagramView → NamesView → Vec ℕ → Type 0
Prints task d names text = Finishes (comes_for task d names) text

-- this output does
abbrev pub GivesOutput : Outcomes Written Refused → Output → Type 0
GivesOutput Comes output = Comes (Ok (written output.status output.text.items))

-- what the stages find, or that memory ran out
abbrev pub TellsOf : Outcomes Written Refused → Refusal → Type 0
TellsOf Comes refusal = IsFaultOrNoMemory refused_as (refusals Comes) refusal

-- the refusal is what comes of the task on the diagram
abbrev pub TellsFor : Task → DiagramView → NamesView → Refusal → Type 0
TellsFor task d names refusal = TellsOf (comes_for task d names) refusal

-- it tells the words of a fault of the source's bytes at that place, or that memory ran out
abbrev pub TellsFaultAt : Source → ℕ → List ℕ → Refusal → Type 0
TellsFaultAt source at words refusal =
    TellsLine TextFault (fault_line source.name.now source.bytes.now at words) refusal

-- it tells that status and the line, if there was memory for the line
abbrev pub TellsIfMade : {E : Type 0} → Status → Result (Vec ℕ) E → Refusal → Type 0
TellsIfMade status line refusal =
    MatchResult line (λ made. TellsLine status made.items refusal) (λ _. refusal ≡ refusal_variants.NoMemory)

-- ---- the faults of tokens and of a tree that stand for no diagram
-- the tokens spell no tree: the first impossible token, or that memory ran out
abbrev pub IsTreeFault : List ℕ → List Token → ParseFault → Type 0
IsTreeFault bytes tokens fault = IsFaultOrNoMemory parse_fault (tree_pass bytes tokens) fault

-- no diagram stands for the tree: the first fault of the passes, or that memory ran out
abbrev pub IsFaultOfTree : List ℕ → List BlockTree → BuildFault → Type 0
IsFaultOfTree bytes tree fault = IsFaultOrNoMemory build_fault (all_passes bytes tree) fault

-- the tokens of the bytes spell the tree
abbrev pub IsSpelled : List ℕ → List Token → List BlockTree → Type 0
IsSpelled bytes tokens tree = Spells tree (lexemes bytes tokens)

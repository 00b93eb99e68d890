-- Which texts are reports of a diagram, and at which line a text is none.
use Rattle.std.specs.Prelude.{◌≡◌, ◌≢◌, ℕ, ◌-◌, ◌<◌, ◌^◌, List, [], ◌∷◌, ◌==◌, if◌then◌else◌, All, AllPairs, IfSome, Option, Some, None, take, FitsSigned}
use Rattle.std.specs.Int.{w128}
use Rattle.std.specs.List.{onto_first}
use Rattle.first_fault.specs.Answers.{IsFaultOrNoMemory}
use Rattle.first_fault.specs.Passes.{Pass}
use Rattle.maid_model.specs.declared.answers.Ratio.{Ratio}
use Rattle.maid_model.specs.declared.answers.Row.{Row}
use Rattle.maid_model.specs.Views.{DiagramView, AnswerView, SolvedView}
use Rattle.maid_model.specs.Names.{NamesView}
use Rattle.maid_model.specs.Answers.{IsReduced, FitsDiagram}
use Rattle.maid_model.specs.Reports.{IsOneLine, report}
use Rattle.report_text.specs.declared.reading.ReportFault.{ReportFault}
use Rattle.report_text.specs.declared.reading.ReportFault.TheVariants.{BadLine, NoMemory}

-- no byte ends a line or is a space
abbrev pub IsOneWord : List ℕ → Type 0
IsOneWord bytes = All (λ byte. (byte ≢ 10) × (byte ≢ 32)) bytes

-- names that a report tells apart: the nodes' differ and are words, and no label and no agent has a
-- line's end
pub record AreTold (names : NamesView) : Type 0 where
  pub differ : AllPairs (λ name later. name ≢ later) names.nodes
  pub words : All IsOneWord names.nodes
  pub labels : All (All IsOneLine) names.labels
  pub agents : All IsOneLine names.agents

-- a reduced fraction whose two numbers fit 128 bits
pub record FitsRatio (r : Ratio) : Type 0 where
  pub reduced : IsReduced r
  pub num : FitsSigned w128 r.num
  pub den : r.den < 2 ^ 128

-- a row whose worth, where it has one, is such a fraction
abbrev pub HasRatio : Row → Type 0
HasRatio row = IfSome row.worth FitsRatio

-- a value that a report of the diagram can show
pub record CanStand (d : DiagramView) (solved : SolvedView) : Type 0 where
  pub fits : FitsDiagram d solved
  pub worths : All (λ (answer : AnswerView). All HasRatio answer.rows) solved.answers
  pub gains : All FitsRatio solved.gains

-- the value stands, and the text is its report
pub record IsReadAs
    (d : DiagramView) (names : NamesView) (text : List ℕ) (solved : SolvedView) : Type 0 where
  pub value : CanStand d solved
  pub is : text ≡ report d names solved

-- the lines of a text, each up to and with its LF; a last piece without LF is a line too
abbrev pub lines_of : List ℕ → List (List ℕ)
lines_of [] = []
lines_of (byte ∷ bytes) =
    if byte == 10 then (10 ∷ []) ∷ lines_of bytes else onto_first byte (lines_of bytes)

-- some report of the diagram has the text's first n lines, and no further one among its first n
-- where the text has none
abbrev pub BeginsReport : DiagramView → NamesView → List ℕ → ℕ → Type 0
BeginsReport d names text n = (solved : SolvedView) × CanStand d solved
    × (take n (lines_of text) ≡ take n (lines_of (report d names solved)))

-- the least line, counted from 1, up to and with which no report has the text's lines; behind the
-- last line where the text ends too early
pub record IsBadLine (d : DiagramView) (names : NamesView) (text : List ℕ) (line : ℕ) : Type 0 where
  pub before : BeginsReport d names text (line - 1)
  pub none : BeginsReport d names text line → ⊥

-- The pass over a text: nothing is found where it is a report, and else its bad line.
abbrev pub report_pass : DiagramView → NamesView → List ℕ → Pass ℕ
report_pass d names text None = (solved : SolvedView) × IsReadAs d names text solved
report_pass d names text (Some line) = IsBadLine d names text line

-- the bad line that an error is, or None where memory ran out, which says nothing of the text
abbrev pub bad_line : ReportFault → Option ℕ
bad_line (BadLine line) = Some line
bad_line NoMemory = None

-- the error is the text's bad line, or that memory ran out
abbrev pub IsBadLineOrNoMemory : DiagramView → NamesView → List ℕ → ReportFault → Type 0
IsBadLineOrNoMemory d names text fault = IsFaultOrNoMemory bad_line (report_pass d names text) fault

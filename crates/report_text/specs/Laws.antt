-- Laws of reports: one text for one value, both ways.
use Rattle.std.specs.Prelude.{◌≡◌, ◌↔◌, ℕ, List}
use Rattle.first_fault.specs.Properties.{IsExclusive, HasOneFault}
use Rattle.maid_model.specs.Views.{DiagramView, SolvedView}
use Rattle.maid_model.specs.Names.{NamesView, NamesFit}
use Rattle.maid_model.specs.Diagrams.{IsDiagram}
use Rattle.maid_model.specs.Reports.{report}
use Rattle.report_text.specs.Reading.{AreTold, CanStand, IsReadAs, report_pass}

-- a diagram with names that fit it and that a report tells apart
pub record IsToldApart (d : DiagramView) (names : NamesView) : Type 0 where
  pub diagram : IsDiagram d
  pub fit : NamesFit d names
  pub told : AreTold names

-- a text is read as one value at most
abbrev pub OneValue : Type 0
OneValue = (d : DiagramView) (names : NamesView) (text : List ℕ) (solved other : SolvedView)
    → IsToldApart d names → IsReadAs d names text solved → IsReadAs d names text other → solved ≡ other

-- what is printed of a value is read as that value and as no other
abbrev pub ReportReadsBack : Type 0
ReportReadsBack = (d : DiagramView) (names : NamesView) (solved other : SolvedView) → IsToldApart d names
    → CanStand d solved → IsReadAs d names (report d names solved) other ↔ (other ≡ solved)

-- a text that is a report has no bad line
abbrev pub Exclusive : Type 0
Exclusive =
    (d : DiagramView) (names : NamesView) (text : List ℕ) → IsExclusive (report_pass d names text)

-- a text has one bad line at most
abbrev pub OneBadLine : Type 0
OneBadLine =
    (d : DiagramView) (names : NamesView) (text : List ℕ) → HasOneFault (report_pass d names text)

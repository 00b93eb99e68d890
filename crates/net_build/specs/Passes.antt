-- What the passes over a text's tree find: a fault, and its place in the text.
use Rattle.std.specs.Prelude.{ℕ, List, Option, None, Some}
use Rattle.net_build.specs.declared.faults.Limit.{Limit}
use Rattle.net_build.specs.declared.faults.BuildKind.{BuildKind}
use Rattle.net_build.specs.declared.faults.BuildKind.TheVariants as kinds
use Rattle.net_build.specs.declared.faults.BuildFault.{BuildFault}
use Rattle.net_build.specs.declared.faults.BuildFault.TheVariants.{Fault, NoMemory}

-- what a fault is, with the plain list in a graph's cycle
pub data KindView : Type 0 where
  DoubleName : KindView
  DoubleAttribute : KindView
  MissingStates : KindView
  BadStates : KindView
  BadLabel : KindView
  BadAgent : KindView
  RepeatedAgent : KindView
  UnknownName : KindView
  DoublePotential : KindView
  RepeatedParent : KindView
  UtilityParent : KindView
  MissingTable : KindView
  GraphCycle : List ℕ → KindView
  NotANumber : KindView
  WrongCount : ℕ → ℕ → KindView
  NumberTooLong : KindView
  Negative : KindView
  ZeroRow : KindView
  WideWeight : KindView
  WideValue : KindView
  LimitPassed : Limit → ℕ → KindView

-- what the code calls a fault, as one of these
abbrev pub kind_view : BuildKind → KindView
kind_view kinds.DoubleName = DoubleName
kind_view kinds.DoubleAttribute = DoubleAttribute
kind_view kinds.MissingStates = MissingStates
kind_view kinds.BadStates = BadStates
kind_view kinds.BadLabel = BadLabel
kind_view kinds.BadAgent = BadAgent
kind_view kinds.RepeatedAgent = RepeatedAgent
kind_view kinds.UnknownName = UnknownName
kind_view kinds.DoublePotential = DoublePotential
kind_view kinds.RepeatedParent = RepeatedParent
kind_view kinds.UtilityParent = UtilityParent
kind_view kinds.MissingTable = MissingTable
kind_view (kinds.GraphCycle cycle) = GraphCycle cycle.items
kind_view kinds.NotANumber = NotANumber
kind_view (kinds.WrongCount want got) = WrongCount want got
kind_view kinds.NumberTooLong = NumberTooLong
kind_view kinds.Negative = Negative
kind_view kinds.ZeroRow = ZeroRow
kind_view kinds.WideWeight = WideWeight
kind_view kinds.WideValue = WideValue
kind_view (kinds.LimitPassed which got) = LimitPassed which got

-- a fault and its place in the text
pub record Found : Type 0 where
  pub at : ℕ
  pub kind : KindView

-- a fault of that kind at that place
abbrev pub found : ℕ → KindView → Found
found at kind = record { at = at; kind = kind }

-- the fault in an error, or None where memory ran out, which says nothing of the text
abbrev pub build_fault : BuildFault → Option Found
build_fault NoMemory = None
build_fault (Fault at kind) = Some (found at (kind_view kind))
